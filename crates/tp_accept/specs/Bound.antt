-- The bound: how many instruction bytes can be executed from an address on, at most.
use Rattle.std.specs.Prelude.{ℕ, ◌+◌, ◌*◌, ◌==◌, max, List, [], ◌∷◌, length, find, Option, Some, None, if◌then◌else◌}
use Rattle.std.specs.Option.{option_map_or}
use Rattle.tp_image.specs.declared.image.LoopRow.{LoopRow}
use Rattle.tp_decode.specs.declared.instr.Instr.{Instr}
use Rattle.tp_decode.specs.declared.instr.Instr.TheVariants.{Jump, Cj, Lend, Stopp}
use Rattle.tp_decode.specs.Cutting.{Cut, cut_at}
use Rattle.tp_flow.specs.Edges.{jump_target}

-- what can be executed from an address on, in bytes:
--   left: to the end of the innermost loop around it, or of the code
--   whole: the same, where a loop that begins there makes all its turns before what lies behind it
pub record Cost : Type 0 where
  pub left : ℕ
  pub whole : ℕ

abbrev pub nothing : Cost
nothing = record { left = 0; whole = 0 }

-- the cost of each address
abbrev pub Costs : Type 0
Costs = ℕ → Cost

abbrev pub with_cost : Costs → ℕ → Cost → Costs
with_cost costs at cost = λ to. if to == at then cost else costs to

abbrev pub whole_at : Costs → Option ℕ → ℕ
whole_at costs to = option_map_or (λ to. (costs to).whole) to 0

-- an instruction of n bytes, before the next one at an address: its bytes, and the worst that follows
abbrev pub left_of : Costs → ℕ → ℕ → Instr → ℕ
left_of costs n next Stopp = n
left_of costs n next Lend = n
left_of costs n next (Jump operand) = n + whole_at costs (jump_target next operand)
left_of costs n next (Cj operand) = n + max (whole_at costs (Some next)) (whole_at costs (jump_target next operand))
left_of costs n next instr = n + whole_at costs (Some next)

-- the address behind the instruction at an address
abbrev pub behind : List Cut → ℕ → ℕ
behind code at = option_map_or (λ cut. at + length cut.bytes) (cut_at code at) at

-- the loop that begins at an address
abbrev pub begun_at : List LoopRow → ℕ → Option LoopRow
begun_at rows at = find (λ row. row.head == at) rows

-- where a loop begins, all its turns and what lies behind its lend
abbrev pub whole_of : List Cut → Costs → ℕ → Option LoopRow → ℕ
whole_of code costs left None = left
whole_of code costs left (Some row) = row.count * left + (costs (behind code row.lend)).whole

-- the cost of an instruction of n bytes at an address, from the costs behind it
abbrev pub cost_of : List LoopRow → List Cut → Costs → ℕ → ℕ → Instr → Cost
cost_of rows code costs at n instr =
    let left = left_of costs n (at + n) instr in
    record { left = left; whole = whole_of code costs left (begun_at rows at) }

abbrev pub with_instruction : List LoopRow → List Cut → Costs → ℕ → Cut → Costs
with_instruction rows code costs at cut = with_cost costs at (cost_of rows code costs at (length cut.bytes) cut.instr)

-- the costs of instructions, the first of them at an address: from the last to the first
abbrev pub costs_from : List LoopRow → List Cut → ℕ → List Cut → Costs
costs_from rows code at [] = λ to. nothing
costs_from rows code at (cut ∷ cuts) =
    with_instruction rows code (costs_from rows code (at + length cut.bytes) cuts) at cut

-- the costs of a code with loops
abbrev pub costs_of : List LoopRow → List Cut → Costs
costs_of rows code = costs_from rows code 0 code

-- the most bytes of a whole run
unfoldable pub bound : List LoopRow → List Cut → ℕ
bound rows code = (costs_of rows code 0).whole
