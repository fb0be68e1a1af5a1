-- When an instruction breaks a rule of flow.
use Rattle.std.specs.Prelude.{ℕ, Bool, true, ◌&&◌, ◌||◌, not, nat_le, ◌==◌, List, [], ◌∷◌, ◌++◌, length, Option, Some}
use Rattle.std.specs.Prelude.{None, is_none, if◌then◌else◌, ℤ}
use Rattle.std.specs.List.{list_any}
use Rattle.std.specs.Int.{is_negative}
use Rattle.tp_decode.specs.declared.instr.Instr.{Instr}
use Rattle.tp_decode.specs.declared.placed.Placed.{Placed}
use Rattle.tp_decode.specs.Cutting.{Cut}
use Rattle.tp_image.specs.Image.{ImageValue}
use Rattle.tp_flow.specs.declared.edge.Edge.TheVariants.{Next, Out}
use Rattle.tp_flow.specs.declared.fault.FlowCode.{FlowCode}
use Rattle.tp_flow.specs.declared.fault.FlowCode.TheVariants.{J1, J2, J3, J4, J5, J7}
use Rattle.tp_flow.specs.declared.range.LoopRange.{LoopRange}
use Rattle.tp_flow.specs.NestRanges.{ranges, contains, number_ended_at}
use Rattle.tp_flow.specs.Edges.{has_edge, jump_operand, jump_target}
use Rattle.tp_flow.specs.RowRules.{is_start, is_lend}

-- J7: a lend that no row names
abbrev pub is_orphan_lend : List LoopRange → ℕ → Instr → Bool
is_orphan_lend nest at instr = is_lend instr && is_none (number_ended_at nest at)

-- J2: the target lies outside the code
abbrev pub is_outside : List ℕ → Option ℕ → Bool
is_outside code None = true
is_outside code (Some to) = nat_le (length code) to

-- J3: the jump goes back
abbrev pub goes_back : ℤ → Bool
goes_back n = is_negative n

-- J1: the target is no instruction start
abbrev pub is_no_start : List Cut → Option ℕ → Bool
is_no_start cuts None = true
is_no_start cuts (Some to) = not (is_start cuts to)

-- from an address in the loop to one outside it
abbrev pub leaves : ℕ → ℕ → LoopRange → Bool
leaves at to range = contains range at && not (contains range to)

-- from outside the loop to an address in it that is not its head
abbrev pub enters_inside : ℕ → ℕ → LoopRange → Bool
enters_inside at to range = not (contains range at) && contains range to && not (to == range.head)

-- J4: the target leaves a loop, or enters one at another place than its head
abbrev pub breaks_the_nest : List LoopRange → ℕ → Option ℕ → Bool
breaks_the_nest nest at None = true
breaks_the_nest nest at (Some to) = list_any (λ range. leaves at to range || enters_inside at to range) nest

-- J5: control goes on behind the instruction, where the code ends
abbrev pub runs_off : List ℕ → ℕ → Instr → Bool
runs_off code next instr = (has_edge instr Next || has_edge instr Out) && (next == length code)

-- A rule: where it is broken, the instruction is refused.
pub record Rule : Type 0 where
  pub is_broken : Bool
  pub code : FlowCode

abbrev pub rule : Bool → FlowCode → Rule
rule is_broken code = record { is_broken = is_broken; code = code }

abbrev pub first_broken : List Rule → Option FlowCode
first_broken [] = None
first_broken (r ∷ rules) = if r.is_broken then Some r.code else first_broken rules

-- the rules on a jump by an operand, in their order
abbrev pub jump_rules : ImageValue → List Cut → ℕ → ℕ → ℤ → List Rule
jump_rules image cuts at next n =
    rule (is_outside image.code (jump_target next n)) J2
    ∷ rule (goes_back n) J3
    ∷ rule (is_no_start cuts (jump_target next n)) J1
    ∷ rule (breaks_the_nest (ranges image.loops) at (jump_target next n)) J4
    ∷ []

-- only j and cj jump
abbrev pub rules_on_jump : ImageValue → List Cut → ℕ → ℕ → Option ℤ → List Rule
rules_on_jump image cuts at next None = []
rules_on_jump image cuts at next (Some n) = jump_rules image cuts at next n

-- the rules on an instruction at an address, in their order
abbrev pub rules_on : ImageValue → List Cut → ℕ → ℕ → Instr → List Rule
rules_on image cuts at next instr =
    (rule (is_orphan_lend (ranges image.loops) at instr) J7 ∷ [])
    ++ rules_on_jump image cuts at next (jump_operand instr)
    ++ (rule (runs_off image.code next instr) J5 ∷ [])

-- the first rule that an instruction breaks
abbrev pub broken_rule : ImageValue → List Cut → Placed → Option FlowCode
broken_rule image cuts placed = first_broken (rules_on image cuts placed.at placed.next placed.instr)
