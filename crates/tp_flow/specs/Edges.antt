-- The edges of instructions: the ways on which control leaves them.
use Rattle.std.specs.Prelude.{ℕ, ◌^◌, Bool, true, false, nat_lt, if◌then◌else◌, ℤ, pos, negsuc, ◌+ℤ◌, List, [], ◌∷◌}
use Rattle.std.specs.Prelude.{Option, Some, None}
use Rattle.std.specs.List.{list_any}
use Rattle.std.specs.Option.{option_and_then}
use Rattle.tp_decode.specs.declared.instr.Instr.{Instr}
use Rattle.tp_decode.specs.declared.instr.Instr.TheVariants.{Jump, Cj, Lend, Stopp}
use Rattle.tp_flow.specs.declared.edge.Edge.{Edge}
use Rattle.tp_flow.specs.declared.edge.Edge.TheVariants.{Next, Taken, Back, Out}
use Rattle.tp_flow.specs.declared.range.LoopRange.{LoopRange}
use Rattle.tp_flow.specs.NestRanges.{number_ended_at, head_of}

abbrev pub edges : Instr → List Edge
edges (Jump n) = Taken ∷ []
edges (Cj n) = Next ∷ Taken ∷ []
edges Lend = Back ∷ Out ∷ []
edges Stopp = []
edges instr = Next ∷ []

abbrev pub is_edge : Edge → Edge → Bool
is_edge Next Next = true
is_edge Taken Taken = true
is_edge Back Back = true
is_edge Out Out = true
is_edge edge other = false

abbrev pub has_edge : Instr → Edge → Bool
has_edge instr edge = list_any (is_edge edge) (edges instr)

-- a whole number as an address of 64 bits, where it is one
abbrev pub address : ℤ → Option ℕ
address (pos n) = if nat_lt n (2 ^ 64) then Some n else None
address (negsuc n) = None

-- the operand of a j or a cj
abbrev pub jump_operand : Instr → Option ℤ
jump_operand (Jump n) = Some n
jump_operand (Cj n) = Some n
jump_operand instr = None

-- a jump's target: its operand behind the next instruction
abbrev pub jump_target : ℕ → ℤ → Option ℕ
jump_target next n = address (pos next +ℤ n)

-- where each kind of edge goes, from an instruction at an address
abbrev pub goes_to : List LoopRange → ℕ → ℕ → Instr → Edge → Option ℕ
goes_to nest at next instr Next = Some next
goes_to nest at next instr Taken = option_and_then (jump_target next) (jump_operand instr)
goes_to nest at next instr Back = option_and_then (head_of nest) (number_ended_at nest at)
goes_to nest at next instr Out = Some next

-- where an edge goes, if the instruction has it
abbrev pub target : List LoopRange → ℕ → ℕ → Instr → Edge → Option ℕ
target nest at next instr edge = if has_edge instr edge then goes_to nest at next instr edge else None
