-- What is known after an instruction on one of its edges: its own rule, and then entering.
use Rattle.std.specs.Prelude.{ℕ, ◌+◌, Bool, false, ◌&&◌, pos, ℤ, List, [], ◌∷◌, slice_get, Option, Some, None, Result}
use Rattle.std.specs.Prelude.{Ok}
use Rattle.std.specs.Ordering.{int_eq}
use Rattle.std.specs.Option.{option_and_then}
use Rattle.tp_decode.specs.declared.instr.Instr.{Instr}
use Rattle.tp_decode.specs.declared.instr.Instr.TheVariants.{Stopp}
use Rattle.tp_image.specs.declared.image.LoopRow.{LoopRow}
use Rattle.tp_image.specs.Image.{ImageValue}
use Rattle.tp_flow.specs.declared.edge.Edge.{Edge}
use Rattle.tp_flow.specs.declared.edge.Edge.TheVariants.{Next}
use Rattle.tp_flow.specs.NestRanges.{ranges}
use Rattle.tp_flow.specs.Edges.{edges, target}
use Rattle.tp_flow.specs.LoopsAround.{entered_by}
use Rattle.tp_state.specs.declared.cell.Cell.{Cell}
use Rattle.tp_state.specs.declared.cell.Cell.TheVariants.{Known, Index, Count}
use Rattle.tp_state.specs.declared.state.State.{State}
use Rattle.tp_state.specs.declared.fault.StateCode.{StateCode}
use Rattle.tp_state.specs.declared.fault.StateCode.TheVariants.{S5}
use Rattle.tp_state.specs.Answer.{◌>>=◌, ◌>>◌, unless, found}
use Rattle.tp_state.specs.CellRules.{cell_at}
use Rattle.tp_state.specs.Rules.{rule, with_block}

abbrev pub is_known : ℤ → Cell → Bool
is_known n (Known m) = int_eq m n
is_known n cell = false

-- a loop is entered where its block holds its first index and its count, and then the block is live
unfoldable pub entering : List LoopRow → Option ℕ → State → Result State StateCode
entering rows None t = Ok t
entering rows (Some l) t = do
  row ← found S5 (slice_get rows l)
  unless S5
      (is_known row.start (cell_at t.cells row.control) && is_known (pos row.count) (cell_at t.cells (row.control + 1)))
  Ok (with_block row (Index l) (Count l) t)

-- the loop that an edge of an instruction enters
abbrev pub entered_at : ImageValue → (at next : ℕ) → Instr → Edge → Option ℕ
entered_at image at next instr edge =
    option_and_then (entered_by (ranges image.loops) at) (target (ranges image.loops) at next instr edge)

-- what is known after the instruction that stands at an address, where next follows it
unfoldable pub after : ImageValue → (at next : ℕ) → Instr → Edge → State → Result State StateCode
after image at next instr edge t = do
  t ← rule image at next instr edge t
  entering image.loops (entered_at image at next instr edge) t

-- the edges that an instruction's rule is asked on: its own, and of stopp, which has none and is asked all the same,
-- Next
abbrev pub asked : Instr → List Edge
asked Stopp = Next ∷ []
asked instr = edges instr
