use Rattle.std.proofs.Common.{◌≡◌, ◌<◌, ℕ, length}
use Rattle.tp_state.specs.CellRules.{cell_at}
use Rattle.tp_state.proofs.cells.Cells.from_slice.Given as goal

abbrev pub invariant-loop-x : goal.invariant-loop-x
invariant-loop-x l = record {
  sized : length l.new ≡ length l.cells;
  written : (k : ℕ) → k < l.x → cell_at l.new k ≡ cell_at l.cells k;
}
