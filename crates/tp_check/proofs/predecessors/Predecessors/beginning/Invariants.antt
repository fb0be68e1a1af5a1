use Rattle.std.proofs.Common.{◌≡◌, ℕ, length}
use Rattle.tp_check.specs.Joining.{predecessor_at}
use Rattle.tp_check.proofs.Counting.{Begun}
use Rattle.tp_check.proofs.predecessors.Predecessors.beginning.Given as goal

abbrev pub invariant-loop-row : goal.invariant-loop-row
invariant-loop-row l = record {
  rows : l.row-items ≡ l.image.loops;
  sized : length l.predecessors.items ≡ l.places;
  begun : (at : ℕ) → Begun l.image l.row-index at (predecessor_at l.predecessors.items at);
}
