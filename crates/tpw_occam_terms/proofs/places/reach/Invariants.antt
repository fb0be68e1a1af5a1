use Rattle.std.proofs.Common.{ℕ, ◌+◌, ◌≤◌}
use Rattle.tpw_occam_terms.proofs.places.reach.Given as goal
use Rattle.tpw_occam_terms.specs.Places.{IsReached, IsInOrder}

abbrev pub invariant-loop-at : goal.invariant-loop-at
invariant-loop-at l = record {
  reached : IsReached l.text l.at l.line l.column;
  small_line : l.line ≤ l.at + 1;
  small_column : l.column ≤ l.at + 1;
  behind : IsInOrder l.fn.from.line l.fn.from.column l.line l.column;
  kept : (bytes : ℕ) → l.fn.from.bytes ≤ bytes → IsReached l.text bytes l.span.line l.span.column → l.at ≤ bytes;
}
