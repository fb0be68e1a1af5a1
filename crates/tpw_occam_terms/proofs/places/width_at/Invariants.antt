use Rattle.std.proofs.Common.{◌+◌, ◌-◌, ◌≤◌}
use Rattle.tpw_occam_terms.proofs.places.width_at.Given as goal
use Rattle.tpw_occam_terms.specs.Places.{IsReached}

abbrev pub invariant-loop-at : goal.invariant-loop-at
invariant-loop-at l = record {
  reached : IsReached l.text l.at l.from.line (l.from.column + (l.at - l.from.bytes));
  kept : IsReached l.text (l.from.bytes + l.most) l.from.line (l.from.column + l.most) → l.at ≤ l.from.bytes + l.most;
}
