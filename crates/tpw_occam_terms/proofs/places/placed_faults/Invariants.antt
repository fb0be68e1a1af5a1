use Rattle.std.proofs.Common.{◌≤◌, length, All}
use Rattle.tpw_occam_terms.proofs.OrderLemmas.{StandBefore}
use Rattle.tpw_occam_terms.proofs.places.placed_faults.Given as goal
use Rattle.tpw_occam_terms.specs.Places.{IsReached, LiesIn, AreInOrder}

abbrev pub invariant-loop-fault : goal.invariant-loop-fault
invariant-loop-fault l = record {
  reached : IsReached l.text l.from.bytes l.from.line l.from.column;
  few : length l.all.items ≤ 20;
  placed : All (λ f. LiesIn l.text f.span) l.all.items;
  ordered : AreInOrder l.all.items;
  before : StandBefore l.all.items l.from.line l.from.column;
}
