use Rattle.tp_check.specs.Tables.{Table}
use Rattle.tp_check.specs.Joining.{is_join_at}
use Rattle.tp_check.specs.UnderWay.{IsBefore}
use Rattle.tp_check.specs.Rising.{Moves}
use Rattle.tp_check.proofs.Verdict.{Comes}
use Rattle.tp_check.proofs.passes.Passes.take_all.Given as goal

abbrev pub invariant-loop-i : goal.invariant-loop-i
invariant-loop-i l = record {
  gives : (begun : Table) → IsBefore l.image l.listing (is_join_at l.predecessors) l.initial.self 0 begun → Comes l.image l.listing (is_join_at l.predecessors) l.initial.self l.self l.i begun;
  moves : Moves l.image l.moved l.initial.self.states.items l.self.states.items;
}
