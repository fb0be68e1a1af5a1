use Rattle.tp_state.specs.Conditions.{IsPlaced}
use Rattle.test_accept.proofs.tables.carried_to.Given as goal

abbrev pub invariant-loop-at : goal.invariant-loop-at
invariant-loop-at g l = IsPlaced l.image l.state
