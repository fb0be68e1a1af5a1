use Rattle.tp_state.specs.Conditions.{IsPlaced}
use Rattle.test_accept.proofs.states.first_refusal.Given as goal

abbrev pub invariant-loop-start : goal.invariant-loop-start
invariant-loop-start g l = IsPlaced l.image l.state
