use Rattle.tp_state.specs.Conditions.{IsPlaced}
use Rattle.bench_verifier.proofs.states.count_passed.Given as goal

abbrev pub invariant-loop-round : goal.invariant-loop-round
invariant-loop-round l = IsPlaced l.image l.state
