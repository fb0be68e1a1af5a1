use Rattle.std.proofs.Common.{All, IfSome}
use Rattle.tp_state.specs.Conditions.{IsPlaced}
use Rattle.test_passes.proofs.whole.Whole.first.Given as goal

abbrev pub invariant-loop : goal.invariant-loop
invariant-loop l = All (λ o. IfSome o (IsPlaced l.image)) l.states.items
