use Rattle.std.proofs.Common.{All, IfSome}
use Rattle.tp_state.specs.Conditions.{IsPlaced}
use Rattle.test_passes.proofs.whole.Whole.pass.Given as goal

abbrev pub invariant-loop-i : goal.invariant-loop-i
invariant-loop-i l = All (λ o. IfSome o (IsPlaced l.image)) l.self.states.items
