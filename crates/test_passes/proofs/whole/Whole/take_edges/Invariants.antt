use Rattle.std.proofs.Common.{All, IfSome}
use Rattle.tp_state.specs.Conditions.{IsPlaced}
use Rattle.test_passes.proofs.whole.Whole.take_edges.Given as goal

abbrev pub invariant-loop-edge : goal.invariant-loop-edge
invariant-loop-edge l = All (λ o. IfSome o (IsPlaced l.image)) l.self.states.items
