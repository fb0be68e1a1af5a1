use Rattle.std.proofs.Common.{All, IfSome}
use Rattle.tp_state.specs.Conditions.{IsPlaced}
use Rattle.test_passes.proofs.compared.make_found.Given as goal

abbrev pub invariant-loop-passes : goal.invariant-loop-passes
invariant-loop-passes g l = All (λ o. IfSome o (IsPlaced l.image)) l.table.states.items
