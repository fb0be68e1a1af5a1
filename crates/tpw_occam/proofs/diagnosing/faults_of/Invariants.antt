use Rattle.std.proofs.Common.{◌≤◌, All, length}
use Rattle.tpw_occam.specs.Compilation.{IsPlaced}
use Rattle.tpw_occam.proofs.diagnosing.faults_of.Given as goal

abbrev pub invariant-loop-fault : goal.invariant-loop-fault
invariant-loop-fault l =
    All (λ d. IsPlaced l.text d.span) l.diagnostics.items × (length l.diagnostics.items ≤ 20)
