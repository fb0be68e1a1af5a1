use Rattle.std.proofs.Common.{All}
use Rattle.tpw_occam.specs.Compilation.{IsPlaced}
use Rattle.tpw_occam.proofs.diagnosing.warnings_of.Given as goal

abbrev pub invariant-loop-note : goal.invariant-loop-note
invariant-loop-note l = All (λ d. IsPlaced l.text d.span) l.diagnostics.items
