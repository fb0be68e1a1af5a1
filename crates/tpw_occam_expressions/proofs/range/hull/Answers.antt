use Rattle.std.proofs.Common.{arith}
use Rattle.std.proofs.lemmas.Int.{ints, clamps}
use Rattle.tpw_occam_expressions.specs.Ranges.{hull}
use Rattle.tpw_occam_expressions.proofs.Ranges.{between_made}
use Rattle.tpw_occam_expressions.proofs.range.hull.Goals as goal

pub returns : goal.returns
unfolding hull
returns c = between_made c.between.ensures.value (omega (arith, ints, clamps)) (omega (arith, ints, clamps))
