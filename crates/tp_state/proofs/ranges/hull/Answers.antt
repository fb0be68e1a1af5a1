use Rattle.std.proofs.Common.{arith}
use Rattle.std.proofs.lemmas.Int.{ints, clamps}
use Rattle.tp_state.specs.Kinds.{hull}
use Rattle.tp_state.proofs.RangeLemmas.{range_made}
use Rattle.tp_state.proofs.ranges.hull.Goals as goal

pub returns : goal.returns
unfolding hull
returns c = range_made c.range.ensures (omega (arith, ints, clamps)) (omega (arith, ints, clamps))
