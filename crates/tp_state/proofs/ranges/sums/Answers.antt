use Rattle.std.proofs.Common.{arith}
use Rattle.std.proofs.lemmas.Int.{ints}
use Rattle.tp_state.proofs.RangeLemmas.{hull_made}
use Rattle.tp_state.proofs.ranges.sums.Goals as goal

pub returns : goal.returns
returns c = hull_made c.hull.ensures (omega (arith, ints)) (omega (arith, ints)) (omega (arith, ints)) (omega (arith, ints))
