use Rattle.tp_accept.proofs.MeasureDrops.{starts_with_bound}
use Rattle.tp_accept.proofs.laws.measure_starts_with_the_bound.Goals as goal

pub returns : goal.returns
returns c = starts_with_bound
