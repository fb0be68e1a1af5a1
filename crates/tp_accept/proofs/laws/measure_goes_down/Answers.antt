use Rattle.tp_accept.proofs.MeasureDrops.{drops}
use Rattle.tp_accept.proofs.laws.measure_goes_down.Goals as goal

pub returns : goal.returns
returns c = drops
