-- What has to be opened for a bound or a measure to be computed.
use Rattle.tp_decode.specs.Cutting.{cutting_from, spelled_instruction}
use Rattle.tp_decode.specs.Table.{operation, instruction}
use Rattle.tp_decode.specs.Spelling.{spelled}
use Rattle.tp_accept.specs.Bound.{bound}
use Rattle.tp_accept.specs.Measure.{measure}

unfoldable pub by_steps : Unit {0}
unfolding cutting_from spelled_instruction operation instruction spelled bound measure
by_steps = tt
