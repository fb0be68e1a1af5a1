use Rattle.tp_accept.proofs.MeasureDrops.{each_byte, bytes_counted}
use Rattle.tp_accept.proofs.laws.each_byte_takes_one.Goals as goal

pub returns-clause-each : goal.returns-clause-each
returns-clause-each c = each_byte

pub returns-clause-enough : goal.returns-clause-enough
returns-clause-enough c = bytes_counted
