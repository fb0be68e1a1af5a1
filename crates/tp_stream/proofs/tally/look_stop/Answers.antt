use Rattle.std.proofs.Common.{arith}
use Rattle.tp_stream.proofs.Tallies.{looks}
use Rattle.tp_stream.proofs.tally.look_stop.Goals as goal

pub load-requires : goal.load-requires
load-requires c = let three = c.requires.tally.1 in (c.requires.tally.0, omega arith, looks _ _ _ _)
