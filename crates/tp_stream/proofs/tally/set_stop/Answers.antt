use Rattle.std.proofs.Common.{arith}
use Rattle.tp_stream.proofs.Tallies.{stops}
use Rattle.tp_stream.proofs.tally.set_stop.Goals as goal

pub fetch_or-requires : goal.fetch_or-requires
fetch_or-requires c = let three = c.requires.tally.1 in (c.requires.tally.0, omega arith, stops _ _ _ _ c.requires.seat)
