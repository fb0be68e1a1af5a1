use Rattle.std.proofs.Common.{arith}
use Rattle.tp_stream.proofs.Tallies.{abandons}
use Rattle.tp_stream.proofs.tally.add_lost.Goals as goal

pub fetch_add-requires : goal.fetch_add-requires
fetch_add-requires g c =
    let three = c.requires.tally.1 in (c.requires.tally.0, omega arith, abandons _ _ _ _ _ c.requires.room.0 c.requires.room.1)
