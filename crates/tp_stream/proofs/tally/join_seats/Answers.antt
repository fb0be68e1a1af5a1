use Rattle.std.proofs.Common.{arith}
use Rattle.tp_stream.proofs.Tallies.{joins}
use Rattle.tp_stream.proofs.tally.join_seats.Goals as goal

pub join_seat-requires : goal.join_seat-requires
join_seat-requires c =
    let three =
    c.requires.tally.1 in (c.requires.tally.0, c.requires.other.0, c.requires.other.1, omega arith, joins _ _ _ _ _ c.requires.some)
