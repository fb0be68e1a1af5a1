use Rattle.std.proofs.Common.{ap, arith}
use Rattle.tp_stream.proofs.Tallies.{splits}
use Rattle.tp_stream.proofs.tally.another_seat.Goals as goal

pub split_seat-requires : goal.split_seat-requires
split_seat-requires c =
    let three =
    c.requires.tally.1 in (
      c.requires.tally.0,
      omega arith,
      splits _ _ _ c.args.packets c.args.seats c.requires.some.1
          (ap (λ m. m.0) c.requires.some.0),
    )
