use Rattle.std.proofs.Common.{◌-◌, ap, arith}
use Rattle.tp_board.proofs.Allowed.{splits}
use Rattle.tp_board.proofs.board.deal_seats.Goals as goal

pub split_seat-other-requires : goal.split_seat-other-requires
split_seat-other-requires c =
    let four = c.requires.table.1 in
    let more = c.loop-made-test.true in (
      c.loop-made.invariant.own,
      omega arith,
      splits _ 0 _ c.loop-made.token.me c.args.packets (c.args.members - c.loop-made.made)
          (omega arith) (ap (λ m. m.0) c.loop-made.invariant.me),
    )
