use Rattle.std.proofs.Common.{sym, ap, ◌∙◌, arith}
use Rattle.tp_board.specs.declared.event.Event.TheVariants as event
use Rattle.tp_board.proofs.Allowed.{allowed}
use Rattle.tp_board.proofs.Hands.{hand_full}
use Rattle.tp_board.proofs.board.Board.finish.Goals as goal

pub fetch_add-requires : goal.fetch_add-requires
fetch_add-requires c =
    let own = ap (λ v. v.table) c.seat.view_is ∙ c.requires.0 ∙ sym (ap (λ v. v.table) c.self.view_is) in
    let four = c.self.invariant.words in (
      own,
      omega arith,
      allowed _ _ _ _ event.Finish (c.in-Some.number, hand_full _ _ _ _ _ _ c.seat.invariant.0 c.in-Some.is)
          c.seat.invariant.0.one,
    )
