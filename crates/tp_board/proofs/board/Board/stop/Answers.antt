use Rattle.std.proofs.Common.{sym, ap, ◌∙◌, arith}
use Rattle.tp_board.specs.declared.event.Event.TheVariants as event
use Rattle.tp_board.proofs.Allowed.{allowed}
use Rattle.tp_board.proofs.board.Board.stop.Goals as goal

pub fetch_or-requires : goal.fetch_or-requires
fetch_or-requires c =
    let own = ap (λ v. v.table) c.seat.view_is ∙ c.requires.0 ∙ sym (ap (λ v. v.table) c.self.view_is) in
    let four = c.self.invariant.words in
    (own, omega arith, allowed _ _ _ _ event.Stop tt c.seat.invariant.0.one)
