use Rattle.std.proofs.Common.{sym, ap, ◌∙◌, arith}
use Rattle.tp_board.specs.declared.event.Event.TheVariants as event
use Rattle.tp_board.specs.declared.event.Shown.TheVariants as shown
use Rattle.tp_board.proofs.Allowed.{allowed}
use Rattle.tp_board.proofs.Hands.{hand_empty, still_going}
use Rattle.tp_board.proofs.board.Board.claim.Goals as goal

pub load-requires : goal.load-requires
load-requires c =
    let own = ap (λ v. v.table) c.seat.view_is ∙ c.requires.0 ∙ sym (ap (λ v. v.table) c.self.view_is) in
    let four = c.self.invariant.words in
    (own, omega arith, allowed _ _ _ _ (event.Look shown.Stop) tt c.seat.invariant.0.one)

pub fetch_add-found-requires : goal.fetch_add-found-requires
fetch_add-found-requires c =
    let own = ap (λ v. v.table) c.seat.view_is ∙ c.requires.0 ∙ sym (ap (λ v. v.table) c.self.view_is) in
    let four = c.self.invariant.words in
    let looked = c.load.ensures in
    let ok = c.seat.invariant.0 in (
      looked.0 ∙ own,
      omega arith,
      allowed _ _ _ _ event.Claim (
        ap (λ m. m.0.hand) looked.2.0 ∙ hand_empty _ _ _ _ _ ok c.in_default.not-Some,
        ap (λ m. m.0.ended) looked.2.0
            ∙ still_going _ _ _ _ _ ok c.if-seat.false,
      )
          (ap (λ m. m.0.parts) looked.2.0 ∙ ok.one),
    )
