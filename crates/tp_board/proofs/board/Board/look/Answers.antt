use Rattle.std.proofs.Common.{sym, ap, ◌∙◌, arith}
use Rattle.tp_board.specs.declared.event.Event.TheVariants as event
use Rattle.tp_board.specs.declared.event.Shown.TheVariants as shown
use Rattle.tp_board.proofs.Allowed.{allowed}
use Rattle.tp_board.proofs.board.Board.look.Goals as goal

pub load-requires : goal.load-requires
load-requires c =
    let own = ap (λ v. v.table) c.seat.view_is ∙ c.requires.0 ∙ sym (ap (λ v. v.table) c.self.view_is) in
    let four = c.self.invariant.words in
    (own, omega arith, allowed _ _ _ _ (event.Look shown.Claimed) tt c.seat.invariant.0.one)

pub load-requires-in-Done : goal.load-requires-in-Done
load-requires-in-Done c =
    let own = ap (λ v. v.table) c.seat.view_is ∙ c.requires.0 ∙ sym (ap (λ v. v.table) c.self.view_is) in
    let four = c.self.invariant.words in
    (own, omega arith, allowed _ _ _ _ (event.Look shown.Done) tt c.seat.invariant.0.one)

pub load-requires-in-Lost : goal.load-requires-in-Lost
load-requires-in-Lost c =
    let own = ap (λ v. v.table) c.seat.view_is ∙ c.requires.0 ∙ sym (ap (λ v. v.table) c.self.view_is) in
    let four = c.self.invariant.words in
    (own, omega arith, allowed _ _ _ _ (event.Look shown.Lost) tt c.seat.invariant.0.one)

pub load-found-requires : goal.load-found-requires
load-found-requires c =
    let own = ap (λ v. v.table) c.seat.view_is ∙ c.requires.0 ∙ sym (ap (λ v. v.table) c.self.view_is) in
    let four = c.self.invariant.words in
    (own, omega arith, allowed _ _ _ _ (event.Look shown.Stop) tt c.seat.invariant.0.one)
