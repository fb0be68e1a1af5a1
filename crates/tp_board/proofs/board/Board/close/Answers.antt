use Rattle.std.proofs.Common.{ℕ, ◌≤◌, min, nat_lt, List, [], ◌∷◌, length, refl, sym, ap, ◌∙◌, subst, arith, length-append}
use Rattle.tp_board.specs.declared.view.View.{View}
use Rattle.tp_board.specs.declared.rule.Size.{Size}
use Rattle.tp_board.specs.Words.{size}
use Rattle.tp_board.specs.Boards.{views_of}
use Rattle.tp_board.specs.Ledgers.{join_of_all, Balances}
use Rattle.tp_board.proofs.Allowed.{closes}
use Rattle.tp_board.proofs.Closing.{views_pop, word_at, accounts}
use Rattle.tp_board.proofs.Steps.{Whole}
use Rattle.tp_board.proofs.board.Board.close.Goals as goal

-- the words at the end, and what the rule says of them
pub ledger-requires : goal.ledger-requires
ledger-requires c =
    let most = c.if-len-self.false in
    let parts = c.gather-token.ensures.parts in
    let less = ap length c.in-Some.ensures.items in
    let more = length-append c.pop.new.self.items (c.in-Some.first ∷ []) in
    let key = c.self.invariant.told in
    let all : c.self.inside.table.shared.key.members ≤ c.gather-token.result.me.0.parts =
    (let m = ap (λ k. k.members) key in omega arith) in
    let f = c.close_with-closed.ensures.values.2 in
    let h =
    closes (Unit {0}) c.self.inside.table.shared.key c.gather-token.result.id c.gather-token.result.me.0 _ f.0 all f.1 f.2 in
    let claimed = word_at _ h.0 0 _ _ h.1 refl c.word-claimed.ensures in
    let done = word_at _ h.0 1 _ _ h.1 refl c.word-done.ensures in
    let lost = word_at _ h.0 2 _ _ h.1 refl c.word-lost.ensures in
    let packets = ap (λ k. k.packets) key in
    let drawn = h.2.drawn in
    let finished = h.2.done in
    let abandoned = h.2.lost in
    let counted = h.2.fits.counted in
    omega arith

pub returns-clause-all : goal.returns-clause-all
returns-clause-all c =
    let most = c.if-len-self.false in
    let parts = c.gather-token.ensures.parts in
    let items = c.in-Some.ensures.items in
    let less = ap length items in
    let more = length-append c.pop.new.self.items (c.in-Some.first ∷ []) in
    let key = ap (λ k. k.members) c.self.invariant.told in
    let f = c.close_with-closed.ensures.values.2 in
    let h =
    closes (Unit {0}) c.self.inside.table.shared.key c.gather-token.result.id c.gather-token.result.me.0 _ f.0
    (omega arith) f.1 f.2 in
    let every = h.3 in
    let members = ap (λ b. b.members) c.self.view_is in
    omega arith

pub returns-clause-ledger : goal.returns-clause-ledger
returns-clause-ledger c =
    let most = c.if-len-self.false in
    let parts = c.gather-token.ensures.parts in
    let items = c.in-Some.ensures.items in
    let less = ap length items in
    let more = length-append c.pop.new.self.items (c.in-Some.first ∷ []) in
    let key = c.self.invariant.told in
    let all : c.self.inside.table.shared.key.members ≤ c.gather-token.result.me.0.parts =
    (let m = ap (λ k. k.members) key in omega arith) in
    let f = c.close_with-closed.ensures.values.2 in
    let h =
    closes (Unit {0}) c.self.inside.table.shared.key c.gather-token.result.id c.gather-token.result.me.0 _ f.0 all f.1 f.2 in
    let claimed = word_at _ h.0 0 _ _ h.1 refl c.word-claimed.ensures in
    let done = word_at _ h.0 1 _ _ h.1 refl c.word-done.ensures in
    let lost = word_at _ h.0 2 _ _ h.1 refl c.word-lost.ensures in
    let stop = word_at _ h.0 3 _ _ h.1 refl c.word-stop.ensures in
    let t = c.ledger.ensures in
    let v = c.in-Some.first.view in
    let us = views_of c.pop.new.self.items in
    let whole : Whole (size c.self.inside.packets c.self.inside.members) h.0 (join_of_all v us) =
    subst (λ (k : Size). Whole k h.0 (join_of_all v us)) key
    (subst (λ (u : View). Whole c.self.inside.table.shared.key h.0 u) (ap (λ m. m.0) c.gather-token.ensures.view) h.2) in
    subst (λ (p : ℕ). Balances p (views_of c.args.seats.items) c.ledger.result) (ap (λ b. b.packets) c.self.view_is)
    (subst (λ (vs : List View). Balances c.self.inside.packets vs c.ledger.result)
    (sym (views_pop c.args.seats.items c.pop.new.self.items c.in-Some.first items))
    (accounts c.self.inside.packets c.self.inside.members h.0 v us c.ledger.result whole
    (t.drawn ∙ ap (λ (n : ℕ). min n c.self.inside.packets) claimed)
    (t.done ∙ done)
    (t.lost ∙ lost)
    (let a = t.in_hand in omega arith)
    (t.stopped ∙ ap (λ (n : ℕ). nat_lt 0 n) stop)))
