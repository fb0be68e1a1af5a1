use Rattle.std.proofs.Common.{◌≡◌, ℕ, ◌+◌, ◌≤◌, nat_lt, length, map, refl, sym, ap, ◌∙◌, subst, arith}
use Rattle.crossbeam_queue.specs.Passes.{view}
use Rattle.tp_board.specs.declared.view.View.{View}
use Rattle.tp_board.specs.Counting.{AreBelow}
use Rattle.tp_stream.specs.Streams.{StreamView, FeederView, Agrees, IsLeft, all_seen, feeder_seen, hand_seen}
use Rattle.tp_board.specs.Views.{all_drawn}
use Rattle.tp_board.specs.Words.{size, counters}
use Rattle.tp_board.proofs.Closing.{accounts}
use Rattle.tp_stream.proofs.Tallies.{closes}
use Rattle.tp_stream.proofs.Gathering.{tally_word_at, drawn_at, left_over, whole_stream}
use Rattle.tp_board.proofs.Steps.{Whole}
use Rattle.tp_stream.proofs.stream.StreamQueue.close.Goals as goal

pub drain_rest-drawn-requires-clause-parts : goal.drain_rest-drawn-requires-clause-parts
drain_rest-drawn-requires-clause-parts g c =
    let most = c.if-len-self.false in
    let parts = c.gather-pass.ensures.parts.0 in
    let members = c.gather-pass.ensures.sizes.1 in
    let is = ap (λ (q : StreamView). q.members) c.self.view_is in
    omega arith

pub ledger-requires : goal.ledger-requires
ledger-requires g c =
    let most = c.if-len-self.false in
    let t = c.gather-pass.ensures in
    let parts = t.parts.1 in
    let key = c.self.invariant.told in
    let all : c.self.inside.tally.shared.key.members ≤ c.gather-pass.result.1.me.0.parts =
    (let m = ap (λ k. k.members) key in omega arith) in
    let f = c.close_with-closed.ensures.values.2 in
    let h =
    closes (Unit {0}) c.self.inside.tally.shared.key c.gather-pass.result.1.id c.gather-pass.result.1.me.0 _ f.0 all f.1 f.2 in
    let done = tally_word_at _ h.0 0 _ _ h.1 refl c.word-done.ensures in
    let lost = tally_word_at _ h.0 1 _ _ h.1 refl c.word-lost.ensures in
    let agrees = subst Agrees (sym t.view.1) t.agrees in
    let counted = agrees.counted in
    let drawn = c.drain_rest-drawn.ensures.before.counted in
    let finished = h.2.done in
    let abandoned = h.2.lost in
    omega arith

pub returns-clause-all : goal.returns-clause-all
returns-clause-all g c =
    let most = c.if-len-self.false in
    let parts = c.gather-pass.ensures.parts.1 in
    let key = ap (λ k. k.members) c.self.invariant.told in
    let f = c.close_with-closed.ensures.values.2 in
    let h =
    closes (Unit {0}) c.self.inside.tally.shared.key c.gather-pass.result.1.id c.gather-pass.result.1.me.0 _ f.0
    (omega arith) f.1 f.2 in
    let every = h.3 in
    let members = ap (λ (q : StreamView). q.members) c.self.view_is in
    omega arith

pub returns-clause-ledger : goal.returns-clause-ledger
returns-clause-ledger g c =
    let most = c.if-len-self.false in
    let t = c.gather-pass.ensures in
    let parts = t.parts.1 in
    let key = ap (λ k. k.members) c.self.invariant.told in
    let f = c.close_with-closed.ensures.values.2 in
    let h =
    closes (Unit {0}) c.self.inside.tally.shared.key c.gather-pass.result.1.id c.gather-pass.result.1.me.0 _ f.0
    (omega arith) f.1 f.2 in
    let done = tally_word_at _ h.0 0 _ _ h.1 refl c.word-done.ensures in
    let lost = tally_word_at _ h.0 1 _ _ h.1 refl c.word-lost.ensures in
    let stop = tally_word_at _ h.0 2 _ _ h.1 refl c.word-stop.ensures in
    let left = c.drain_rest-drawn.ensures.before in
    let n = c.drain_rest-drawn.result in
    let packets = length c.args.self.packets in
    let turn = view c.gather-pass.result.0 in
    let behind = left.behind in
    let pushed = left.within in
    let sizes = t.sizes.0 in
    let within : n ≤ packets = omega arith in
    let v = feeder_seen c.args.feeder in
    let us = map hand_seen c.args.hands.items in
    let whole =
    subst (λ (u : View). Whole (size packets c.args.self.members) (counters (n + turn.ended) h.0.done h.0.lost h.0.stop) u)
    t.view.1
    (whole_stream packets c.args.self.members n turn c.gather-pass.result.1.me.0 t.view.0 h.0 sizes left h.2 (omega arith)
    (subst Agrees (sym t.view.1) t.agrees)) in
    let e = c.ledger.ensures in
    accounts packets c.args.self.members (counters (n + turn.ended) h.0.done h.0.lost h.0.stop) v us c.ledger.result whole
    (e.drawn ∙ drawn_at n turn.ended packets within (λ some_end. left.ended some_end ∙ sizes))
    (e.done ∙ done)
    (e.lost ∙ lost)
    (let a = e.in_hand in let b = e.drawn in omega arith)
    (e.stopped ∙ ap (λ (n : ℕ). nat_lt 0 n) stop)

pub returns-clause-left : goal.returns-clause-left
returns-clause-left g c =
    let views = all_seen c.args.hands.items c.args.feeder in
    let t = c.gather-pass.ensures in
    let n = c.drain_rest-drawn.result in
    let turn = view c.gather-pass.result.0 in
    let e = c.ledger.ensures in
    let pushed : turn.pushed ≡ c.feeder.inside.pushed =
    t.sizes.2 ∙ ap (λ (f : FeederView). f.turn.pushed) (sym c.feeder.view_is) ∙ c.feeder.invariant.0.pushed_is in
    let drew = (returns-clause-ledger g c).drew in
    let below = subst (λ (m : ℕ). AreBelow (all_drawn views) m) e.drawn drew in
    subst (IsLeft views) pushed (left_over views turn (view c.drain_rest-drawn.new.pass) n c.drain_rest-drawn.ensures.before below c.drain_rest-drawn.ensures.rest)
