use Rattle.std.proofs.Common.{◌≡◌, ℕ, ◌∷◌, [], refl, inr, ap, ◌∙◌, subst, arith}
use Rattle.crossbeam_queue.specs.Passes.{view}
use Rattle.tp_stream.specs.declared.queue.Item.{Item}
use Rattle.tp_board.specs.declared.answer.Claim.TheVariants as claim
use Rattle.tp_board.specs.Counting.{hand_list}
use Rattle.tp_stream.specs.Queues.{Took}
use Rattle.tp_stream.specs.Streams.{HandView, hand_seen, seen_of, NextAfter}
use Rattle.tp_stream.proofs.Handing.{hand_popped, says_number, says_end}
use Rattle.tp_stream.proofs.stream.StreamQueue.try_claim.Goals as goal

pub invariant_of-hand-in-Number : goal.invariant_of-hand-in-Number
invariant_of-hand-in-Number g c =
    let i = c.hand.invariant in
    let is = c.hand.view_is in
    let looked = c.look_stop.ensures in
    let empty = ap (λ (h : HandView). h.number) is ∙ c.requires.empty in
    let none = ap (λ (h : HandView). h.place.seen.stop) is ∙ c.requires.going.1 in
    let popped =
    subst (λ (x : Item). Took (view c.hand.inside.pass) x (view c.take.new.pass)) c.in-Number.is
    c.in_ok-item.ensures.1 in (
      hand_popped _ _ _ _ _ _ _ _ _ empty i.0 none c.if-look_stop-ne0.false looked.step.0 popped.0 popped.1,
      c.in_ok-item.ensures.0.2 ∙ i.1,
      looked.own.1 ∙ i.2,
    )

pub returns-in-Number-clause-some : goal.returns-in-Number-clause-some
returns-in-Number-clause-some g c =
    let i = c.hand.invariant in
    let is = c.hand.view_is in
    let looked = c.look_stop.ensures in
    let empty = ap (λ (h : HandView). h.number) is ∙ c.requires.empty in
    let going = ap (λ (h : HandView). h.turn.ended) is ∙ c.requires.going.0 in
    let none = ap (λ (h : HandView). h.place.seen.stop) is ∙ c.requires.going.1 in
    let popped =
    subst (λ (x : Item). Took (view c.hand.inside.pass) x (view c.take.new.pass)) c.in-Number.is
    c.in_ok-item.ensures.1 in
    let n : ℕ = c.in-Number.number in
    subst (λ (h : HandView). NextAfter [] (hand_seen h) (claim.Packet n)
    (seen_of (view c.take.new.pass) c.look_stop.new.token.me.0 (n ∷ []))) is (
      going,
      none,
      popped.1.0,
      popped.1.2,
      says_number _ _ _ _ _ _ _ _ empty i.0 going c.if-look_stop-ne0.false looked.step.0
          looked.step.2 n (n ∷ []) refl popped.0 popped.1,
    )

pub returns-in-End-clause-some : goal.returns-in-End-clause-some
returns-in-End-clause-some g c =
    let i = c.hand.invariant in
    let is = c.hand.view_is in
    let looked = c.look_stop.ensures in
    let empty = ap (λ (h : HandView). h.number) is ∙ c.requires.empty in
    let going = ap (λ (h : HandView). h.turn.ended) is ∙ c.requires.going.0 in
    let none = ap (λ (h : HandView). h.place.seen.stop) is ∙ c.requires.going.1 in
    let popped =
    subst (λ (x : Item). Took (view c.hand.inside.pass) x (view c.take.new.pass)) c.in-End.is
    c.in_ok-item.ensures.1 in
    let packets = c.hand.inside.pass.me.0.client.packets in
    subst (λ (h : HandView). NextAfter [] (hand_seen h) claim.NoMore
    (seen_of (view c.take.new.pass) c.look_stop.new.token.me.0 (hand_list c.hand.inside.number))) is
    (inr (
      going,
      none,
      (
        packets,
        (let z : packets ≡ packets = refl in omega arith),
        says_end _ _ _ _ _ _ _ _ empty i.0 going c.if-look_stop-ne0.false looked.step.0 looked.step.2 popped.0,
      ),
    ))
