use Rattle.std.proofs.Common.{length, sym, ap, ◌∙◌, subst}
use Rattle.std.proofs.lemmas.List.{length-map}
use Rattle.tp_board.specs.Counting.{hand_list}
use Rattle.tp_board.specs.Sources.{HasBytes}
use Rattle.tp_stream.specs.Streams.{StreamView, NextMakes, hand_seen}
use Rattle.tp_stream.proofs.Handing.{no_number, answerable, next_says}
use Rattle.tp_stream.proofs.stream.StreamQueueWorkSource.next.Goals as goal

pub with_bytes-requires : goal.with_bytes-requires
with_bytes-requires g c =
    let here = ap (λ (q : StreamView). length q.packets) c.self.view_is in
    answerable _ (hand_seen c.args.hand.now) (hand_seen c.claim.new.hand) c.claim.result
    (c.requires.own.2 ∙ sym here ∙ length-map c.self.inside.packets.now (λ p. p.items)) c.claim.ensures.steps

pub returns-clause-work : goal.returns-clause-work
returns-clause-work g c =
    next_says c.args.self.now.packets (hand_seen c.args.hand.now) (hand_seen c.claim.new.hand) c.with_bytes.result
    (ap hand_list (no_number _ c.requires.empty))
    (subst (λ claimed. NextMakes (hand_seen c.args.hand.now) claimed (hand_seen c.claim.new.hand)) (sym c.with_bytes.ensures.claimed)
    c.claim.ensures.steps)
    (subst (λ (q : StreamView). HasBytes q.packets c.with_bytes.result) c.self.view_is c.with_bytes.ensures.bytes)
