use Rattle.std.proofs.Common.{suc, sym, ap, ◌∙◌}
use Rattle.std.specs.Prelude.{if◌then◌else◌, Bool}
use Rattle.tp_board.specs.declared.view.View.{View}
use Rattle.tp_stream.specs.Streams.{HandView}
use Rattle.tp_stream.proofs.Handing.{none_of, one_more_look, next_after}
use Rattle.tp_stream.proofs.stream.StreamQueue.claim.Goals as goal

pub returns-in-Some-try_claim-clause-steps : goal.returns-in-Some-try_claim-clause-steps
returns-in-Some-try_claim-clause-steps g c =
    let ok = c.hand.invariant.0 in
    let is = c.hand.view_is in
    let going =
    ap (λ (h : HandView). h.turn.ended) (sym is) ∙ ok.ended_is ∙ ap (λ (b : Bool). if b then 1 else 0) c.if-hand.false in
    let none =
    ap (λ (h : HandView). h.place.seen.stop) (sym is) ∙ ok.stop_seen_is
    ∙ ap (λ (b : Bool). if b then 1 else 0) c.if-hand-2.false in
    let made = c.loop.invariant.made in
    (made.0, next_after _ _ _ made.0 c.in-Some-try_claim.claimed none made.1 c.in-Some-try_claim.ensures.some going)

pub loop-preserved : goal.loop-preserved
loop-preserved g c =
    let i = c.loop.invariant in
    let h = c.try_claim.ensures.none (none_of c.try_claim.result c.in_default.not-Some) in
    let looked = h.1.3 in record {
      own = c.try_claim.ensures.own;
      empty = h.0;
      going = (ap (λ (v : View). v.ended) looked ∙ i.going.0, ap (λ (v : View). v.seen.stop) looked);
      made = (suc i.made.0, one_more_look _ _ _ i.made.0 i.made.1 h.1);
    }
