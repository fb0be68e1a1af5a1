use Rattle.std.proofs.Common.{◌≡◌, ◌∷◌, [], ◌++◌, length, Some, sym, ap, ◌∙◌, subst, arith, length-append}
use Rattle.std.proofs.lemmas.List.Elements.{All-pop}
use Rattle.crossbeam_queue.specs.Passes.{view}
use Rattle.tp_stream.specs.declared.queue.PassView.{PassView}
use Rattle.tp_board.specs.declared.view.View.{View}
use Rattle.tp_board.specs.Counting.{hand_list}
use Rattle.tp_stream.specs.Queues.{join_of_passes}
use Rattle.tp_board.specs.Views.{join_of}
use Rattle.tp_stream.specs.Streams.{HandView, IsHandOf, Agrees, hand_seen, seen_of}
use Rattle.tp_stream.proofs.Gathering.{seen_join, agrees_join, gathered_hand}
use Rattle.tp_stream.proofs.stream.StreamQueue.gather.Goals as goal

pub loop-next-preserved : goal.loop-next-preserved
loop-next-preserved c =
    let i = c.loop-next.invariant in
    let items = c.in-Some.ensures.items in
    let popped = All-pop (IsHandOf c.args.self.now) _ _ (Some c.in-Some.next) items i.others in
    let less = ap length items in
    let more = length-append c.pop.new.self.items (c.in-Some.next ∷ []) in
    let ok = c.next.invariant.0 in
    let j = c.join.ensures in
    let s = c.join_seats.ensures in
    let t = view c.loop-next.pass in
    let u = view c.next.inside.pass in
    let p = c.loop-next.token.me.0 in
    let q = c.next.inside.token.me.0 in
    let ns = i.seen.0 in
    let ms = hand_list c.next.inside.number in
    let me = ap (λ m. m.0) s.me in
    let both : seen_of (view c.join.new.pass) c.join_seats.new.token.me.0 (ns ++ ms) ≡ join_of (seen_of t p ns) (seen_of u q ms) =
    ap (λ (z : PassView). seen_of z c.join_seats.new.token.me.0 (ns ++ ms)) j.1
    ∙ ap (λ (z : View). seen_of (join_of_passes t u) z (ns ++ ms)) me ∙ sym (seen_join t u p q ns ms) in
    let pass_parts = ap (λ (z : PassView). z.parts) j.1 in
    let seat_parts = ap (λ (z : View). z.parts) me in
    let one_pass = ok.one_pass in
    let one_seat = ok.one_seat in
    let nothing = ok.pushed in
    let fed = ap (λ (z : PassView). z.pushed) j.1 in
    let some0 = i.some_part.0 in
    let some1 = i.some_part.1 in
    let sum0 = i.parts.0 in
    let sum1 = i.parts.1 in
    let pushed = i.sizes.2 in record {
      pass = (j.0.0 ∙ i.pass.0, j.0.2 ∙ i.pass.1);
      token = (s.own ∙ i.token.0, ap (λ m. m.1) s.me ∙ i.token.1);
      some_part = (omega arith, omega arith);
      parts = (omega arith, omega arith);
      sizes = (ap (λ (z : PassView). z.packets) j.1 ∙ i.sizes.0, ap (λ (z : PassView). z.members) j.1 ∙ i.sizes.1, omega arith);
      seen = (
        ns ++ ms,
        subst Agrees (sym both) (agrees_join (seen_of t p ns) (seen_of u q ms) i.seen.1 ok.agrees),
        gathered_hand (seen_of t p ns) _ _ _ c.in-Some.next items
            (both ∙ ap (λ (h : HandView). join_of (seen_of t p ns) (hand_seen h)) c.next.view_is) ∙ i.seen.2,
      );
      others = popped.0;
    }
