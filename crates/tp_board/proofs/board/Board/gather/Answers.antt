use Rattle.std.proofs.Common.{[], ◌∷◌, length, sym, ap, ◌∙◌, arith, length-append, Some}
use Rattle.std.proofs.lemmas.List.Elements.{All-pop}
use Rattle.tp_board.specs.Boards.{IsSeatOf}
use Rattle.tp_board.proofs.Allowed.{joins}
use Rattle.tp_board.proofs.Closing.{folded_pop}
use Rattle.tp_board.proofs.board.Board.gather.Goals as goal

pub join_seat-requires : goal.join_seat-requires
join_seat-requires c =
    let here = sym (ap (λ v. v.table) c.self.view_is) in
    let four = c.self.invariant.words in
    let popped =
    All-pop (IsSeatOf c.args.self.now) _ _ (Some c.in-Some.next) c.in-Some.ensures.items c.loop-next.invariant.others in (
      c.loop-next.invariant.own ∙ here,
      ap (λ v. v.table) c.next.view_is ∙ popped.1.0 ∙ here,
      c.next.invariant.1,
      omega arith,
      joins _ 0 _ c.loop-next.token.me _ _ c.loop-next.invariant.some_part,
    )

pub loop-next-preserved : goal.loop-next-preserved
loop-next-preserved c =
    let i = c.loop-next.invariant in
    let j = c.join_seat.ensures in
    let items = c.in-Some.ensures.items in
    let popped = All-pop (IsSeatOf c.args.self.now) _ _ (Some c.in-Some.next) items i.others in
    let me = ap (λ m. m.0) j.2 in
    let parts = ap (λ m. m.0.parts) j.2 in
    let one = c.next.invariant.0.one in
    let some_part = i.some_part in
    let sum = i.parts in
    let less = ap length items in
    let more = length-append c.pop.new.self.items (c.in-Some.next ∷ []) in record {
      own = j.0 ∙ i.own;
      home = ap (λ m. m.1) j.2 ∙ i.home;
      some_part = omega arith;
      parts = omega arith;
      view =
          folded_pop c.loop-next.token.me.0 c.next.inside.token.me.0 c.join_seat.new.seat.me.0 _ _ c.in-Some.next items
          (ap (λ v. v.view) c.next.view_is) me ∙ i.view;
      others = popped.0;
    }
