use Rattle.std.proofs.Common.{refl, sym, subst, arith}
use Rattle.tp_check.specs.Joining.{is_join_at}
use Rattle.tp_check.specs.Rising.{Moves}
use Rattle.tp_check.proofs.Moving.{moves_none, moves_more, moves_no_more}
use Rattle.tp_check.proofs.Passing.{may_be_taken, no_instruction}
use Rattle.tp_check.proofs.Loading.{loads_word}
use Rattle.tp_check.proofs.Places.{stands_at}
use Rattle.tp_check.proofs.HandedOn.{carried_on}
use Rattle.tp_check.proofs.Verdict.{stands_in, none_come, here_before, stop_there, come_on, come_all}
use Rattle.tp_check.proofs.passes.Passes.take_all.Goals as goal
use Rattle.tp_check.proofs.passes.Passes.take_all.Goals.{in-Some+in_ok-take+then-branch, in-Some+in_ok-take+else-branch, in_default}

pub loop-i-init : goal.loop-i-init
loop-i-init c = record {
  gives = λ begun before. none_come c.args.image.now c.args.listing.now (is_join_at c.args.predecessors.now) c.args.self.now begun before;
  moves = moves_none c.args.image.now c.args.self.now.states.items;
}

pub take-requires-clause-step : goal.take-requires-clause-step
take-requires-clause-step c =
    let stands = stands_at c.args.listing.now c.loop-i.i c.in-Some.place c.requires.kept.spelled (sym c.in-Some.ensures) in
    record {
      nest = c.requires.nest;
      place = may_be_taken c.args.image.now c.args.listing.now _ c.in-Some.place c.requires.kept
          (λ at starts. rw c.loop-i.invariant.moves.sized (c.requires.places at starts)) stands;
      sound = record { range = c.requires.range; loads = loads_word c.args.listing.now c.requires.spelled c.in-Some.place stands };
    }

pub take-requires-clause-way : goal.take-requires-clause-way
take-requires-clause-way c =
    let on = c.loop-i.invariant.gives c.requires.way.0 c.requires.way.1 in (
      c.args.listing.now,
      stands_in c.args.listing.now c.loop-i.i c.in-Some.place c.requires.kept.spelled (sym c.in-Some.ensures),
      c.requires.join,
      (
        on.whole,
        here_before c.args.image.now c.args.listing.now (is_join_at c.args.predecessors.now) c.loop-i.i
            c.in-Some.place (sym c.in-Some.ensures) c.args.self.now c.loop-i.self c.requires.way.0 on,
      ),
    )

pub returns-in_err-take-clause-gives : goal.returns-in_err-take-clause-gives
returns-in_err-take-clause-gives c begun before =
    let on = c.loop-i.invariant.gives begun before in
    carried_on c.from_residual.result c.in_err-take.field-0.0 _ (λ _. Unit {0}) _ c.from_residual.ensures.1
    (stop_there c.args.image.now c.args.listing.now (is_join_at c.args.predecessors.now) c.loop-i.i c.in-Some.place
    (sym c.in-Some.ensures) c.args.self.now c.loop-i.self begun on c.in_err-take.field-0.0 _ (λ _. Unit {0})
    (c.in_err-take.ensures.gives c.args.listing.now (stands_in c.args.listing.now c.loop-i.i c.in-Some.place c.requires.kept.spelled (sym c.in-Some.ensures)) c.requires.join on.whole
    (here_before c.args.image.now c.args.listing.now (is_join_at c.args.predecessors.now) c.loop-i.i c.in-Some.place (sym c.in-Some.ensures) c.args.self.now c.loop-i.self begun on)))

pub loop-i-preserved : goal.loop-i-preserved
loop-i-preserved c =
    elim c.match-get.branch [
      | in-Some+in_ok-take+then-branch w ↦ (rw (w.self-is, w.moved-is) (record {
        gives = λ begun before. (
            let on = c.loop-i.invariant.gives begun before in
            come_on c.args.image.now c.args.listing.now (is_join_at c.args.predecessors.now) c.loop-i.i w.in-Some.place
            (sym w.in-Some.ensures) c.args.self.now c.loop-i.self begun on c.requires.kept.spelled w.take.new.self
            w.in_ok-take.field-0
            (w.in_ok-take.ensures.gives c.args.listing.now (stands_in c.args.listing.now c.loop-i.i w.in-Some.place c.requires.kept.spelled (sym w.in-Some.ensures)) c.requires.join on.whole
            (here_before c.args.image.now c.args.listing.now (is_join_at c.args.predecessors.now) c.loop-i.i w.in-Some.place (sym w.in-Some.ensures) c.args.self.now c.loop-i.self begun on)));
        moves = moves_more c.args.image.now c.args.self.now.states.items c.loop-i.self.states.items
            w.take.new.self.states.items c.loop-i.moved c.loop-i.invariant.moves
            (subst (λ b. Moves c.args.image.now b c.loop-i.self.states.items w.take.new.self.states.items)
            w.if-branch.true w.in_ok-take.ensures.moves);
      }))
      | in-Some+in_ok-take+else-branch w ↦ (rw (w.self-is, w.moved-is) (record {
        gives = λ begun before. (
            let on = c.loop-i.invariant.gives begun before in
            come_on c.args.image.now c.args.listing.now (is_join_at c.args.predecessors.now) c.loop-i.i w.in-Some.place
            (sym w.in-Some.ensures) c.args.self.now c.loop-i.self begun on c.requires.kept.spelled w.take.new.self
            w.in_ok-take.field-0
            (w.in_ok-take.ensures.gives c.args.listing.now (stands_in c.args.listing.now c.loop-i.i w.in-Some.place c.requires.kept.spelled (sym w.in-Some.ensures)) c.requires.join on.whole
            (here_before c.args.image.now c.args.listing.now (is_join_at c.args.predecessors.now) c.loop-i.i w.in-Some.place (sym w.in-Some.ensures) c.args.self.now c.loop-i.self begun on)));
        moves = moves_no_more c.args.image.now c.args.self.now.states.items c.loop-i.self.states.items
            w.take.new.self.states.items c.loop-i.moved c.loop-i.invariant.moves
            (subst (λ b. Moves c.args.image.now b c.loop-i.self.states.items w.take.new.self.states.items)
            w.if-branch.false w.in_ok-take.ensures.moves);
      }))
      | in_default w ↦ absurd (no_instruction c.args.listing.now c.loop-i.i (let e = c.len-i-end.ensures in let f = c.loop-i-test.true in omega (arith, e, f)) (sym w.in_default.ensures))
    ]

pub returns-clause-gives : goal.returns-clause-gives
returns-clause-gives c begun before =
    come_all c.args.image.now c.args.listing.now (is_join_at c.args.predecessors.now) c.args.self.now c.loop-i.self _
    c.loop-i.i begun (let e = c.len-i-end.ensures in let f = c.loop-i-test.false in omega (arith, e, f))
    (c.loop-i.invariant.gives begun before) refl refl refl refl refl c.loop-i.moved
