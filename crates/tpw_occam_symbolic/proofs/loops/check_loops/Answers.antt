use Rattle.std.proofs.Common.{count_by, ◌≤◌, All, arith, subst}
use Rattle.std.proofs.lemmas.List.{take_all}
use Rattle.std.proofs.lemmas.List.Elements.{All-more}
use Rattle.tpw_occam_symbolic.specs.declared.code.Turns.{Turns}
use Rattle.tpw_occam_symbolic.specs.Flowing.{is_around}
use Rattle.tpw_occam_symbolic.proofs.loops.check_loops.Goals as goal

no_turns : Turns
no_turns = record { head = 0; lend = 0; index = 0; start = 0; count = 0; source = 0 }

pub loop-number-preserved : goal.loop-number-preserved
unfolding no_turns
loop-number-preserved c =
    All-more (λ inner. count_by (is_around inner) c.args.loops.now ≤ 3) c.args.loops.now c.loop-number.number no_turns
    (omega (arith, c.loop-number-test.true, c.loop-number.auto.number-end)) c.loop-number.invariant
    (omega (arith, c.around.ensures, c.if-around-gt-MAX_AROUND.false))

pub returns : goal.returns
returns c =
    subst (All (λ inner. count_by (is_around inner) c.args.loops.now ≤ 3))
    (take_all c.loop-number.number c.args.loops.now (omega (arith, c.loop-number-test.false, c.loop-number.auto.number-end))) c.loop-number.invariant
