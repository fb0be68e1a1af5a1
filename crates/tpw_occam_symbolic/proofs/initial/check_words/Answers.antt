use Rattle.std.proofs.Common.{◌≤◌, length, All, subst, arith}
use Rattle.std.proofs.lemmas.List.{take_all}
use Rattle.std.proofs.lemmas.List.Elements.{All-more}
use Rattle.tpw_occam_symbolic.specs.declared.items.Item.TheVariants.{Variable}
use Rattle.tpw_occam_symbolic.specs.Placing.{HoldsFirst}
use Rattle.tpw_occam_symbolic.proofs.initial.check_words.Goals as goal

pub loop-place-preserved : goal.loop-place-preserved
loop-place-preserved c =
    All-more (HoldsFirst c.args.worker.now 5 c.args.words.now) c.args.placed.now c.loop-place.place-index record { item = Variable 0; words = 0; local = 0 }
    c.loop-place-test.true c.loop-place.invariant (c.holds.ensures c.if-not-holds.false)

pub returns : goal.returns
returns c =
    let over : length c.args.placed.now ≤ c.loop-place.place-index = omega arith in
    subst (All (HoldsFirst c.args.worker.now 5 c.args.words.now)) (take_all c.loop-place.place-index c.args.placed.now over) c.loop-place.invariant
