use Rattle.std.proofs.Common.{◌≡◌, ◌<◌, length, false, subst, ◌∙◌}
use Rattle.std.proofs.lemmas.Result.{on_ok_weaker}
use Rattle.tpw_occam_code.specs.Assigning.{MakesOne, HasSmallValue}
use Rattle.tpw_occam_code.specs.Ordering.{IsNumbered}
use Rattle.tpw_occam_expressions.proofs.Standing.{on_ok_both}
use Rattle.tpw_occam_code.proofs.Ordering.{get_same}
use Rattle.tpw_occam_code.proofs.Settling.{move_makes, move_keeps}
use Rattle.tpw_occam_code.proofs.assignments.make_move.Goals as goal

pub keep-requires : goal.keep-requires
keep-requires c = subst (IsNumbered (length c.args.all.now)) c.in-Keep.is c.requires

pub returns-in-Keep-clause-makes : goal.returns-in-Keep-clause-makes
returns-in-Keep-clause-makes c =
    on_ok_weaker c.keep.result (λ all three.
    let k = c.args.emitter.now in
    rw c.in-Keep.is (move_keeps k c.args.code.now c.keep.new.code c.args.all.now c.in-Keep.i c.args.room.next_temporary all.0 all.1.0 (all.1.1 three)))
    (on_ok_both _ _ c.keep.result c.keep.ensures.there (on_ok_both _ _ c.keep.result c.keep.ensures.small c.keep.ensures.keeps))

pub returns-in-Make-clause-makes : goal.returns-in-Make-clause-makes
returns-in-Make-clause-makes c =
    on_ok_weaker c.make.result (λ both three.
    let k = c.args.emitter.now in
    let i = c.in-Make.i in
    let kept = c.in-Make.is_kept in
    let there : i < length c.args.all.now = subst (IsNumbered (length c.args.all.now)) c.in-Make.is c.requires in
    let e = c.index-all-i.is ∙ get_same c.args.all.now i c.index-all-i.result _ there in
    rw c.in-Make.is (move_makes k c.args.code.now c.make.new.code c.args.all.now i kept c.args.room.next_temporary
    (subst (λ a. kept ≡ false → HasSmallValue k a.value) e both.1)
    (subst (λ a. MakesOne k c.args.code.now c.make.new.code a i kept c.args.room.next_temporary) e (both.0 three))))
    (on_ok_both _ _ c.make.result c.make.ensures.makes c.make.ensures.small)
