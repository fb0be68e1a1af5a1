use Rattle.std.proofs.Common.{subst}
use Rattle.tpw_occam_code.specs.Ordering.{MayGo}
use Rattle.tpw_occam_code.proofs.Ordering.{make_is, keep_is, some_weaker}
use Rattle.tpw_occam_code.proofs.order.next_move.Goals as goal

pub returns-in-Some : goal.returns-in-Some
returns-in-Some c =
    some_weaker c.make_at.result _ _ (λ move is.
    make_is c.args.all.now c.args.waiting.now.items c.make_at.new.waiting.items move c.in-Some.place
    (subst (λ l. MayGo c.args.all.now l c.in-Some.place) c.deref.ensures.value c.in-Some.ensures) is) c.make_at.ensures

pub returns : goal.returns
returns c =
    some_weaker c.keep_at.result _ _ (λ move is. keep_is c.args.all.now c.args.waiting.now.items c.keep_at.new.waiting.items move _ is) c.keep_at.ensures
