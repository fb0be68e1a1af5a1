use Rattle.std.proofs.Common.{◌+◌, take, sym, subst}
use Rattle.std.specs.List.{AllZip}
use Rattle.tpw_occam_placing.specs.Placing.{IsAssignment}
use Rattle.tpw_occam_placing.proofs.Assigning.{zip_more}
use Rattle.tpw_occam_placing.proofs.assignments.assignments.Goals as goal

pub loop-a-preserved : goal.loop-a-preserved
loop-a-preserved c =
    subst (λ made. AllZip (IsAssignment c.args.tables.now c.args.scope.now) (take (c.loop-a.a-index + 1) c.args.list.now) made)
    (sym c.in_ok-push.ensures.items)
    (zip_more (IsAssignment c.args.tables.now c.args.scope.now) c.args.list.now c.loop-a.made.items c.loop-a.a-index c.a-item.result
    c.in_ok-assignment.field-0 c.loop-a-test.true c.a-item.is c.loop-a.invariant c.in_ok-assignment.ensures)
