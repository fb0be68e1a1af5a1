use Rattle.tp_state.specs.CellRules.{is_defined}
use Rattle.tp_state.specs.Planes.{undefined_bits}
use Rattle.tp_state.proofs.PlaneCells.{undefined_where}
use Rattle.tp_state.proofs.PlaneLoops.{tested_more, tested_found}
use Rattle.tp_state.proofs.planes.all_defined.Goals as goal

pub loop-w-preserved : goal.loop-w-preserved
loop-w-preserved c values =
    tested_more undefined_bits is_defined undefined_where values c.args.planes.now c.args.x c.args.end c.loop-w.w
    c.within.result c.undefined.result c.undefined.ensures c.within.ensures c.if-undefined-within-ne0.false
    (c.loop-w.invariant values)

pub returns-then-undefined-within-ne0-clause-no : goal.returns-then-undefined-within-ne0-clause-no
returns-then-undefined-within-ne0-clause-no c e values =
    tested_found undefined_bits is_defined undefined_where values c.args.planes.now c.args.x c.args.end c.loop-w.w
    c.within.result c.undefined.result c.undefined.ensures c.within.ensures c.undefined.type_inv
    c.if-undefined-within-ne0.true
