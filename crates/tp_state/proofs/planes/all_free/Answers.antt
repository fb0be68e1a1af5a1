use Rattle.tp_state.specs.CellRules.{is_free}
use Rattle.tp_state.specs.Planes.{live_bits}
use Rattle.tp_state.proofs.PlaneCells.{live_where}
use Rattle.tp_state.proofs.PlaneLoops.{tested_more, tested_found}
use Rattle.tp_state.proofs.planes.all_free.Goals as goal

pub loop-w-preserved : goal.loop-w-preserved
loop-w-preserved c values =
    tested_more live_bits is_free live_where values c.args.planes.now c.args.x c.args.end c.loop-w.w c.within.result
    c.live.result c.live.ensures c.within.ensures c.if-live-within-ne0.false (c.loop-w.invariant values)

pub returns-then-live-within-ne0-clause-no : goal.returns-then-live-within-ne0-clause-no
returns-then-live-within-ne0-clause-no c e values =
    tested_found live_bits is_free live_where values c.args.planes.now c.args.x c.args.end c.loop-w.w c.within.result
    c.live.result c.live.ensures c.within.ensures c.live.type_inv c.if-live-within-ne0.true
