use Rattle.std.proofs.Common.{◌≤◌, ◌<◌, ◌*◌, length, arith}
use Rattle.tp_state.proofs.PlaneLoops.{put_more, changes_end}
use Rattle.tp_state.proofs.planes.put_all.Goals as goal

pub loop-w-preserved : goal.loop-w-preserved
loop-w-preserved c values =
    let room : c.loop-w.w < length c.loop-w.planes = omega arith in
    put_more values _ _ c.args.kept.first c.args.kept.second c.args.x c.args.end c.loop-w.w c.within.result c.put.result
    (c.loop-w.invariant values) room c.within.ensures c.put.ensures.first c.put.ensures.second

pub returns : goal.returns
returns c values =
    let past : c.args.end ≤ 64 * c.loop-w.w = omega arith in
    changes_end values _ _ _ c.args.x c.args.end c.loop-w.w (c.loop-w.invariant values) past
