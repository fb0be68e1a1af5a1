use Rattle.std.proofs.Common.{◌<◌, ◌≤◌, ◌+◌, ◌*◌, ◌/◌, length, ap, ◌∙◌, refl, arith}
use Rattle.tp_state.specs.Planes.{is_set}
use Rattle.tp_state.proofs.PlaneLoops.{put_more, changes_none, changes_end, one_within}
use Rattle.tp_state.proofs.planes.put_one.Goals as goal

pub returns : goal.returns
returns c values =
    let x = c.args.x in
    let room : c.args.x / 64 < length c.args.planes.now = omega arith in
    let past : c.args.x + 1 ≤ 64 * (c.args.x / 64 + 1) = omega arith in
    changes_end values _ _ _ c.args.x (c.args.x + 1) (c.args.x / 64 + 1)
    (put_more values c.args.planes.now c.args.planes.now c.args.kept.first c.args.kept.second c.args.x (c.args.x + 1) (c.args.x / 64) c.one.result c.put.result
    (changes_none values _ _ c.args.x (c.args.x + 1) (c.args.x / 64) refl) room
    (λ j lt. ap (λ m. is_set m j) c.one.ensures ∙ one_within c.args.x j lt) c.put.ensures.first c.put.ensures.second)
    past
