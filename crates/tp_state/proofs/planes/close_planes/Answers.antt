use Rattle.std.proofs.Common.{inl, ◌∙◌, get_or, length, ◌*◌, ◌<◌, arith}
use Rattle.tp_state.proofs.PlaneJoins.{undefined_bits}
use Rattle.tp_state.proofs.SeenLemmas.{clear_known}
use Rattle.tp_state.proofs.planes.close_planes.Goals as goal

pub returns-clause-known : goal.returns-clause-known
returns-clause-known c values i lt = (c.put_all.ensures values).outside i (inl lt) ∙ clear_known c.args.planes.now c.requires.clear values i

pub returns-clause-padded : goal.returns-clause-padded
returns-clause-padded c values i past lt =
    let under : i < 64 * length c.args.planes.now = omega (arith, lt, (c.put_all.ensures values).long) in
    (c.put_all.ensures values).inside i past under ∙ undefined_bits c.of.result.first c.of.result.second c.of.result.value (get_or values i 0) c.of.ensures.cell
