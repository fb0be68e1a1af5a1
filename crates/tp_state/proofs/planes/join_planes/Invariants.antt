use Rattle.std.proofs.Common.{◌==◌, not}
use Rattle.tp_state.proofs.PlaneJoins.{JoinsPlanes}
use Rattle.tp_state.proofs.planes.join_planes.Given as goal

abbrev pub invariant-loop-w : goal.invariant-loop-w
invariant-loop-w l = JoinsPlanes l.values l.other_values l.initial.planes l.others l.planes l.w (not (l.moved == 0))
