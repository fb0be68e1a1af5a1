use Rattle.std.proofs.Common.{◌≡◌, ℕ, ◌*◌, ◌<◌, true}
use Rattle.tp_state.specs.Order.{cell_below}
use Rattle.tp_state.specs.Planes.{cell_in}
use Rattle.tp_state.proofs.planes.planes_below.Given as goal

abbrev pub invariant-loop-w : goal.invariant-loop-w
invariant-loop-w l = (i : ℕ) → i < 64 * l.w → cell_below (cell_in l.values l.planes i) (cell_in l.other_values l.others i) ≡ true
