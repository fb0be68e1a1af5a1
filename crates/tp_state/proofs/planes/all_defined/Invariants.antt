use Rattle.std.proofs.Common.{◌≡◌, ℕ, ◌*◌, ◌<◌, ◌≤◌, List, min, true}
use Rattle.tp_state.specs.CellRules.{is_defined}
use Rattle.tp_state.specs.Planes.{cell_in}
use Rattle.tp_state.proofs.planes.all_defined.Given as goal

abbrev pub invariant-loop-w : goal.invariant-loop-w
invariant-loop-w l = (values : List ℕ) (i : ℕ) → l.x ≤ i → i < min l.end (64 * l.w) → is_defined (cell_in values l.planes i) ≡ true
