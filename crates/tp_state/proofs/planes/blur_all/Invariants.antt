use Rattle.std.proofs.Common.{ℕ, ◌*◌, List, min}
use Rattle.tp_state.specs.CellRules.{blurred}
use Rattle.tp_state.specs.Planes.{ChangesPlanes}
use Rattle.tp_state.proofs.planes.blur_all.Given as goal

abbrev pub invariant-loop-w : goal.invariant-loop-w
invariant-loop-w l = (values : List ℕ) → ChangesPlanes values l.initial.planes l.planes (λ i c. blurred c) l.x (min l.end (64 * l.w))
