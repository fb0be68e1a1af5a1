use Rattle.std.proofs.Common.{ℕ, ◌*◌, List, min, slice_index_or}
use Rattle.tp_state.specs.Planes.{ChangesPlanes, cell_of}
use Rattle.tp_state.proofs.planes.put_all.Given as goal

abbrev pub invariant-loop-w : goal.invariant-loop-w
invariant-loop-w l = (values : List ℕ) → ChangesPlanes values l.initial.planes l.planes (λ i c. cell_of l.fn.kept.first l.fn.kept.second (slice_index_or values i 0)) l.x (min l.end (64 * l.w))
