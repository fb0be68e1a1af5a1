use Rattle.std.proofs.Common.{◌≡◌, ℕ, ◌-◌, ◌+◌, vec_len, get_or}
use Rattle.tpw_occam_interpreter.proofs.writing.grow.Given as goal

abbrev pub invariant-loop-cells : goal.invariant-loop-cells
invariant-loop-cells l = (y : ℕ) → get_or l.cells.items y 0 ≡ get_or l.initial.cells.items y 0

abbrev pub decreases-loop-cells : goal.decreases-loop-cells
decreases-loop-cells l = l.x + 1 - vec_len l.cells
