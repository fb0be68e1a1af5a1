use Rattle.std.proofs.Common.{◌≡◌, ℕ, ◌-◌, ◌+◌, vec_len}
use Rattle.tpw_occam_interpreter.specs.Memories.{row}
use Rattle.tpw_occam_interpreter.proofs.writing.grow_arrays.Given as goal

abbrev pub invariant-loop-alloc : goal.invariant-loop-alloc
invariant-loop-alloc l = (b : ℕ) → row l.arrays.items b ≡ row l.initial.arrays.items b

abbrev pub decreases-loop-alloc : goal.decreases-loop-alloc
decreases-loop-alloc l = l.a + 1 - vec_len l.arrays
