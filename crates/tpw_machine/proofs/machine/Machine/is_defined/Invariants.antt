use Rattle.std.proofs.Common.{◌≡◌, ℕ, ◌<◌, ◌+◌, slice_index_or, true, false}
use Rattle.tpw_machine.proofs.machine.Machine.is_defined.Given as goal

abbrev pub invariant-loop-tag : goal.invariant-loop-tag
invariant-loop-tag l = (k : ℕ) → k < l.tag-index → slice_index_or l.self.defined (l.i + k) false ≡ true
