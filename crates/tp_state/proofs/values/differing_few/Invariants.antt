use Rattle.std.proofs.Common.{◌≡◌, ℕ, ◌<◌, ◌≤◌, ◌==◌, not, false, slice_index_or}
use Rattle.tp_state.specs.Planes.{is_set}
use Rattle.tp_state.proofs.values.differing_few.Given as goal

abbrev pub invariant-loop-j : goal.invariant-loop-j
invariant-loop-j l = record {
  told : (k : ℕ) → k < l.j → is_set l.bits k ≡ not (slice_index_or l.values k 0 == slice_index_or l.others k 0);
  others : (k : ℕ) → l.j ≤ k → is_set l.bits k ≡ false;
}
