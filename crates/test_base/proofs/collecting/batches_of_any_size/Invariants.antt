use Rattle.std.proofs.Common.{◌≡◌, vec_len}
use Rattle.test_base.proofs.collecting.batches_of_any_size.Given as goal

abbrev pub invariant-loop : goal.invariant-loop
invariant-loop g l = vec_len l.packets ≡ l.counter
