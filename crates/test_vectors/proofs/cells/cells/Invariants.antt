use Rattle.std.proofs.Common.{◌≡◌, length}
use Rattle.test_vectors.proofs.cells.cells.Given as goal

abbrev pub invariant-loop-it : goal.invariant-loop-it
invariant-loop-it l = length l.cells.items ≡ l.words
