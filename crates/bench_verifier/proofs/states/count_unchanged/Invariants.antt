use Rattle.std.proofs.Common.{◌≡◌, length}
use Rattle.bench_verifier.proofs.states.count_unchanged.Given as goal

abbrev pub invariant-loop-round : goal.invariant-loop-round
invariant-loop-round l = length l.other.cells ≡ length l.state.cells
