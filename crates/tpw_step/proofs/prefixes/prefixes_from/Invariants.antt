use Rattle.std.proofs.Common.{◌≡◌, ℕ, ◌+◌, ◌<◌, true, pos}
use Rattle.tpw_step.specs.Stepping.{has_prefix}
use Rattle.tpw_step.proofs.prefixes.prefixes_from.Given as goal

abbrev pub invariant-loop-i : goal.invariant-loop-i
invariant-loop-i l = (j : ℕ) → l.first + j < l.i → has_prefix l.code (pos (l.first + j)) ≡ true
