use Rattle.std.proofs.Common.{◌≡◌, replicate, None}
use Rattle.tp_check.proofs.states.no_states.Given as goal

abbrev pub invariant-loop-at : goal.invariant-loop-at
invariant-loop-at l = l.states.items ≡ replicate l._at None
