use Rattle.std.proofs.Common.{◌≡◌}
use Rattle.tpw_runs.specs.Tallies.{counted}
use Rattle.tpw_running.proofs.evaluating.write_packets.Given as goal

abbrev pub invariant-loop-number : goal.invariant-loop-number
invariant-loop-number g l = counted l.tally ≡ l.number
