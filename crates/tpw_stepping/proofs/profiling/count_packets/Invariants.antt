use Rattle.std.proofs.Common.{◌≡◌, length}
use Rattle.tpw_step.specs.Profiles.{AddsUp}
use Rattle.tpw_stepping.proofs.profiling.count_packets.Given as goal

abbrev pub invariant-loop-i : goal.invariant-loop-i
invariant-loop-i g l = AddsUp l.profile × (length l.profile.counts.items ≡ length l.fn.profile.counts.items)
