use Rattle.std.proofs.Common.{◌≡◌, length}
use Rattle.tpw_step.specs.Profiles.{AddsUp}
use Rattle.tpw_stepping.proofs.profiling.added.Given as goal

abbrev pub invariant-loop-share : goal.invariant-loop-share
invariant-loop-share g l = AddsUp l.profile × (length l.profile.counts.items ≡ length l.image.code)
