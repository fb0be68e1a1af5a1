use Rattle.std.proofs.Common.{◌≡◌, length}
use Rattle.tpw_step.specs.Profiles.{AddsUp}
use Rattle.tpw_step.proofs.profile.count_run.Given as goal

abbrev pub invariant-loop : goal.invariant-loop
invariant-loop l =
    AddsUp l.profile × (length l.profile.counts.items ≡ length l.fn.profile.counts.items)
    × (l.stepper.image ≡ l.fn.stepper.image)
