use Rattle.std.proofs.Common.{◌≡◌, ◌++◌, take, drop, length}
use Rattle.tpw_step.specs.Profiles.{sums}
use Rattle.tpw_step.proofs.profile.add_each.Given as goal

-- the numbers before a place are added
abbrev pub invariant-loop-i : goal.invariant-loop-i
invariant-loop-i l = l.counts ≡ sums (take l.i l.fn.counts) (take l.i l.more) ++ drop l.i l.fn.counts
