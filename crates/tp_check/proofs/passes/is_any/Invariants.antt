use Rattle.std.proofs.Common.{◌≡◌, ◌<◌, ℕ, false}
use Rattle.tp_check.specs.UnderWay.{is_in}
use Rattle.tp_check.proofs.passes.is_any.Given as goal

abbrev pub invariant-loop-flag : goal.invariant-loop-flag
invariant-loop-flag l = (at : ℕ) → at < l.flag-index → is_in l.flags at ≡ false
