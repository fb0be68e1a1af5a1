use Rattle.std.proofs.Common.{◌≡◌, ℕ, ◌<◌, ◌≤◌, get_or}
use Rattle.tp_flow.specs.declared.range.LoopRange.{LoopRange}
use Rattle.tp_flow.specs.NestRanges.{contains}
use Rattle.tp_flow.proofs.nest.Nest.stretch.Given as goal

abbrev pub invariant-loop-range : goal.invariant-loop-range
invariant-loop-range l =
    (k : ℕ) (d : LoopRange) → k < l.range-index → (at : ℕ) → l.first ≤ at → at ≤ l.last → contains (get_or l.self k d) l.first ≡ contains (get_or l.self k d) at
