use Rattle.std.proofs.Common.{◌≡◌, take}
use Rattle.tp_flow.specs.NestRanges.{ranges}
use Rattle.tp_flow.proofs.nest.Nest.of.Given as goal

abbrev pub invariant-loop-row : goal.invariant-loop-row
invariant-loop-row l = l.loops.items ≡ ranges (take l.row-index l.rows)
