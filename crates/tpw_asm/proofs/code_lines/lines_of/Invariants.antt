use Rattle.std.proofs.Common.{◌-◌, ◌≤◌, length}
use Rattle.tpw_asm.proofs.CodeLines.{LinesTo}
use Rattle.tpw_asm.proofs.code_lines.lines_of.Given as goal

abbrev pub invariant-loop-found : goal.invariant-loop-found
invariant-loop-found l = record {
  within : l.at ≤ length l.code;
  so_far : LinesTo l.code l.at l.lines.items;
}

abbrev pub decreases-loop-found : goal.decreases-loop-found
decreases-loop-found l = length l.code - l.at
