use Rattle.std.proofs.Common.{◌≡◌, All, map, take}
use Rattle.tpw_occam_symbolic.specs.Placing.{places, line_at, IsPlaced}
use Rattle.tpw_occam_symbolic.proofs.lines.lines_of.Given as goal

-- the lines so far
abbrev pub invariant-loop-line : goal.invariant-loop-line
invariant-loop-line l = record {
  lines : l.lines.items ≡ map (line_at (places l.placed)) (take l.line-index l.code);
  placed : All (IsPlaced l.worker l.placed) (take l.line-index l.code);
}
