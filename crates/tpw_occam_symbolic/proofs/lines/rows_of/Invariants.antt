use Rattle.std.proofs.Common.{◌≡◌, All, map, take}
use Rattle.tpw_occam_symbolic.specs.Placing.{places, loop_at, IsRow}
use Rattle.tpw_occam_symbolic.proofs.lines.rows_of.Given as goal

-- the rows so far
abbrev pub invariant-loop-turns : goal.invariant-loop-turns
invariant-loop-turns l = record {
  rows : l.rows.items ≡ map (loop_at (places l.placed) 5) (take l.turns-index l.loops);
  good : All (IsRow l.placed) (take l.turns-index l.loops);
}
