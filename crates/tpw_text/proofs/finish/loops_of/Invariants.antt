use Rattle.std.proofs.Common.{◌≡◌, take, Ok}
use Rattle.tpw_text.specs.Programs.{loop_placed}
use Rattle.tpw_text.specs.Faults.{each_read}
use Rattle.tpw_text.proofs.finish.loops_of.Given as goal

-- the rows so far
abbrev pub invariant-loop-row : goal.invariant-loop-row
invariant-loop-row l = each_read (loop_placed l.labels) (take l.row-index l.rows) ≡ Ok l.loops.items
