use Rattle.std.proofs.Common.{◌≡◌, take, Ok}
use Rattle.tpw_text.specs.Programs.{line_placed}
use Rattle.tpw_text.specs.Faults.{each_read}
use Rattle.tpw_text.proofs.finish.lines_of.Given as goal

-- the lines so far
abbrev pub invariant-loop-line : goal.invariant-loop-line
invariant-loop-line l = each_read (line_placed l.labels) (take l.line-index l.lines) ≡ Ok l.placed.items
