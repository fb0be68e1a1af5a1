use Rattle.std.proofs.Common.{take}
use Rattle.std.specs.List.{list_any}
use Rattle.tpw_text.specs.Written.{IsMarked, names_from_line}
use Rattle.tpw_text.proofs.writing.mark_lines.Given as goal

-- what those so far name is marked
abbrev pub invariant-loop-line : goal.invariant-loop-line
invariant-loop-line l = IsMarked (λ k. list_any (names_from_line k) (take l.line-index l.lines)) l.fn.marks l.marks
