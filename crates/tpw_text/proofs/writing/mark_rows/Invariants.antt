use Rattle.std.proofs.Common.{take}
use Rattle.std.specs.List.{list_any}
use Rattle.tpw_text.specs.Written.{IsMarked, names_from_row}
use Rattle.tpw_text.proofs.writing.mark_rows.Given as goal

-- what those so far name is marked
abbrev pub invariant-loop-row : goal.invariant-loop-row
invariant-loop-row l = IsMarked (λ k. list_any (names_from_row k) (take l.row-index l.rows)) l.fn.marks l.marks
