-- where a stretch of a line lies in a text
use Rattle.std.specs.Prelude.{◌≡◌, ℕ, ◌+◌, ◌≤◌, ◌==◌, List, length, take, if◌then◌else◌}
use Rattle.std.specs.List.{fold, AllPairs}
use Rattle.tpw_occam_terms.specs.declared.fault.Fault.{Fault}
use Rattle.tpw_occam_terms.specs.declared.span.Span.{Span}

-- the line and the column behind a byte: a line feed ends a line
abbrev pub line_behind : ℕ → ℕ → ℕ
line_behind line byte = if byte == 10 then line + 1 else line

abbrev pub column_behind : ℕ → ℕ → ℕ
column_behind column byte = if byte == 10 then 1 else column + 1

-- the line and the column behind bytes of a text, counted from 1
abbrev pub line_after : List ℕ → ℕ
line_after bytes = fold line_behind 1 bytes

abbrev pub column_after : List ℕ → ℕ
column_after bytes = fold column_behind 1 bytes

-- behind this many bytes of a text stand this line and this column
pub record IsReached (text : List ℕ) (bytes line column : ℕ) : Type 0 where
  pub in_text : bytes ≤ length text
  pub at_line : line_after (take bytes text) ≡ line
  pub at_column : column_after (take bytes text) ≡ column

-- a span is some bytes of a text, all of one line
pub record LiesIn (text : List ℕ) (span : Span) : Type 0 where
  pub offset : ℕ
  pub begins : IsReached text offset span.line span.column
  pub ends : IsReached text (offset + span.width) span.line (span.column + span.width)

-- a place, by its line and column, and one that is not in front of it
pub record IsInOrder (line column next_line next_column : ℕ) : Type 0 where
  pub lines : line ≤ next_line
  pub columns : line ≡ next_line → column ≤ next_column

-- no fault begins in front of one before it
abbrev pub AreInOrder : List Fault → Type 0
AreInOrder faults = AllPairs (λ a b. IsInOrder a.span.line a.span.column b.span.line b.span.column) faults
