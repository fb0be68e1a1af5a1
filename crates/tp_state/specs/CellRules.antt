-- What is known of the workspace's words: reading and writing.
use Rattle.std.specs.Prelude.{ℕ, ◌+◌, Bool, true, false, if◌then◌else◌, pos, List, ◌++◌, length, take, drop}
use Rattle.std.specs.Prelude.{slice_index_or, slice_get, Result, Ok, Err}
use Rattle.std.specs.List.{list_all}
use Rattle.std.specs.Ordering.{int_eq}
use Rattle.tp_image.specs.declared.image.LoopRow.{LoopRow}
use Rattle.tp_flow.specs.RowRules.{last_index}
use Rattle.tp_state.specs.declared.kind.Kind.{Kind}
use Rattle.tp_state.specs.declared.kind.Kind.TheVariants as kind
use Rattle.tp_state.specs.declared.cell.Cell.{Cell}
use Rattle.tp_state.specs.declared.cell.Cell.TheVariants.{Undef, Any, Known, Index, Count}
use Rattle.tp_state.specs.declared.fault.StateCode.{StateCode}
use Rattle.tp_state.specs.declared.fault.StateCode.TheVariants.{S4}
use Rattle.tp_state.specs.Answer.{◌>>=◌, found}
use Rattle.tp_state.specs.Kinds.{full, exactly}

abbrev pub cell_at : List Cell → ℕ → Cell
cell_at cells x = slice_index_or cells x Undef

-- n cells, from cell x on
unfoldable pub cells_from : List Cell → ℕ → ℕ → List Cell
cells_from cells x n = take n (drop x cells)

-- these cells stand from cell x on
unfoldable pub with_cells : List Cell → ℕ → List Cell → List Cell
with_cells cells x these = take x cells ++ (these ++ drop (x + length these) cells)

-- the word is no live control word
abbrev pub is_free : Cell → Bool
is_free (Index l) = false
is_free (Count l) = false
is_free cell = true

abbrev pub are_free : List Cell → Bool
are_free cells = list_all is_free cells

-- the bytes of the word are defined
abbrev pub is_defined : Cell → Bool
is_defined Undef = false
is_defined cell = true

abbrev pub are_defined : List Cell → Bool
are_defined cells = list_all is_defined cells

-- one value of the word, or the live loop that it is of, is known
abbrev pub has_value : Cell → Bool
has_value Undef = false
has_value Any = false
has_value cell = true

-- what is read from a word; the index of a live loop goes from its start over its turns, and its count from 1
unfoldable pub read : List LoopRow → Cell → Result Kind StateCode
read rows Undef = Err S4
read rows Any = Ok full
read rows (Known n) = Ok (exactly n)
read rows (Index l) = do
  row ← found S4 (slice_get rows l)
  Ok (kind.Int row.start (last_index row))
read rows (Count l) = do
  row ← found S4 (slice_get rows l)
  Ok (kind.Int (pos 1) (pos row.count))

-- what is known of a word that takes a register of this kind
abbrev pub written : Kind → Cell
written (kind.Int low high) = if int_eq low high then Known low else Any
written kind.Undef = Undef
written k = Any

-- what is known of a word that may have taken something, or a part of something
abbrev pub blurred : Cell → Cell
blurred (Known n) = Any
blurred cell = cell

-- what is known of a copy
abbrev pub copied : Cell → Cell
copied (Index l) = Any
copied (Count l) = Any
copied cell = cell
