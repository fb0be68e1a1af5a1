-- States that are sound: what the rules keep, and what they need to keep the order.
use Rattle.std.specs.Prelude.{◌≡◌, ℕ, ◌^◌, ◌<◌, ◌≤◌, ℤ, ◌≤ℤ◌, List, slice_get, Some, All, FitsSigned}
use Rattle.std.specs.Int.{w32}
use Rattle.tp_decode.specs.declared.instr.Instr.{Instr}
use Rattle.tp_decode.specs.Table.{entry as code_entry}
use Rattle.tp_image.specs.declared.image.LoopRow.{LoopRow}
use Rattle.tp_image.specs.Image.{ImageValue}
use Rattle.tp_words.specs.Numbers.{least_integer, greatest_integer}
use Rattle.tp_state.specs.declared.kind.Kind.{Kind}
use Rattle.tp_state.specs.declared.kind.Kind.TheVariants as kind
use Rattle.tp_state.specs.declared.cell.Cell.{Cell}
use Rattle.tp_state.specs.declared.cell.Cell.TheVariants as cell
use Rattle.tp_state.specs.declared.state.State.{State}
use Rattle.tp_state.specs.Conditions.{IsPlaced}

-- a range of words that has a number
pub record IsRange (low high : ℤ) : Type 0 where
  pub least : least_integer ≤ℤ low
  pub ordered : low ≤ℤ high
  pub greatest : high ≤ℤ greatest_integer

-- a range of places that has one
pub record AreInOrder (first last : ℕ) : Type 0 where
  pub ordered : first ≤ last
  pub greatest : last < 2 ^ 32

-- the range of a register is in order, and its ends are words
abbrev pub IsSoundKind : Kind → Type 0
IsSoundKind kind.Undef = Unit {0}
IsSoundKind (kind.Int low high) = IsRange low high
IsSoundKind (kind.Ptr p q) = AreInOrder p q
IsSoundKind (kind.BytePtr p q) = AreInOrder p q

-- a loop has its row
abbrev pub HasRow : List LoopRow → ℕ → Type 0
HasRow rows l = (row : LoopRow) × (slice_get rows l ≡ Some row)

-- a known number is a word's, and the loop of a live control word has a row
abbrev pub IsSoundCell : List LoopRow → Cell → Type 0
IsSoundCell rows (cell.Known n) = IsRange n n
IsSoundCell rows (cell.Index l) = HasRow rows l
IsSoundCell rows (cell.Count l) = HasRow rows l
IsSoundCell rows c = Unit {0}

-- a sound state: one of the image's worker, whose ranges are in order, whose numbers are words, and whose live loops
-- have rows
pub record IsSound (image : ImageValue) (s : State) : Type 0 where
  pub placed : IsPlaced image s
  pub a : IsSoundKind s.a
  pub b : IsSoundKind s.b
  pub c : IsSoundKind s.c
  pub words : All (IsSoundCell image.loops) s.cells

-- what an instruction loads is a word
abbrev pub LoadsWord : Instr → Type 0
LoadsWord instr = FitsSigned w32 (code_entry instr).operand
