-- The words that are live control words.
use Rattle.std.specs.Prelude.{◌≡◌, ℕ, ◌+◌, ◌⊎◌, Bool, true, false, List, Some, slice_get}
use Rattle.tp_image.specs.declared.image.LoopRow.{LoopRow}
use Rattle.tp_state.specs.declared.cell.Cell.{Cell}
use Rattle.tp_state.specs.declared.cell.Cell.TheVariants.{Index, Count}
use Rattle.tp_state.specs.CellRules.{cell_at, is_free}

-- word x is one of the block of row l's loop
pub record IsInBlock (rows : List LoopRow) (x l : ℕ) : Type 0 where
  pub row : LoopRow
  pub is : slice_get rows l ≡ Some row
  pub place : (x ≡ row.control) ⊎ (x ≡ row.control + 1)

-- both words of the block of row l's loop name it
pub record NamesLoop (cells : List Cell) (l : ℕ) (row : LoopRow) : Type 0 where
  pub index : cell_at cells row.control ≡ Index l
  pub count : cell_at cells (row.control + 1) ≡ Count l

-- each live control word is in the block of one of some loops
abbrev pub AreInBlocks : List LoopRow → (around : ℕ → Bool) → List Cell → Type 0
AreInBlocks rows around cells =
    (x : ℕ) → is_free (cell_at cells x) ≡ false → (l : ℕ) × (around l ≡ true) × IsInBlock rows x l

-- The live control words are those of the blocks of some loops.
pub record LiveWordsAre (rows : List LoopRow) (around : ℕ → Bool) (cells : List Cell) : Type 0 where
  pub live : (l : ℕ) (row : LoopRow) → around l ≡ true → slice_get rows l ≡ Some row → NamesLoop cells l row
  pub only : AreInBlocks rows around cells
