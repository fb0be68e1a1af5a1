-- Free words that take something that fits, and what else stays.
use Rattle.std.proofs.Common.{◌≡◌, ◌⊎◌, inl, inr, ℕ, ◌+◌, ◌*◌, ◌^◌, ◌<◌, ◌≤◌, Bool, true, false, List, length}
use Rattle.std.proofs.Common.{length-set, slice_set, slice_get, get_or-set_same, get_or-set_other, Some, refl, sym, ap}
use Rattle.std.proofs.Common.{◌∙◌, arith}
use Rattle.std.proofs.lemmas.Bool.{cases_eq}
use Rattle.tp_image.specs.declared.image.LoopRow.{LoopRow}
use Rattle.tp_step.specs.Memory.{Memory, word_at, with_word, undefined}
use Rattle.tp_step.proofs.MemoryLemmas.{word_same, word_other, word_kept}
use Rattle.tp_state.specs.declared.cell.Cell.{Cell}
use Rattle.tp_state.specs.declared.cell.Cell.TheVariants as cell
use Rattle.tp_state.specs.CellRules.{cell_at, is_free}
use Rattle.tp_state.specs.Fits.{CellFits, WordsFit, IsLive, LoopsFit, word_address}
use Rattle.tp_state.specs.GoesOn.{turns_in}
use Rattle.tp_state.proofs.Passing.{true_false}
use Rattle.tp_state.proofs.LiveLoops.{live_room}

-- a word and what is known of it stay
pub record IsKept (cells cells' : List Cell) (m m' : Memory) (x : ℕ) : Type 0 where
  pub cell : cell_at cells' x ≡ cell_at cells x
  pub word : word_at m' (word_address x) ≡ word_at m (word_address x)

-- a free word takes something, which is no live control word
pub record IsTaken (rows : List LoopRow) (cells cells' : List Cell) (m' : Memory) (x : ℕ) : Type 0 where
  pub was : is_free (cell_at cells x) ≡ true
  pub free : is_free (cell_at cells' x) ≡ true
  pub fits : CellFits rows (cell_at cells' x) (word_at m' (word_address x))

-- each word of the workspace stays, or is free and takes something
pub record Change (rows : List LoopRow) (workspace : ℕ) (cells cells' : List Cell) (m m' : Memory) : Type 0 where
  pub sized : length cells' ≡ length cells
  pub word : (x : ℕ) → x < workspace → IsKept cells cells' m m' x ⊎ IsTaken rows cells cells' m' x

module _ (rows : List LoopRow) (workspace : ℕ) (cells cells' : List Cell) (m m' : Memory) (c : Change rows workspace cells cells' m m') where
  pub words_changed : WordsFit rows workspace cells m → WordsFit rows workspace cells' m'
  words_changed f = record { sized = c.sized ∙ f.sized; word = λ x lt. at x lt (c.word x lt) }
    where
      at : (x : ℕ) → x < workspace → IsKept cells cells' m m' x ⊎ IsTaken rows cells cells' m' x → CellFits rows (cell_at cells' x) (word_at m' (word_address x))
      at x lt (inl kept) = rw (kept.cell, kept.word) (f.word x lt)
      at x lt (inr taken) = taken.fits

  module _ (sized : length cells ≡ workspace) where
    -- a live word stays
    pub live_kept : (x : ℕ) → is_free (cell_at cells x) ≡ false → IsKept cells cells' m m' x
    live_kept x live = by_word (c.word x (omega (arith, sized, live_room cells x live)))
      where
        by_word : IsKept cells cells' m m' x ⊎ IsTaken rows cells cells' m' x → IsKept cells cells' m m' x
        by_word (inl kept) = kept
        by_word (inr taken) = true_false (sym taken.was ∙ live)

    -- and none becomes live
    live_was : (x : ℕ) → is_free (cell_at cells' x) ≡ false → is_free (cell_at cells x) ≡ false
    live_was x live =
        let in_cells = live_room cells' x live in
        by_word (c.word x (omega (arith, sized, c.sized)))
      where
        by_word : IsKept cells cells' m m' x ⊎ IsTaken rows cells cells' m' x → is_free (cell_at cells x) ≡ false
        by_word (inl kept) = ap is_free (sym kept.cell) ∙ live
        by_word (inr taken) = true_false (sym taken.free ∙ live)

    pub loops_changed : (around : ℕ → Bool) → LoopsFit rows around cells m → LoopsFit rows around cells' m'
    loops_changed around f = record { live = live; only = λ x is. f.only x (live_was x is) }
      where
        live : (l : ℕ) (row : LoopRow) → around l ≡ true → slice_get rows l ≡ Some row → IsLive cells' m' l row
        live l row is row_is =
            let b = f.live l row is row_is in
            let index = live_kept row.control (ap is_free b.index_cell) in
            let count = live_kept (row.control + 1) (ap is_free b.count_cell) in
            record {
              index_cell = index.cell ∙ b.index_cell;
              count_cell = count.cell ∙ b.count_cell;
              index = b.index;
              left = b.left;
              index_is = index.word ∙ b.index_is;
              left_is = count.word ∙ b.left_is;
              sum = b.sum;
            }

    pub turns_kept : (around : ℕ → Bool) → LoopsFit rows around cells m → (l : ℕ) (row : LoopRow) → around l ≡ true → slice_get rows l ≡ Some row → turns_in m' row ≡ turns_in m row
    turns_kept around f l row is row_is =
        let b = f.live l row is row_is in
        let count = live_kept (row.control + 1) (ap is_free b.count_cell) in
        rw count.word refl

-- ---- one change after another

pub no_change : (rows : List LoopRow) (workspace : ℕ) (cells : List Cell) (m : Memory) → Change rows workspace cells cells m m
no_change rows workspace cells m = record { sized = refl; word = λ x lt. inl record { cell = refl; word = refl } }

pub changes : (rows : List LoopRow) (workspace : ℕ) (cells cells' cells'' : List Cell) (m m' m'' : Memory) →
    Change rows workspace cells cells' m m' → Change rows workspace cells' cells'' m' m'' →
    Change rows workspace cells cells'' m m''
changes rows workspace cells cells' cells'' m m' m'' c d = record { sized = d.sized ∙ c.sized; word = λ x lt. at x (c.word x lt) (d.word x lt) }
  where
    at : (x : ℕ) → IsKept cells cells' m m' x ⊎ IsTaken rows cells cells' m' x →
        IsKept cells' cells'' m' m'' x ⊎ IsTaken rows cells' cells'' m'' x →
        IsKept cells cells'' m m'' x ⊎ IsTaken rows cells cells'' m'' x
    at x (inl a) (inl b) = inl record { cell = b.cell ∙ a.cell; word = b.word ∙ a.word }
    at x (inl a) (inr b) = inr record { was = ap is_free (sym a.cell) ∙ b.was; free = b.free; fits = b.fits }
    at x (inr a) (inl b) = inr record { was = a.was; free = ap is_free b.cell ∙ a.free; fits = rw (b.cell, b.word) a.fits }
    at x (inr a) (inr b) = inr record { was = a.was; free = b.free; fits = b.fits }

-- ---- one word takes a value

pub written_word : (m : Memory) (x v : ℕ) → v < 2 ^ 32 → word_at (with_word m (word_address x) v) (word_address x) ≡ Some v
written_word m x v lt = word_same m (word_address x) v lt

pub unwritten_word : (m : Memory) (x i v : ℕ) → (i ≡ x → ⊥) → word_at (with_word m (word_address x) v) (word_address i) ≡ word_at m (word_address i)
unwritten_word m x i v differ =
    let apart : (word_address i + 4 ≤ word_address x) ⊎ (word_address x + 4 ≤ word_address i) = grind arith in
    word_other m (word_address i) (word_address x) v apart

-- a word outside those that are made undefined
pub kept_word : (m : Memory) (x n i : ℕ) → (i < x) ⊎ (x + n ≤ i) → word_at (undefined m (word_address x) (4 * n)) (word_address i) ≡ word_at m (word_address i)
kept_word m x n i (inl below) = word_kept m (word_address i) (word_address x) (4 * n) (inl (omega arith))
kept_word m x n i (inr above) = word_kept m (word_address i) (word_address x) (4 * n) (inr (omega arith))

pub word_taken : (rows : List LoopRow) (workspace : ℕ) (cells : List Cell) (m : Memory) (x : ℕ) (c : Cell) (v : ℕ) →
    v < 2 ^ 32 → x < length cells → is_free (cell_at cells x) ≡ true → is_free c ≡ true → CellFits rows c (Some v) →
    Change rows workspace cells (slice_set cells x c) m (with_word m (word_address x) v)
word_taken rows workspace cells m x c v small room was free fits = record { sized = length-set cells x c; word = λ i lt. at i (cases_eq i x) }
  where
    at : (i : ℕ) → (i ≡ x) ⊎ (i ≡ x → ⊥) → IsKept cells (slice_set cells x c) m (with_word m (word_address x) v) i ⊎ IsTaken rows cells (slice_set cells x c) (with_word m (word_address x) v) i
    at i (inl same) =
        let set = get_or-set_same cells x c cell.Undef room in
        inr (rw same record { was = was; free = ap is_free set ∙ free; fits = rw (set, written_word m x v small) fits })
    at i (inr other) = inl record { cell = get_or-set_other cells x i c cell.Undef other; word = unwritten_word m x i v other }
