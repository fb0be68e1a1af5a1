-- How the loops part of what fits changes where a loop turns, is entered or is left.
use Rattle.std.proofs.Common.{◌≡◌, ℕ, ◌+◌, ◌<◌, ◌⊎◌, inl, inr, Bool, true, false, ◌==◌, pos, ◌+ℤ◌, List, length, slice_get, Some, refl, sym, ap, ◌∙◌, subst, arith}
use Rattle.std.proofs.lemmas.Bool.{cases_eq, or_left, or_right}
use Rattle.std.proofs.lemmas.Bool.Decides.{Decides-eqb}
use Rattle.std.proofs.lemmas.Option.{same_Some}
use Rattle.tp_words.specs.Words.{signed}
use Rattle.tp_image.specs.declared.image.LoopRow.{LoopRow}
use Rattle.tp_flow.specs.LoopsAround.{without, along_with}
use Rattle.tp_step.specs.Memory.{Memory, word_at}
use Rattle.tp_state.specs.declared.cell.Cell.{Cell}
use Rattle.tp_state.specs.declared.cell.Cell.TheVariants as cell
use Rattle.tp_state.specs.CellRules.{cell_at, is_free}
use Rattle.tp_state.specs.Fits.{CellFits, WordsFit, IsLive, LoopsFit, word_address}
use Rattle.tp_state.specs.Live.{IsInBlock, NamesLoop}
use Rattle.tp_state.proofs.LiveCells.{elsewhere}
use Rattle.tp_state.proofs.LiveLoops.{blocks_apart, IsElse, which, with_two, first_set, second_set, others_set, kept_other, stays_other, was_other}
use Rattle.tp_state.specs.GoesOn.{turns_in}
use Rattle.tp_state.proofs.Passing.{true_false}

-- the same block, where its cells and words are kept
pub block_kept : (cells cells' : List Cell) (m m' : Memory) (l : ℕ) (row : LoopRow) → IsLive cells m l row
    → cell_at cells' row.control ≡ cell_at cells row.control → cell_at cells' (row.control + 1) ≡ cell_at cells (row.control + 1)
    → word_at m' (word_address row.control) ≡ word_at m (word_address row.control) → word_at m' (word_address (row.control + 1)) ≡ word_at m (word_address (row.control + 1))
    → IsLive cells' m' l row
block_kept cells cells' m m' l row b c0 c1 w0 w1 = record {
  index_cell = c0 ∙ b.index_cell;
  count_cell = c1 ∙ b.count_cell;
  index = b.index;
  left = b.left;
  index_is = w0 ∙ b.index_is;
  left_is = w1 ∙ b.left_is;
  sum = b.sum;
}

-- one number, one row
own_live : (rows : List LoopRow) (cells : List Cell) (m : Memory) (l k : ℕ) (row other : LoopRow) →
    slice_get rows l ≡ Some row → slice_get rows k ≡ Some other → k ≡ l → IsLive cells m l row → IsLive cells m k other
own_live rows cells m l k row other row_is its same b =
    let row_same : row ≡ other = same_Some _ _ (sym row_is ∙ ap (slice_get rows) (sym same) ∙ its) in
    subst (λ r. IsLive cells m k r) row_same (subst (λ n. IsLive cells m n row) (sym same) b)

-- the same loops
pub loops_alike : (rows : List LoopRow) (around around' : ℕ → Bool) (cells : List Cell) (m : Memory) → ((l : ℕ) → around' l ≡ around l) → LoopsFit rows around cells m → LoopsFit rows around' cells m
loops_alike rows around around' cells m same f = record {
  live = λ l row is row_is. f.live l row (sym (same l) ∙ is) row_is;
  only = λ i is. let found = f.only i is in (found.0, same found.0 ∙ found.1, found.2);
}

-- the cells of a live block name their loop
named : (cells : List Cell) (m : Memory) (l : ℕ) (row : LoopRow) → IsLive cells m l row → NamesLoop cells l row
named cells m l row b = record { index = b.index_cell; count = b.count_cell }

-- ---- a turn, and the end of the last: the words of one block change

module _ (rows : List LoopRow) (around : ℕ → Bool) (cells : List Cell) (m m' : Memory) (l : ℕ) (row : LoopRow)
    (row_is : slice_get rows l ≡ Some row) (own : around l ≡ true)
    (others : (i : ℕ) → IsElse i row.control → word_at m' (word_address i) ≡ word_at m (word_address i))
    (f : LoopsFit rows around cells m) where
  own_block : IsLive cells m l row
  own_block = f.live l row own row_is

  -- the words of another block are others
  other_block : (k : ℕ) (other : LoopRow) → IsLive cells m k other → (k ≡ l → ⊥) → IsElse other.control row.control × IsElse (other.control + 1) row.control
  other_block k other its differ =
      let apart = blocks_apart cells l k row other (named cells m l row own_block) (named cells m k other its) (λ e. differ (sym e)) in (
        record { first = λ e. apart.indices (sym e); second = λ e. apart.count_index (sym e) },
        record { first = λ e. apart.index_count (sym e); second = λ e. apart.indices (omega (arith, e)) },
      )

  -- and so it makes as many turns as before
  pub other_turns : (k : ℕ) (other : LoopRow) → around k ≡ true → slice_get rows k ≡ Some other → (k ≡ l → ⊥) → turns_in m' other ≡ turns_in m other
  other_turns k other is its differ =
      let off = other_block k other (f.live k other is its) differ in
      rw (others (other.control + 1) off.1) refl

  pub loops_turned : (index left : ℕ) → word_at m' (word_address row.control) ≡ Some index →
      word_at m' (word_address (row.control + 1)) ≡ Some left →
      (signed index +ℤ signed left) ≡ (row.start +ℤ pos row.count) → LoopsFit rows around cells m'
  loops_turned index left index_is left_is sum = record { live = λ k other is its. by_number k other is its (cases_eq k l); only = f.only }
    where
      by_number : (k : ℕ) (other : LoopRow) → around k ≡ true → slice_get rows k ≡ Some other → (k ≡ l) ⊎ (k ≡ l → ⊥) → IsLive cells m' k other
      by_number k other is its (inl same) =
          own_live rows cells m' l k row other row_is its same record {
            index_cell = own_block.index_cell;
            count_cell = own_block.count_cell;
            index = index;
            left = left;
            index_is = index_is;
            left_is = left_is;
            sum = sum;
          }
      by_number k other is its (inr differ) =
          let b = f.live k other is its in
          let off = other_block k other b differ in
          block_kept cells cells m m' k other b refl refl (others other.control off.0) (others (other.control + 1) off.1)

  module _ (room : row.control + 1 < length cells) where
    -- the loop is left: its cells are undefined
    pub loops_left : LoopsFit rows (without (Some l) around) (with_two cells row.control cell.Undef cell.Undef) m'
    loops_left = record {
      live = λ k other is its. its_live k other (kept_other around l k is) its;
      only = λ i is. which i row.control (λ e. true_false (sym (free_first i e) ∙ is)) (λ e. true_false (sym (free_second i e) ∙ is)) (λ n. its_only i n is);
    }
      where
        free_first : (i : ℕ) → i ≡ row.control → is_free (cell_at (with_two cells row.control cell.Undef cell.Undef) i) ≡ true
        free_first i e = ap (λ j. is_free (cell_at (with_two cells row.control cell.Undef cell.Undef) j)) e ∙ ap is_free (first_set cells row.control cell.Undef cell.Undef room)

        free_second : (i : ℕ) → i ≡ row.control + 1 → is_free (cell_at (with_two cells row.control cell.Undef cell.Undef) i) ≡ true
        free_second i e = ap (λ j. is_free (cell_at (with_two cells row.control cell.Undef cell.Undef) j)) e ∙ ap is_free (second_set cells row.control cell.Undef cell.Undef room)

        its_live : (k : ℕ) (other : LoopRow) → (around k ≡ true) × (k ≡ l → ⊥) → slice_get rows k ≡ Some other → IsLive (with_two cells row.control cell.Undef cell.Undef) m' k other
        its_live k other is its =
            let b = f.live k other is.0 its in
            let off = other_block k other b is.1 in
            let set = others_set cells row.control cell.Undef cell.Undef room in
            block_kept cells (with_two cells row.control cell.Undef cell.Undef) m m' k other b (set other.control off.0)
            (set (other.control + 1) off.1) (others other.control off.0) (others (other.control + 1) off.1)

        not_own : (i k : ℕ) → IsElse i row.control → IsInBlock rows i k → k ≡ l → ⊥
        not_own i k n block e =
            let same : block.row ≡ row = same_Some _ _ (sym block.is ∙ ap (slice_get rows) e ∙ row_is) in
            by_place (subst (λ r. (i ≡ r.control) ⊎ (i ≡ r.control + 1)) same block.place)
          where
            by_place : (i ≡ row.control) ⊎ (i ≡ row.control + 1) → ⊥
            by_place (inl here) = n.first here
            by_place (inr here) = n.second here

        its_only : (i : ℕ) → IsElse i row.control → is_free (cell_at (with_two cells row.control cell.Undef cell.Undef) i) ≡ false → (k : ℕ) × (without (Some l) around k ≡ true) × IsInBlock rows i k
        its_only i n is =
            let found = f.only i (ap is_free (sym (others_set cells row.control cell.Undef cell.Undef room i n)) ∙ is) in
            (found.0, stays_other around l found.0 found.1 (not_own i found.0 n found.2), found.2)

-- ---- a loop is entered: its block holds the first index and the declared count

module _ (rows : List LoopRow) (around : ℕ → Bool) (cells : List Cell) (m : Memory) (l : ℕ) (row : LoopRow)
    (row_is : slice_get rows l ≡ Some row) (room : row.control + 1 < length cells)
    (index_free : is_free (cell_at cells row.control) ≡ true)
    (count_free : is_free (cell_at cells (row.control + 1)) ≡ true) (f : LoopsFit rows around cells m) where
  pub loops_entered : (index left : ℕ) → word_at m (word_address row.control) ≡ Some index →
      word_at m (word_address (row.control + 1)) ≡ Some left →
      (signed index +ℤ signed left) ≡ (row.start +ℤ pos row.count) →
      LoopsFit rows (along_with (Some l) around) (with_two cells row.control (cell.Index l) (cell.Count l)) m
  loops_entered index left index_is left_is sum = record {
    live = λ k other is its. by_number k other is its (cases_eq k l);
    only = λ i is. which i row.control (λ e. (l, own, record { row = row; is = row_is; place = inl e }))
        (λ e. (l, own, record { row = row; is = row_is; place = inr e })) (λ n. its_only i n is);
  }
    where
      own : along_with (Some l) around l ≡ true
      own = or_right (around l) (l == l) ((Decides-eqb l l).1 refl)

      -- a word that is live is none of the block
      off : (i : ℕ) → is_free (cell_at cells i) ≡ false → IsElse i row.control
      off i live = record { first = elsewhere cells i row.control live index_free; second = elsewhere cells i (row.control + 1) live count_free }

      by_number : (k : ℕ) (other : LoopRow) → along_with (Some l) around k ≡ true → slice_get rows k ≡ Some other →
          (k ≡ l) ⊎ (k ≡ l → ⊥) → IsLive (with_two cells row.control (cell.Index l) (cell.Count l)) m k other
      by_number k other is its (inl same) =
          own_live rows (with_two cells row.control (cell.Index l) (cell.Count l)) m l k row other row_is its same record {
            index_cell = first_set cells row.control (cell.Index l) (cell.Count l) room;
            count_cell = second_set cells row.control (cell.Index l) (cell.Count l) room;
            index = index;
            left = left;
            index_is = index_is;
            left_is = left_is;
            sum = sum;
          }
      by_number k other is its (inr differ) =
          let b = f.live k other (was_other around l k is differ) its in
          let set = others_set cells row.control (cell.Index l) (cell.Count l) room in
          block_kept cells (with_two cells row.control (cell.Index l) (cell.Count l)) m m k other b
          (set other.control (off _ (ap is_free b.index_cell)))
          (set (other.control + 1) (off _ (ap is_free b.count_cell))) refl refl

      its_only : (i : ℕ) → IsElse i row.control → is_free (cell_at
          (with_two cells row.control (cell.Index l) (cell.Count l)) i) ≡ false → (k : ℕ) ×
          (along_with (Some l) around k ≡ true) × IsInBlock rows i k
      its_only i n is =
          let found = f.only i (ap is_free (sym (others_set cells row.control (cell.Index l) (cell.Count l) room i n)) ∙ is) in
          (found.0, or_left (around found.0) (found.0 == l) found.1, found.2)

-- ---- the words of a block take other cells or other values

pub words_block : (rows : List LoopRow) (workspace : ℕ) (cells cells' : List Cell) (m m' : Memory) (c : ℕ) → length cells' ≡ length cells
    → ((i : ℕ) → IsElse i c → cell_at cells' i ≡ cell_at cells i) → ((i : ℕ) → IsElse i c → word_at m' (word_address i) ≡ word_at m (word_address i))
    → CellFits rows (cell_at cells' c) (word_at m' (word_address c)) → CellFits rows (cell_at cells' (c + 1)) (word_at m' (word_address (c + 1)))
    → WordsFit rows workspace cells m → WordsFit rows workspace cells' m'
words_block rows workspace cells cells' m m' c long same_cells same_words first second f = record {
  sized = long ∙ f.sized;
  word = λ i lt. which i c
      (λ e. subst (λ j. CellFits rows (cell_at cells' j) (word_at m' (word_address j))) (sym e) first)
      (λ e. subst (λ j. CellFits rows (cell_at cells' j) (word_at m' (word_address j))) (sym e) second)
      (λ n. rw (same_cells i n, same_words i n) (f.word i lt));
}
