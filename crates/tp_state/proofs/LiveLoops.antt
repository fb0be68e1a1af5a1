-- The live control words follow the loops: where nothing is left or entered, where a loop is left, where one is entered.
use Rattle.std.proofs.Common.{◌≡◌, ℕ, ◌+◌, ◌<◌, ◌≤◌, ◌⊎◌, inl, inr, Bool, true, false, IsTrue, if◌then◌else◌, not, ◌==◌}
use Rattle.std.proofs.Common.{List, length, length-set, slice_set, slice_get, get_or-set_same, get_or-set_other, Some}
use Rattle.std.proofs.Common.{refl, sym, ap, ◌∙◌, subst, arith}
use Rattle.std.proofs.lemmas.Bool.{cases_lt, cases_eq, and_parts, and_from, or_cases, or_left, or_right, not_from_true, not_from_false, false_from_ne_true}
use Rattle.std.proofs.lemmas.Bool.Decides.{Decides-eqb}
use Rattle.std.proofs.lemmas.Option.{same_Some}
use Rattle.std.proofs.lemmas.List.{get_or_past}
use Rattle.tp_image.specs.declared.image.LoopRow.{LoopRow}
use Rattle.tp_flow.specs.LoopsAround.{without, along_with}
use Rattle.tp_state.specs.declared.cell.Cell.{Cell}
use Rattle.tp_state.specs.declared.cell.Cell.TheVariants as cell
use Rattle.tp_state.specs.CellRules.{cell_at, is_free}
use Rattle.tp_state.specs.Order.{cells_agree, join_cells, joined_cells}
use Rattle.tp_state.specs.Live.{IsInBlock, NamesLoop, LiveWordsAre}
use Rattle.tp_state.proofs.JoinLemmas.{cell_at-joined}
use Rattle.tp_state.proofs.StateOrder.{join_live}
use Rattle.tp_state.proofs.Passing.{true_false}
use Rattle.tp_state.proofs.LiveCells.{free_or_live, elsewhere, KeepsLive}

-- ---- a block among others

same_index : (l k : ℕ) → cell.Index l ≡ cell.Index k → l ≡ k
same_index l k e = cc

index_no_count : (l k : ℕ) → cell.Index l ≡ cell.Count k → ⊥
index_no_count l k e = cc

-- the blocks of two live loops have no word in common
pub record AreApart (row other : LoopRow) : Type 0 where
  pub indices : row.control ≡ other.control → ⊥
  pub count_index : row.control + 1 ≡ other.control → ⊥
  pub index_count : row.control ≡ other.control + 1 → ⊥

pub blocks_apart : (cells : List Cell) (l k : ℕ) (row other : LoopRow) → NamesLoop cells l row → NamesLoop cells k other → (l ≡ k → ⊥) → AreApart row other
blocks_apart cells l k row other a b differ = record {
  indices = λ e. differ (same_index l k (sym a.index ∙ ap (cell_at cells) e ∙ b.index));
  count_index = λ e. index_no_count k l (sym b.index ∙ ap (cell_at cells) (sym e) ∙ a.count);
  index_count = λ e. index_no_count l k (sym a.index ∙ ap (cell_at cells) e ∙ b.count);
}

-- one number, one row
own_named : (rows : List LoopRow) (cells : List Cell) (l k : ℕ) (row other : LoopRow) → slice_get rows l ≡ Some row →
    slice_get rows k ≡ Some other → k ≡ l → NamesLoop cells l row → NamesLoop cells k other
own_named rows cells l k row other row_is its same b =
    let row_same : row ≡ other = same_Some _ _ (sym row_is ∙ ap (slice_get rows) (sym same) ∙ its) in
    subst (λ r. NamesLoop cells k r) row_same (subst (λ n. NamesLoop cells n row) (sym same) b)

pub live_kept : (rows : List LoopRow) (around : ℕ → Bool) (cells cells' : List Cell) → KeepsLive cells cells' → LiveWordsAre rows around cells → LiveWordsAre rows around cells'
live_kept rows around cells cells' k f = record { live = live; only = λ i is. by_cell i is (free_or_live (cell_at cells i)) }
  where
    live : (l : ℕ) (row : LoopRow) → around l ≡ true → slice_get rows l ≡ Some row → NamesLoop cells' l row
    live l row is row_is =
        let b = f.live l row is row_is in
        record { index = k.cell row.control (ap is_free b.index) ∙ b.index; count = k.cell (row.control + 1) (ap is_free b.count) ∙ b.count }

    by_cell : (i : ℕ) → is_free (cell_at cells' i) ≡ false → (is_free (cell_at cells i) ≡ true) ⊎ (is_free (cell_at cells i) ≡ false) → (l : ℕ) × (around l ≡ true) × IsInBlock rows i l
    by_cell i is (inl free) = true_false (sym (k.free i free) ∙ is)
    by_cell i is (inr was) = f.only i was

-- the same loops
pub live_alike : (rows : List LoopRow) (around around' : ℕ → Bool) (cells : List Cell) → ((l : ℕ) → around' l ≡ around l) → LiveWordsAre rows around cells → LiveWordsAre rows around' cells
live_alike rows around around' cells same f = record {
  live = λ l row is row_is. f.live l row (sym (same l) ∙ is) row_is;
  only = λ i is. let found = f.only i is in (found.0, same found.0 ∙ found.1, found.2);
}

-- ---- the two words of a block

pub record IsElse (i c : ℕ) : Type 0 where
  pub first : i ≡ c → ⊥
  pub second : i ≡ c + 1 → ⊥

pub which : {P : Type 0} (i c : ℕ) → (i ≡ c → P) → (i ≡ c + 1 → P) → (IsElse i c → P) → P
which {P = P} i c first second other = by_first (cases_eq i c) (cases_eq i (c + 1))
  where
    by_first : (i ≡ c) ⊎ (i ≡ c → ⊥) → (i ≡ c + 1) ⊎ (i ≡ c + 1 → ⊥) → P
    by_first (inl e) _ = first e
    by_first (inr n) (inl e) = second e
    by_first (inr n) (inr n') = other record { first = n; second = n' }

-- the cells of a block replaced
abbrev pub with_two : List Cell → ℕ → Cell → Cell → List Cell
with_two cells c first second = slice_set (slice_set cells c first) (c + 1) second

module _ (cells : List Cell) (c : ℕ) (a b : Cell) (room : c + 1 < length cells) where
  pub first_set : cell_at (with_two cells c a b) c ≡ a
  first_set = get_or-set_other (slice_set cells c a) (c + 1) c b cell.Undef (omega arith) ∙ get_or-set_same cells c a cell.Undef (omega arith)

  pub second_set : cell_at (with_two cells c a b) (c + 1) ≡ b
  second_set = get_or-set_same (slice_set cells c a) (c + 1) b cell.Undef (omega (arith, length-set cells c a))

  pub others_set : (i : ℕ) → IsElse i c → cell_at (with_two cells c a b) i ≡ cell_at cells i
  others_set i n = get_or-set_other (slice_set cells c a) (c + 1) i b cell.Undef n.second ∙ get_or-set_other cells c i a cell.Undef n.first

-- a word of which something is known is one of the workspace
pub is_inside : (cells : List Cell) (x : ℕ) → (cell_at cells x ≡ cell.Undef → ⊥) → x < length cells
is_inside cells x known = by_place (cases_lt x (length cells))
  where
    by_place : (x < length cells) ⊎ (length cells ≤ x) → x < length cells
    by_place (inl room) = room
    by_place (inr past) = absurd (known (get_or_past cells x cell.Undef past))

pub live_room : (cells : List Cell) (x : ℕ) → is_free (cell_at cells x) ≡ false → x < length cells
live_room cells x live = is_inside cells x λ e. true_false (sym (ap is_free e) ∙ live)

-- ---- membership

pub kept_other : (around : ℕ → Bool) (l k : ℕ) → without (Some l) around k ≡ true → (around k ≡ true) × (k ≡ l → ⊥)
kept_other around l k is =
    let parts = and_parts (around k) (not (k == l)) is in
    (parts.0, λ e. true_false (sym parts.1 ∙ not_from_true (k == l) ((Decides-eqb k l).1 e)))

pub stays_other : (around : ℕ → Bool) (l k : ℕ) → around k ≡ true → (k ≡ l → ⊥) → without (Some l) around k ≡ true
stays_other around l k is differ =
    and_from (around k) (not (k == l)) is (not_from_false (k == l) (false_from_ne_true (k == l) (λ e. differ ((Decides-eqb k l).0 e))))

pub was_other : (around : ℕ → Bool) (l k : ℕ) → along_with (Some l) around k ≡ true → (k ≡ l → ⊥) → around k ≡ true
was_other around l k is differ = by_case (or_cases (around k) (k == l) is)
  where
    by_case : (around k ≡ true) ⊎ ((k == l) ≡ true) → around k ≡ true
    by_case (inl was) = was
    by_case (inr e) = absurd (differ ((Decides-eqb k l).0 e))

-- ---- a loop is left: its words are undefined

module _ (rows : List LoopRow) (around : ℕ → Bool) (cells : List Cell) (l : ℕ) (row : LoopRow) (row_is : slice_get rows l ≡ Some row) (own : around l ≡ true) (f : LiveWordsAre rows around cells) where
  room : row.control + 1 < length cells
  room = live_room cells (row.control + 1) (ap is_free (f.live l row own row_is).count)

  -- the words of another block are others
  other_block : (k : ℕ) (other : LoopRow) → NamesLoop cells k other → (k ≡ l → ⊥) → IsElse other.control row.control × IsElse (other.control + 1) row.control
  other_block k other its differ =
      let apart = blocks_apart cells l k row other (f.live l row own row_is) its (λ e. differ (sym e)) in (
        record { first = λ e. apart.indices (sym e); second = λ e. apart.count_index (sym e) },
        record { first = λ e. apart.index_count (sym e); second = λ e. apart.indices (omega (arith, e)) },
      )

  pub live_left : LiveWordsAre rows (without (Some l) around) (with_two cells row.control cell.Undef cell.Undef)
  live_left = record {
    live = λ k other is its. its_live k other (kept_other around l k is) its;
    only = λ i is. which i row.control (λ e. true_false (sym (free_first i e) ∙ is)) (λ e. true_false (sym (free_second i e) ∙ is)) (λ n. its_only i n is);
  }
    where
      set : (i : ℕ) → IsElse i row.control → cell_at (with_two cells row.control cell.Undef cell.Undef) i ≡ cell_at cells i
      set = others_set cells row.control cell.Undef cell.Undef room

      free_first : (i : ℕ) → i ≡ row.control → is_free (cell_at (with_two cells row.control cell.Undef cell.Undef) i) ≡ true
      free_first i e = ap (λ j. is_free (cell_at (with_two cells row.control cell.Undef cell.Undef) j)) e ∙ ap is_free (first_set cells row.control cell.Undef cell.Undef room)

      free_second : (i : ℕ) → i ≡ row.control + 1 → is_free (cell_at (with_two cells row.control cell.Undef cell.Undef) i) ≡ true
      free_second i e = ap (λ j. is_free (cell_at (with_two cells row.control cell.Undef cell.Undef) j)) e ∙ ap is_free (second_set cells row.control cell.Undef cell.Undef room)

      its_live : (k : ℕ) (other : LoopRow) → (around k ≡ true) × (k ≡ l → ⊥) → slice_get rows k ≡ Some other → NamesLoop (with_two cells row.control cell.Undef cell.Undef) k other
      its_live k other is its =
          let b = f.live k other is.0 its in
          let off = other_block k other b is.1 in
          record { index = set other.control off.0 ∙ b.index; count = set (other.control + 1) off.1 ∙ b.count }

      not_own : (i k : ℕ) → IsElse i row.control → IsInBlock rows i k → k ≡ l → ⊥
      not_own i k n block e =
          let same : block.row ≡ row = same_Some _ _ (sym block.is ∙ ap (slice_get rows) e ∙ row_is) in
          by_place (subst (λ r. (i ≡ r.control) ⊎ (i ≡ r.control + 1)) same block.place)
        where
          by_place : (i ≡ row.control) ⊎ (i ≡ row.control + 1) → ⊥
          by_place (inl here) = n.first here
          by_place (inr here) = n.second here

      its_only : (i : ℕ) → IsElse i row.control → is_free (cell_at (with_two cells row.control cell.Undef cell.Undef) i) ≡ false → (k : ℕ) × (without (Some l) around k ≡ true) × IsInBlock rows i k
      its_only i n is =
          let found = f.only i (ap is_free (sym (set i n)) ∙ is) in
          (found.0, stays_other around l found.0 found.1 (not_own i found.0 n found.2), found.2)

-- ---- a loop is entered, whose words were free

module _ (rows : List LoopRow) (around : ℕ → Bool) (cells : List Cell) (l : ℕ) (row : LoopRow)
    (row_is : slice_get rows l ≡ Some row) (room : row.control + 1 < length cells)
    (index_free : is_free (cell_at cells row.control) ≡ true)
    (count_free : is_free (cell_at cells (row.control + 1)) ≡ true) (f : LiveWordsAre rows around cells) where
  pub live_entered : LiveWordsAre rows (along_with (Some l) around) (with_two cells row.control (cell.Index l) (cell.Count l))
  live_entered = record {
    live = λ k other is its. by_number k other is its (cases_eq k l);
    only = λ i is. which i row.control (λ e. (l, own, record { row = row; is = row_is; place = inl e }))
        (λ e. (l, own, record { row = row; is = row_is; place = inr e })) (λ n. its_only i n is);
  }
    where
      own : along_with (Some l) around l ≡ true
      own = or_right (around l) (l == l) ((Decides-eqb l l).1 refl)

      set : (i : ℕ) → IsElse i row.control → cell_at (with_two cells row.control (cell.Index l) (cell.Count l)) i ≡ cell_at cells i
      set = others_set cells row.control (cell.Index l) (cell.Count l) room

      -- a word that is live is none of the block
      off : (i : ℕ) → is_free (cell_at cells i) ≡ false → IsElse i row.control
      off i live = record { first = elsewhere cells i row.control live index_free; second = elsewhere cells i (row.control + 1) live count_free }

      by_number : (k : ℕ) (other : LoopRow) → along_with (Some l) around k ≡ true → slice_get rows k ≡ Some other →
          (k ≡ l) ⊎ (k ≡ l → ⊥) → NamesLoop (with_two cells row.control (cell.Index l) (cell.Count l)) k other
      by_number k other is its (inl same) =
          own_named rows (with_two cells row.control (cell.Index l) (cell.Count l)) l k row other row_is its same record {
            index = first_set cells row.control (cell.Index l) (cell.Count l) room;
            count = second_set cells row.control (cell.Index l) (cell.Count l) room;
          }
      by_number k other is its (inr differ) =
          let b = f.live k other (was_other around l k is differ) its in
          record { index = set other.control (off _ (ap is_free b.index)) ∙ b.index; count = set (other.control + 1) (off _ (ap is_free b.count)) ∙ b.count }

      its_only : (i : ℕ) → IsElse i row.control → is_free (cell_at
          (with_two cells row.control (cell.Index l) (cell.Count l)) i) ≡ false → (k : ℕ) ×
          (along_with (Some l) around k ≡ true) × IsInBlock rows i k
      its_only i n is =
          let found = f.only i (ap is_free (sym (set i n)) ∙ is) in
          (found.0, or_left (around found.0) (found.0 == l) found.1, found.2)

-- ---- the same loops, twice

same_is : (l : ℕ) → (l == l) ≡ true
same_is l = (Decides-eqb l l).1 refl

agree_index : (c d : Cell) (l : ℕ) → c ≡ cell.Index l → d ≡ cell.Index l → IsTrue (cells_agree c d)
agree_index c d l e f = rw (e, f) (same_is l)

agree_count : (c d : Cell) (l : ℕ) → c ≡ cell.Count l → d ≡ cell.Count l → IsTrue (cells_agree c d)
agree_count c d l e f = rw (e, f) (same_is l)

agree_free : (c d : Cell) → is_free c ≡ true → is_free d ≡ true → IsTrue (cells_agree c d)
agree_free cell.Undef d e f = f
agree_free cell.Any d e f = f
agree_free (cell.Known n) d e f = f
agree_free (cell.Index l) d e f = cc
agree_free (cell.Count l) d e f = cc

-- what is live in a join was live
live_from : (c d : Cell) → is_free (join_cells c d) ≡ false → is_free c ≡ false
live_from c d e = by_law (join_live c d)
  where
    by_law : IsTrue (is_free (join_cells c d)) ⊎ ((c ≡ join_cells c d) × (d ≡ join_cells c d)) → is_free c ≡ false
    by_law (inl free) = true_false (sym free ∙ e)
    by_law (inr both) = ap is_free both.0 ∙ e

module _ (rows : List LoopRow) (around : ℕ → Bool) (cells others : List Cell) (f : LiveWordsAre rows around cells) (g : LiveWordsAre rows around others) where
  in_block : (x : ℕ) → (l : ℕ) × (around l ≡ true) × IsInBlock rows x l → IsTrue (cells_agree (cell_at cells x) (cell_at others x))
  in_block x (l, is, block) =
      let b = f.live l block.row is block.is in
      let d = g.live l block.row is block.is in
      by_place b d block.place
    where
      by_place : NamesLoop cells l block.row → NamesLoop others l block.row → (x ≡ block.row.control) ⊎ (x ≡ block.row.control + 1) → IsTrue (cells_agree (cell_at cells x) (cell_at others x))
      by_place b d (inl e) = agree_index _ _ l (ap (cell_at cells) e ∙ b.index) (ap (cell_at others) e ∙ d.index)
      by_place b d (inr e) = agree_count _ _ l (ap (cell_at cells) e ∙ b.count) (ap (cell_at others) e ∙ d.count)

  pub same_agree : (x : ℕ) → IsTrue (cells_agree (cell_at cells x) (cell_at others x))
  same_agree x = by_cells (free_or_live (cell_at cells x)) (free_or_live (cell_at others x))
    where
      by_cells : (is_free (cell_at cells x) ≡ true) ⊎ (is_free (cell_at cells x) ≡ false) →
          (is_free (cell_at others x) ≡ true) ⊎ (is_free (cell_at others x) ≡ false) →
          IsTrue (cells_agree (cell_at cells x) (cell_at others x))
      by_cells (inr live) _ = in_block x (f.only x live)
      by_cells (inl free) (inr live) = in_block x (g.only x live)
      by_cells (inl e) (inl h) = agree_free _ _ e h

  pub live_joined : length others ≡ length cells → LiveWordsAre rows around (joined_cells cells others)
  live_joined long = record { live = live; only = λ x is. f.only x (was_live x is) }
    where
      index : (c d : Cell) (l : ℕ) → c ≡ cell.Index l → d ≡ cell.Index l → join_cells c d ≡ cell.Index l
      index c d l e h = rw (e, h) (ap (λ b. if b then cell.Index l else cell.Undef) (same_is l))

      count : (c d : Cell) (l : ℕ) → c ≡ cell.Count l → d ≡ cell.Count l → join_cells c d ≡ cell.Count l
      count c d l e h = rw (e, h) (ap (λ b. if b then cell.Count l else cell.Undef) (same_is l))

      live : (l : ℕ) (row : LoopRow) → around l ≡ true → slice_get rows l ≡ Some row → NamesLoop (joined_cells cells others) l row
      live l row is row_is =
          let b = f.live l row is row_is in
          let d = g.live l row is row_is in
          record {
            index = cell_at-joined cells others row.control long ∙ index _ _ l b.index d.index;
            count = cell_at-joined cells others (row.control + 1) long ∙ count _ _ l b.count d.count;
          }

      was_live : (x : ℕ) → is_free (cell_at (joined_cells cells others) x) ≡ false → is_free (cell_at cells x) ≡ false
      was_live x is =
          let here : is_free (join_cells (cell_at cells x) (cell_at others x)) ≡ false = sym (ap is_free (cell_at-joined cells others x long)) ∙ is in
          live_from (cell_at cells x) (cell_at others x) here
