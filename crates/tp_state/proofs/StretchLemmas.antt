-- Words one after another that take something, and what is asked of them.
use Rattle.std.proofs.Common.{◌≡◌, ◌⊎◌, inl, inr, ℕ, ◌+◌, ◌-◌, ◌*◌, ◌<◌, ◌≤◌, Bool, true, false, List, length, map, replicate, Option, refl, sym, ap, ◌∙◌, subst, arith}
use Rattle.std.specs.List.{list_all}
use Rattle.std.proofs.lemmas.Bool.{cases_lt}
use Rattle.std.proofs.lemmas.List.{length-map, get_or-map, length-replicate, get_or-replicate}
use Rattle.std.proofs.lemmas.List.Folds.{list_all_at}
use Rattle.tp_image.specs.declared.image.LoopRow.{LoopRow}
use Rattle.tp_step.specs.Memory.{Memory, word_at, undefined}
use Rattle.tp_state.specs.declared.cell.Cell.{Cell}
use Rattle.tp_state.specs.declared.cell.Cell.TheVariants as cell
use Rattle.tp_state.specs.CellRules.{cell_at, cells_from, with_cells, is_free, are_free, blurred, copied}
use Rattle.tp_state.specs.Fits.{CellFits, WordsFit, word_address}
use Rattle.tp_state.proofs.CellLemmas.{length-with_cells, cell_at-with_cells_in, cell_at-with_cells_out, length-cells_from, cell_at-cells_from, cut_short}
use Rattle.tp_state.proofs.Passing.{true_false}
use Rattle.tp_state.proofs.LiveCells.{blurred_free, copied_free}
use Rattle.tp_state.proofs.WordsChange.{Change, IsKept, IsTaken, kept_word}

-- what holds of each of some cells
pub all_between : (p : Cell → Bool) (cells : List Cell) (x n i : ℕ) → list_all p (cells_from cells x n) ≡ true → x + n ≤ length cells → i < n → p (cell_at cells (x + i)) ≡ true
all_between p cells x n i all room lt =
    let short : i < length (cells_from cells x n) = omega (arith, length-cells_from cells x n room) in
    ap p (sym (cell_at-cells_from cells x n i lt)) ∙ by_case (p (cell_at (cells_from cells x n) i)) (list_all_at p (cells_from cells x n) i cell.Undef short)
  where
    by_case : (b : Bool) → (b ≡ false → list_all p (cells_from cells x n) ≡ false) → b ≡ true
    by_case true go = refl
    by_case false go = true_false (sym all ∙ go refl)

pub all_inside : (p : Cell → Bool) (cells : List Cell) (x n y : ℕ) → list_all p (cells_from cells x n) ≡ true → x + n ≤ length cells → x ≤ y → y < x + n → p (cell_at cells y) ≡ true
all_inside p cells x n y all room low high =
    let back : x + (y - x) ≡ y = omega arith in
    ap (λ j. p (cell_at cells j)) (sym back) ∙ all_between p cells x n (y - x) all room (omega arith)

-- some words without those that lie behind the last one
pub record Within (cells : List Cell) (x n : ℕ) : Type 0 where
  pub number : ℕ
  pub same : cells_from cells x n ≡ cells_from cells x number
  pub room : x + number ≤ length cells
  pub few : number ≤ n
  pub all : (i : ℕ) → i < n → x + i < length cells → i < number

pub cut_within : (cells : List Cell) (x n : ℕ) → x ≤ length cells → Within cells x n
cut_within cells x n low = by_end (cases_lt (length cells) (x + n))
  where
    by_end : (length cells < x + n) ⊎ (x + n ≤ length cells) → Within cells x n
    by_end (inl beyond) = record { number = length cells - x; same = sym (cut_short cells x n beyond); room = omega arith; few = omega arith; all = λ i lt inside. omega arith }
    by_end (inr room) = record { number = n; same = refl; room = room; few = omega arith; all = λ i lt inside. lt }

-- what holds of each of some words, those behind the last one left out
pub all_within : (p : Cell → Bool) (cells : List Cell) (x n y : ℕ) → list_all p (cells_from cells x n) ≡ true → x ≤ y → y < x + n → y < length cells → p (cell_at cells y) ≡ true
all_within p cells x n y all low high inside =
    let w = cut_within cells x n (omega arith) in
    let back : x + (y - x) ≡ y = omega arith in
    all_inside p cells x w.number y (ap (list_all p) (sym w.same) ∙ all) w.room low (omega (arith, w.all (y - x) (omega arith) (omega arith)))

-- what one of some words takes
pub record Takes (rows : List LoopRow) (cells these : List Cell) (m' : Memory) (x i : ℕ) : Type 0 where
  pub was : is_free (cell_at cells (x + i)) ≡ true
  pub free : is_free (cell_at these i) ≡ true
  pub fits : CellFits rows (cell_at these i) (word_at m' (word_address (x + i)))

pub stretch_taken : (rows : List LoopRow) (workspace : ℕ) (cells these : List Cell) (m m' : Memory) (x n : ℕ) → length these ≡ n → x + n ≤ length cells
    → ((i : ℕ) → i < n → Takes rows cells these m' x i)
    → ((i : ℕ) → (i < x) ⊎ (x + n ≤ i) → i < workspace → word_at m' (word_address i) ≡ word_at m (word_address i))
    → Change rows workspace cells (with_cells cells x these) m m'
stretch_taken rows workspace cells these m m' x n long room inside outside = record {
  sized = length-with_cells cells x these fits;
  word = λ i lt. at i lt (cases_lt i x) (cases_lt i (x + n));
}
  where
    fits : x + length these ≤ length cells
    fits = omega (arith, long, room)

    taken : (k i : ℕ) → x + k ≡ i → k < n → IsTaken rows cells (with_cells cells x these) m' i
    taken k i same lt =
        let it = inside k lt in
        let less : i - x ≡ k = omega arith in
        let here : cell_at (with_cells cells x these) i ≡ cell_at these k = cell_at-with_cells_in cells x these i fits (omega arith) (omega (arith, long)) ∙ ap (cell_at these) less in
        record {
          was = ap (λ j. is_free (cell_at cells j)) (sym same) ∙ it.was;
          free = ap is_free here ∙ it.free;
          fits = rw here (subst (λ j. CellFits rows (cell_at these k) (word_at m' (word_address j))) same it.fits);
        }

    kept : (i : ℕ) → i < workspace → (i < x) ⊎ (x + n ≤ i) → IsKept cells (with_cells cells x these) m m' i
    kept i lt (inl below) = record { cell = cell_at-with_cells_out cells x these i fits (inl below); word = outside i (inl below) lt }
    kept i lt (inr above) = record { cell = cell_at-with_cells_out cells x these i fits (inr (omega (arith, long))); word = outside i (inr above) lt }

    at : (i : ℕ) → i < workspace → (i < x) ⊎ (x ≤ i) → (i < x + n) ⊎ (x + n ≤ i) → IsKept cells (with_cells cells x these) m m' i ⊎ IsTaken rows cells (with_cells cells x these) m' i
    at i lt (inl below) _ = inl (kept i lt (inl below))
    at i lt (inr low) (inr above) = inl (kept i lt (inr above))
    at i lt (inr low) (inl high) = inr (taken (i - x) i (omega arith) (omega arith))

-- ---- words made undefined

pub undefined_taken : (rows : List LoopRow) (workspace : ℕ) (cells : List Cell) (m : Memory) (x n : ℕ) → x + n ≤ length cells → are_free (cells_from cells x n) ≡ true
    → Change rows workspace cells (with_cells cells x (replicate n cell.Undef)) m (undefined m (word_address x) (4 * n))
undefined_taken rows workspace cells m x n room free =
    stretch_taken rows workspace cells (replicate n cell.Undef) m (undefined m (word_address x) (4 * n)) x n (length-replicate n cell.Undef) room
    (λ i lt.
    let here : cell_at (replicate n cell.Undef) i ≡ cell.Undef = get_or-replicate n i cell.Undef cell.Undef lt in
    record { was = all_between is_free cells x n i free room lt; free = ap is_free here; fits = rw here tt })
    (λ i out lt. kept_word m x n i out)

-- ---- words of which one takes something, or a part of something

-- the word is defined still, if it was
blurred_fits : (rows : List LoopRow) (c : Cell) (r r' : Option ℕ) → is_free c ≡ true → CellFits rows c r → (CellFits rows cell.Any r → CellFits rows cell.Any r') → CellFits rows (blurred c) r'
blurred_fits rows cell.Undef r r' e h go = tt
blurred_fits rows cell.Any r r' e h go = go h
blurred_fits rows (cell.Known n) r r' e (v, is, range) go = go (v, is, range.word)
blurred_fits rows (cell.Index l) r r' e h go = cc
blurred_fits rows (cell.Count l) r r' e h go = cc

pub blurred_taken : (rows : List LoopRow) (workspace : ℕ) (cells : List Cell) (m m' : Memory) (x n : ℕ) →
    WordsFit rows workspace cells m → x + n ≤ length cells → are_free (cells_from cells x n) ≡ true
    → ((i : ℕ) → i < n → CellFits rows cell.Any (word_at m (word_address (x + i))) → CellFits rows cell.Any (word_at m' (word_address (x + i))))
    → ((i : ℕ) → (i < x) ⊎ (x + n ≤ i) → i < workspace → word_at m' (word_address i) ≡ word_at m (word_address i))
    → Change rows workspace cells (with_cells cells x (map blurred (cells_from cells x n))) m m'
blurred_taken rows workspace cells m m' x n f room free inside outside =
    stretch_taken rows workspace cells (map blurred (cells_from cells x n)) m m' x n (length-map (cells_from cells x n) blurred ∙ length-cells_from cells x n room) room
    (λ i lt.
    let short : i < length (cells_from cells x n) = omega (arith, length-cells_from cells x n room) in
    let here : cell_at (map blurred (cells_from cells x n)) i ≡ blurred (cell_at cells (x + i)) =
    get_or-map blurred (cells_from cells x n) i cell.Undef cell.Undef short ∙
    ap blurred (cell_at-cells_from cells x n i lt) in
    let was = all_between is_free cells x n i free room lt in
    record {
      was = was;
      free = ap is_free here ∙ blurred_free _ was;
      fits = rw here (blurred_fits rows (cell_at cells (x + i)) _ _ was (f.word (x + i) (omega (arith, f.sized))) (inside i lt));
    })
    outside

-- ---- words that take copies

copied_fits : (rows : List LoopRow) (c : Cell) (r : Option ℕ) → CellFits rows c r → CellFits rows (copied c) r
copied_fits rows cell.Undef r h = h
copied_fits rows cell.Any r h = h
copied_fits rows (cell.Known n) r h = h
copied_fits rows (cell.Index l) r (row, row_is, v, is, range) = (v, is, range.word)
copied_fits rows (cell.Count l) r (row, row_is, v, is, range) = (v, is, range.word)

pub copies_taken : (rows : List LoopRow) (workspace : ℕ) (cells : List Cell) (m m' : Memory) (x y n : ℕ) →
    WordsFit rows workspace cells m → x + n ≤ length cells → y + n ≤ length cells → are_free (cells_from cells x n) ≡ true
    → ((i : ℕ) → i < n → word_at m' (word_address (x + i)) ≡ word_at m (word_address (y + i)))
    → ((i : ℕ) → (i < x) ⊎ (x + n ≤ i) → i < workspace → word_at m' (word_address i) ≡ word_at m (word_address i))
    → Change rows workspace cells (with_cells cells x (map copied (cells_from cells y n))) m m'
copies_taken rows workspace cells m m' x y n f room from free inside outside =
    stretch_taken rows workspace cells (map copied (cells_from cells y n)) m m' x n (length-map (cells_from cells y n) copied ∙ length-cells_from cells y n from) room
    (λ i lt.
    let short : i < length (cells_from cells y n) = omega (arith, length-cells_from cells y n from) in
    let here : cell_at (map copied (cells_from cells y n)) i ≡ copied (cell_at cells (y + i)) =
    get_or-map copied (cells_from cells y n) i cell.Undef cell.Undef short ∙
    ap copied (cell_at-cells_from cells y n i lt) in
    record {
      was = all_between is_free cells x n i free room lt;
      free = ap is_free here ∙ copied_free (cell_at cells (y + i));
      fits = rw (here, inside i lt) (copied_fits rows (cell_at cells (y + i)) _ (f.word (y + i) (omega (arith, f.sized))));
    })
    outside

-- ---- words that take something

pub any_taken : (rows : List LoopRow) (workspace : ℕ) (cells : List Cell) (m m' : Memory) (x n : ℕ) → x + n ≤ length cells → are_free (cells_from cells x n) ≡ true
    → ((i : ℕ) → i < n → CellFits rows cell.Any (word_at m' (word_address (x + i))))
    → ((i : ℕ) → (i < x) ⊎ (x + n ≤ i) → i < workspace → word_at m' (word_address i) ≡ word_at m (word_address i))
    → Change rows workspace cells (with_cells cells x (replicate n cell.Any)) m m'
any_taken rows workspace cells m m' x n room free inside outside =
    stretch_taken rows workspace cells (replicate n cell.Any) m m' x n (length-replicate n cell.Any) room
    (λ i lt.
    let here : cell_at (replicate n cell.Any) i ≡ cell.Any = get_or-replicate n i cell.Any cell.Undef lt in
    record { was = all_between is_free cells x n i free room lt; free = ap is_free here; fits = rw here (inside i lt) })
    outside
