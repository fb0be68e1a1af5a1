-- Cells that are replaced, and the live control words among them.
use Rattle.std.proofs.Common.{◌≡◌, ℕ, ◌+◌, ◌-◌, ◌<◌, ◌≤◌, ◌⊎◌, inl, inr, true, false, List, map, replicate, length, min}
use Rattle.std.proofs.Common.{slice_set, length-set, get_or-set_same, get_or-set_other, refl, sym, ap, ◌∙◌, subst}
use Rattle.std.proofs.Common.{arith}
use Rattle.std.proofs.lemmas.Bool.{cases_lt, cases_eq}
use Rattle.std.proofs.lemmas.List.{get_or-map, length-map, length-replicate, get_or-replicate, get_or_past}
use Rattle.std.proofs.lemmas.List.Folds.{list_all_at}
use Rattle.tp_state.specs.declared.cell.Cell.{Cell}
use Rattle.tp_state.specs.declared.cell.Cell.TheVariants as cell
use Rattle.tp_state.specs.CellRules.{cell_at, cells_from, with_cells, is_free, are_free, blurred, copied}
use Rattle.tp_state.proofs.CellLemmas.{cell_at-with_cells_in, cell_at-with_cells_out, length-cells_from, cell_at-cells_from, blurred_part}
use Rattle.tp_state.proofs.Passing.{true_false}

pub free_or_live : (c : Cell) → (is_free c ≡ true) ⊎ (is_free c ≡ false)
free_or_live cell.Undef = inl refl
free_or_live cell.Any = inl refl
free_or_live (cell.Known n) = inl refl
free_or_live (cell.Index l) = inr refl
free_or_live (cell.Count l) = inr refl

-- a live word is none that is free
pub elsewhere : (cells : List Cell) (i x : ℕ) → is_free (cell_at cells i) ≡ false → is_free (cell_at cells x) ≡ true → i ≡ x → ⊥
elsewhere cells i x live free e = true_false (sym free ∙ ap (λ j. is_free (cell_at cells j)) (sym e) ∙ live)

-- live words keep their cell, and free words stay free
pub record KeepsLive (old new : List Cell) : Type 0 where
  pub cell : (i : ℕ) → is_free (cell_at old i) ≡ false → cell_at new i ≡ cell_at old i
  pub free : (i : ℕ) → is_free (cell_at old i) ≡ true → is_free (cell_at new i) ≡ true

pub keeps_all : (cells : List Cell) → KeepsLive cells cells
keeps_all cells = record { cell = λ i live. refl; free = λ i free. free }

pub keeps_both : (old mid new : List Cell) → KeepsLive old mid → KeepsLive mid new → KeepsLive old new
keeps_both old mid new k h = record {
  cell = λ i live. h.cell i (ap is_free (k.cell i live) ∙ live) ∙ k.cell i live;
  free = λ i free. h.free i (k.free i free);
}

-- a free word takes a free cell
pub set_keeps : (cells : List Cell) (x : ℕ) (c : Cell) → is_free (cell_at cells x) ≡ true → is_free c ≡ true → KeepsLive cells (slice_set cells x c)
set_keeps cells x c was_free free = record {
  cell = λ i live. get_or-set_other cells x i c cell.Undef (elsewhere cells i x live was_free);
  free = λ i is. at i is (cases_eq i x) (cases_lt x (length cells));
}
  where
    at : (i : ℕ) → is_free (cell_at cells i) ≡ true → (i ≡ x) ⊎ (i ≡ x → ⊥) → (x < length cells) ⊎ (length cells ≤ x) → is_free (cell_at (slice_set cells x c) i) ≡ true
    at i is (inl same) (inl room) = rw (same, get_or-set_same cells x c cell.Undef room) free
    at i is (inl same) (inr past) =
        let beyond : length (slice_set cells x c) ≤ i = omega (arith, length-set cells x c, same, past) in
        ap is_free (get_or_past (slice_set cells x c) i cell.Undef beyond)
    at i is (inr other) _ = rw (get_or-set_other cells x i c cell.Undef other) is

-- a live word is none of those that are all free
pub live_out : (cells : List Cell) (x n i : ℕ) → x + n ≤ length cells → are_free (cells_from cells x n) ≡ true → is_free (cell_at cells i) ≡ false → (i < x) ⊎ (x + n ≤ i)
live_out cells x n i room free live = by_place (cases_lt i x) (cases_lt i (x + n))
  where
    by_place : (i < x) ⊎ (x ≤ i) → (i < x + n) ⊎ (x + n ≤ i) → (i < x) ⊎ (x + n ≤ i)
    by_place (inl below) _ = inl below
    by_place (inr low) (inr above) = inr above
    by_place (inr low) (inl high) =
        let back : x + (i - x) ≡ i = omega (arith, low) in
        let lt : i - x < n = omega (arith, low, high) in
        let short : i - x < length (cells_from cells x n) = omega (arith, length-cells_from cells x n room, lt) in
        let here : is_free (cell_at (cells_from cells x n) (i - x)) ≡ false = ap is_free (cell_at-cells_from cells x n (i - x) lt) ∙ ap (λ j. is_free (cell_at cells j)) back ∙ live in
        true_false (sym free ∙ list_all_at is_free (cells_from cells x n) (i - x) cell.Undef short here)

-- free words take free cells
pub cells_keep : (cells : List Cell) (x n : ℕ) (these : List Cell) → length these ≡ n → x + n ≤ length cells →
    are_free (cells_from cells x n) ≡ true → ((i : ℕ) → i < n → is_free (cell_at these i) ≡ true) →
    KeepsLive cells (with_cells cells x these)
cells_keep cells x n these long room was free = record {
  cell = λ i live. cell_at-with_cells_out cells x these i fits (out (live_out cells x n i room was live));
  free = λ i is. at i is (cases_lt i x) (cases_lt i (x + n));
}
  where
    fits : x + length these ≤ length cells
    fits = omega (arith, long, room)

    out : {i : ℕ} → (i < x) ⊎ (x + n ≤ i) → (i < x) ⊎ (x + length these ≤ i)
    out (inl below) = inl below
    out (inr above) = inr (omega (arith, long, above))

    at : (i : ℕ) → is_free (cell_at cells i) ≡ true → (i < x) ⊎ (x ≤ i) → (i < x + n) ⊎ (x + n ≤ i) → is_free (cell_at (with_cells cells x these) i) ≡ true
    at i is (inl below) _ = rw (cell_at-with_cells_out cells x these i fits (inl below)) is
    at i is (inr low) (inr above) = rw (cell_at-with_cells_out cells x these i fits (out (inr above))) is
    at i is (inr low) (inl high) =
        rw (cell_at-with_cells_in cells x these i fits low (omega (arith, long, high))) (free (i - x) (omega (arith, low, high)))

-- the same cell, many times
pub replicate_keeps : (cells : List Cell) (x n : ℕ) (c : Cell) → is_free c ≡ true → x + n ≤ length cells → are_free (cells_from cells x n) ≡ true → KeepsLive cells (with_cells cells x (replicate n c))
replicate_keeps cells x n c free room was =
    cells_keep cells x n (replicate n c) (length-replicate n c) room was (λ i lt. ap is_free (get_or-replicate n i c cell.Undef lt) ∙ free)

pub copied_free : (c : Cell) → is_free (copied c) ≡ true
copied_free cell.Undef = refl
copied_free cell.Any = refl
copied_free (cell.Known n) = refl
copied_free (cell.Index l) = refl
copied_free (cell.Count l) = refl

-- copies of others
pub copies_keep : (cells : List Cell) (x y n : ℕ) → x + n ≤ length cells → y + n ≤ length cells →
    are_free (cells_from cells x n) ≡ true → KeepsLive cells (with_cells cells x (map copied (cells_from cells y n)))
copies_keep cells x y n room from was =
    let long : length (map copied (cells_from cells y n)) ≡ n = length-map (cells_from cells y n) copied ∙ length-cells_from cells y n from in
    cells_keep cells x n (map copied (cells_from cells y n)) long room was λ i lt.
    ap is_free (get_or-map copied (cells_from cells y n) i cell.Undef cell.Undef (omega (arith, length-cells_from cells y n from, lt))) ∙ copied_free (cell_at (cells_from cells y n) i)

-- ---- words that may have taken something

blurred_live : (c : Cell) → is_free c ≡ false → blurred c ≡ c
blurred_live cell.Undef e = refl
blurred_live cell.Any e = refl
blurred_live (cell.Known n) e = absurd (true_false e)
blurred_live (cell.Index l) e = refl
blurred_live (cell.Count l) e = refl

pub blurred_free : (c : Cell) → is_free c ≡ true → is_free (blurred c) ≡ true
blurred_free cell.Undef e = refl
blurred_free cell.Any e = refl
blurred_free (cell.Known n) e = refl
blurred_free (cell.Index l) e = e
blurred_free (cell.Count l) e = e

module _ (cells : List Cell) (x n : ℕ) (room : x + n ≤ length cells) where
  these : List Cell
  these = map blurred (cells_from cells x n)

  fits : x + length these ≤ length cells
  unfolding these
  fits = omega (arith, length-map (cells_from cells x n) blurred, length-cells_from cells x n room, room)

  outside : (i : ℕ) → (i < x) ⊎ (x + n ≤ i) → cell_at (with_cells cells x these) i ≡ cell_at cells i
  unfolding these
  outside i (inl below) = cell_at-with_cells_out cells x these i fits (inl below)
  outside i (inr above) =
      let beyond : x + length these ≤ i = omega (arith, length-map (cells_from cells x n) blurred, length-cells_from cells x n room, above) in
      cell_at-with_cells_out cells x these i fits (inr beyond)

  inside : (i : ℕ) → x ≤ i → i < x + n → cell_at (with_cells cells x these) i ≡ blurred (cell_at cells i)
  unfolding these
  inside i low high =
      let back : x + (i - x) ≡ i = omega (arith, low) in
      let lt : i - x < n = omega (arith, low, high) in
      let short : i - x < length (cells_from cells x n) = omega (arith, length-cells_from cells x n room, lt) in
      let all : i < x + length these = omega (arith, length-map (cells_from cells x n) blurred, length-cells_from cells x n room, high) in
      cell_at-with_cells_in cells x these i fits low all
      ∙ get_or-map blurred (cells_from cells x n) (i - x) cell.Undef cell.Undef short
      ∙ ap blurred (cell_at-cells_from cells x n (i - x) lt ∙ ap (cell_at cells) back)

  blurs_within : KeepsLive cells (with_cells cells x (map blurred (cells_from cells x n)))
  unfolding these
  blurs_within = record {
    cell = λ i live. cell i live (cases_lt i x) (cases_lt i (x + n));
    free = λ i is. free i is (cases_lt i x) (cases_lt i (x + n));
  }
    where
      cell : (i : ℕ) → is_free (cell_at cells i) ≡ false → (i < x) ⊎ (x ≤ i) → (i < x + n) ⊎ (x + n ≤ i) → cell_at (with_cells cells x these) i ≡ cell_at cells i
      cell i live (inl below) _ = outside i (inl below)
      cell i live (inr low) (inr above) = outside i (inr above)
      cell i live (inr low) (inl high) = inside i low high ∙ blurred_live (cell_at cells i) live

      free : (i : ℕ) → is_free (cell_at cells i) ≡ true → (i < x) ⊎ (x ≤ i) → (i < x + n) ⊎ (x + n ≤ i) → is_free (cell_at (with_cells cells x these) i) ≡ true
      free i is (inl below) _ = ap is_free (outside i (inl below)) ∙ is
      free i is (inr low) (inr above) = ap is_free (outside i (inr above)) ∙ is
      free i is (inr low) (inl high) = ap is_free (inside i low high) ∙ blurred_free (cell_at cells i) is

pub blurs_keep : (cells : List Cell) (x n : ℕ) → KeepsLive cells (with_cells cells x (map blurred (cells_from cells x n)))
blurs_keep cells x n =
    let room : min x (length cells) + min n (length cells - min x (length cells)) ≤ length cells = omega arith in
    subst (KeepsLive cells) (blurred_part cells x n) (blurs_within cells (min x (length cells)) (min n (length cells - min x (length cells))) room)
