-- Cells that are replaced, one by one.
use Rattle.std.proofs.Common.{◌≡◌, IsTrue, ℕ, ◌+◌, ◌-◌, ◌<◌, ◌≤◌, ◌⊎◌, inl, inr, List, [], length, drop, map, slice_set}
use Rattle.std.proofs.Common.{min, length-set, length-drop, append-nil, get_or-set_same, get_or-set_other, refl, sym}
use Rattle.std.proofs.Common.{ap, ◌∙◌, arith}
use Rattle.std.proofs.lemmas.Bool.{cases_lt, cases_eq}
use Rattle.std.proofs.lemmas.List.{places, ext_get_or, get_or-map, length-map, take_all}
use Rattle.std.proofs.Math.ListN.{drop_of_length-le}
use Rattle.std.proofs.Math.Seq.{take-nil}
use Rattle.tp_state.specs.declared.cell.Cell.{Cell}
use Rattle.tp_state.specs.declared.cell.Cell.TheVariants.{Undef}
use Rattle.std.proofs.lemmas.Bool.Decides.{nat_tests}
use Rattle.tp_state.specs.Rules.{are_apart}
use Rattle.tp_state.specs.CellRules.{cell_at, with_cells, cells_from, blurred}

pub length-with_cells : (cells : List Cell) (x : ℕ) (these : List Cell) → x + length these ≤ length cells → length (with_cells cells x these) ≡ length cells
unfolding with_cells
length-with_cells cells x these room = grind (arith, places)

pub cell_at-with_cells_in : (cells : List Cell) (x : ℕ) (these : List Cell) (i : ℕ) → x + length these ≤ length cells →
    x ≤ i → i < x + length these → cell_at (with_cells cells x these) i ≡ cell_at these (i - x)
unfolding with_cells
cell_at-with_cells_in cells x these i room low high = grind (arith, places)

pub cell_at-with_cells_out : (cells : List Cell) (x : ℕ) (these : List Cell) (i : ℕ) → x + length these ≤ length cells →
    (i < x) ⊎ (x + length these ≤ i) → cell_at (with_cells cells x these) i ≡ cell_at cells i
unfolding with_cells
cell_at-with_cells_out cells x these i room (inl below) = grind (arith, places)
cell_at-with_cells_out cells x these i room (inr above) = grind (arith, places)

pub length-cells_from : (cells : List Cell) (x n : ℕ) → x + n ≤ length cells → length (cells_from cells x n) ≡ n
unfolding cells_from
length-cells_from cells x n room = grind (arith, places)

pub cell_at-cells_from : (cells : List Cell) (x n i : ℕ) → i < n → cell_at (cells_from cells x n) i ≡ cell_at cells (x + i)
unfolding cells_from
cell_at-cells_from cells x n i lt = grind (arith, places)

-- cells that changed by a function from x on, as far as i, and no others
pub record ChangesFrom (old new : List Cell) (f : Cell → Cell) (x y n : ℕ) : Type 0 where
  pub long : length new ≡ length old
  pub inside : (i : ℕ) → i < n → cell_at new (x + i) ≡ f (cell_at old (y + i))
  pub outside : (i : ℕ) → (i < x) ⊎ (x + n ≤ i) → cell_at new i ≡ cell_at old i

pub changes_none : (old : List Cell) (f : Cell → Cell) (x y : ℕ) → ChangesFrom old old f x y 0
changes_none old f x y = record { long = refl; inside = λ i lt. absurd (omega (arith, lt)); outside = λ i out. refl }

pub changes_one : (old new : List Cell) (f : Cell → Cell) (x y n : ℕ) (c : Cell) → ChangesFrom old new f x y n →
    x + n < length old → c ≡ f (cell_at old (y + n)) → ChangesFrom old (slice_set new (x + n) c) f x y (n + 1)
changes_one old new f x y n c h room is = record {
  long = length-set new (x + n) c ∙ h.long;
  inside = λ i lt. inside i lt (cases_eq i n);
  outside = λ i out. get_or-set_other new (x + n) i c Undef (λ e. apart i out e) ∙ h.outside i (wider i out);
}
  where
    in_new : x + n < length new
    in_new = omega (arith, h.long, room)

    inside : (i : ℕ) → i < n + 1 → (i ≡ n) ⊎ (i ≡ n → ⊥) → cell_at (slice_set new (x + n) c) (x + i) ≡ f (cell_at old (y + i))
    inside i lt (inl same) = rw same (get_or-set_same new (x + n) c Undef in_new ∙ is)
    inside i lt (inr other) = get_or-set_other new (x + n) (x + i) c Undef (λ e. other (omega (arith, e))) ∙ h.inside i (omega (arith, lt, other))

    apart : (i : ℕ) → (i < x) ⊎ (x + (n + 1) ≤ i) → i ≡ x + n → ⊥
    apart i (inl below) e = omega (arith, below, e)
    apart i (inr above) e = omega (arith, above, e)

    wider : (i : ℕ) → (i < x) ⊎ (x + (n + 1) ≤ i) → (i < x) ⊎ (x + n ≤ i)
    wider i (inl below) = inl below
    wider i (inr above) = inr (omega (arith, above))

pub changes_end : (old new : List Cell) (f : Cell → Cell) (x y i n : ℕ) → ChangesFrom old new f x y i → i ≤ n → n ≤ i → ChangesFrom old new f x y n
changes_end old new f x y i n h low high =
    let same : i ≡ n = omega (arith, low, high) in
    rw (← same) h

-- a word of a range that does not touch another is not among the first of that
pub apart_from : (n x y i : ℕ) → IsTrue (are_apart n x y) → i < n → (y + i < x) ⊎ (x + i ≤ y + i)
unfolding are_apart
apart_from n x y i h lt = grind (arith, nat_tests)

pub changes_all : (old new : List Cell) (f : Cell → Cell) (x y n : ℕ) → ChangesFrom old new f x y n → x + n ≤ length old → y + n ≤ length old → new ≡ with_cells old x (map f (cells_from old y n))
changes_all old new f x y n h room from = ext_get_or Undef new _ (h.long ∙ sym (length-with_cells old x these fits)) (λ i lt. at i (cases_lt i x) (cases_lt i (x + n)))
  where
    these : List Cell
    these = map f (cells_from old y n)

    long : length these ≡ n
    long = length-map (cells_from old y n) f ∙ length-cells_from old y n from

    fits : x + length these ≤ length old
    fits = omega (arith, long, room)

    at : (i : ℕ) → (i < x) ⊎ (x ≤ i) → (i < x + n) ⊎ (x + n ≤ i) → cell_at new i ≡ cell_at (with_cells old x these) i
    at i (inl below) _ = h.outside i (inl below) ∙ sym (cell_at-with_cells_out old x these i fits (inl below))
    at i (inr low) (inr above) = h.outside i (inr above) ∙ sym (cell_at-with_cells_out old x these i fits (inr (omega (arith, above, long))))
    at i (inr low) (inl high) =
        let back : x + (i - x) ≡ i = omega (arith, low) in
        let lt : i - x < n = omega (arith, low, high) in
        let shorter : i - x < length (cells_from old y n) = omega (arith, lt, length-cells_from old y n from) in
        let here : cell_at new i ≡ f (cell_at old (y + (i - x))) = ap (cell_at new) (sym back) ∙ h.inside (i - x) lt in
        let there : cell_at these (i - x) ≡ f (cell_at (cells_from old y n) (i - x)) = get_or-map f (cells_from old y n) (i - x) Undef Undef shorter in
        here ∙ sym (cell_at-with_cells_in old x these i fits low (omega (arith, high, long)) ∙ there ∙ ap f (cell_at-cells_from old y n (i - x) lt))

-- words behind the workspace take nothing
pub cut_short : (cells : List Cell) (x n : ℕ) → length cells < x + n → cells_from cells x (length cells - x) ≡ cells_from cells x n
unfolding cells_from
cut_short cells x n beyond =
    let all_left : length (drop x cells) ≤ length cells - x = omega (arith, length-drop x cells) in
    let no_more : length (drop x cells) ≤ n = omega (arith, length-drop x cells, beyond) in
    take_all (length cells - x) (drop x cells) all_left ∙ sym (take_all n (drop x cells) no_more)

none_left : (cells : List Cell) (x n : ℕ) → length cells ≤ x → with_cells cells x (map blurred (cells_from cells x n)) ≡ cells
unfolding with_cells cells_from
none_left cells x n none =
    let nothing : drop x cells ≡ [] = drop_of_length-le cells none in
    let more : drop (x + 0) cells ≡ [] = drop_of_length-le cells (omega (arith, none)) in
    rw (nothing, take-nil n, more, take_all x cells none) (append-nil cells)

pub blurred_part : (cells : List Cell) (x n : ℕ) → with_cells cells (min x (length cells))
    (map blurred (cells_from cells (min x (length cells)) (min n (length cells - min x (length cells))))) ≡ with_cells
    cells x (map blurred (cells_from cells x n))
blurred_part cells x n = by_place (cases_lt x (length cells)) (cases_lt (length cells) (x + n))
  where
    by_place : (x < length cells) ⊎ (length cells ≤ x) → (length cells < x + n) ⊎ (x + n ≤ length cells) →
        with_cells cells (min x (length cells)) (map blurred
        (cells_from cells (min x (length cells)) (min n (length cells - min x (length cells))))) ≡ with_cells cells x
        (map blurred (cells_from cells x n))
    by_place _ (inr all) =
        let at : min x (length cells) ≡ x = omega (arith, all) in
        let so_many : min n (length cells - x) ≡ n = omega (arith, all) in
        rw (at, so_many) refl
    by_place (inl some) (inl beyond) =
        let at : min x (length cells) ≡ x = omega (arith, some) in
        let so_many : min n (length cells - x) ≡ length cells - x = omega (arith, some, beyond) in
        rw (at, so_many) (ap (λ these. with_cells cells x (map blurred these)) (cut_short cells x n beyond))
    by_place (inr none) (inl beyond) =
        let at : min x (length cells) ≡ length cells = omega (arith, none) in
        rw at (none_left cells (length cells) _ (omega arith) ∙ sym (none_left cells x n none))
