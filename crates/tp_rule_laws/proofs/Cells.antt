-- Words of which less is known than of others.
use Rattle.std.proofs.Common.{◌≡◌, ℕ, zero, suc, ◌+◌, ◌-◌, ◌<◌, ◌≤◌, ◌⊎◌, inl, inr, Bool, true, false, if◌then◌else◌}
use Rattle.std.proofs.Common.{IsTrue, ℤ, ◌≤ℤ◌, List, [], ◌∷◌, ◌++◌, length, take, drop, map, min, slice_set, refl, sym}
use Rattle.std.proofs.Common.{ap, ◌∙◌, rules, arith}
use Rattle.std.specs.List.{list_all}
use Rattle.std.specs.Ordering.{int_eq}
use Rattle.std.proofs.lemmas.Bool.{and_parts}
use Rattle.std.proofs.lemmas.Bool.Decides.{nat_tests}
use Rattle.std.proofs.lemmas.Int.{ints}
use Rattle.std.proofs.lemmas.List.{get_or-map, length-map}
use Rattle.tp_state.specs.declared.kind.Kind.{Kind}
use Rattle.tp_state.specs.declared.kind.Kind.TheVariants as kind
use Rattle.tp_state.specs.declared.cell.Cell.{Cell}
use Rattle.tp_state.specs.declared.cell.Cell.TheVariants as cell
use Rattle.tp_state.specs.CellRules.{cell_at, cells_from, with_cells, is_free, is_defined, written, blurred, copied}
use Rattle.tp_state.specs.Order.{kind_below, cell_below}
use Rattle.tp_state.proofs.CellOrder.{BelowWays, below_ways, cell_below-self, free_below, int_self}
use Rattle.tp_state.proofs.OrderLemmas.{int_low, int_high}
use Rattle.tp_state.proofs.CellLemmas.{length-with_cells, cell_at-with_cells_in, cell_at-with_cells_out, length-cells_from, cell_at-cells_from, blurred_part}
use Rattle.tp_state.specs.Sound.{IsRange, IsSoundKind}

-- ---- lists

-- word by word
abbrev pub AreBelow : List Cell → List Cell → Type 0
AreBelow [] [] = Unit {0}
AreBelow (c ∷ cs) (d ∷ ds) = IsTrue (cell_below c d) × AreBelow cs ds
AreBelow [] (d ∷ ds) = ⊥
AreBelow (c ∷ cs) [] = ⊥

pub from_places : (cs ds : List Cell) → length cs ≡ length ds → ((i : ℕ) → IsTrue (cell_below (cell_at cs i) (cell_at ds i))) → AreBelow cs ds
from_places [] [] long all = tt
from_places (c ∷ cs) (d ∷ ds) long all = (all 0, from_places cs ds (let e : suc (length cs) ≡ suc (length ds) = long in omega arith) (λ i. all (suc i)))
from_places [] (d ∷ ds) long all = absurd (let e : 0 ≡ suc (length ds) = long in omega arith)
from_places (c ∷ cs) [] long all = absurd (let e : suc (length cs) ≡ 0 = long in omega arith)

pub to_place : (cs ds : List Cell) → AreBelow cs ds → (i : ℕ) → IsTrue (cell_below (cell_at cs i) (cell_at ds i))
to_place [] [] h i = search rules
to_place (c ∷ cs) (d ∷ ds) h zero = h.0
to_place (c ∷ cs) (d ∷ ds) h (suc i) = to_place cs ds h.1 i
to_place [] (d ∷ ds) h i = absurd h
to_place (c ∷ cs) [] h i = absurd h

pub as_long : (cs ds : List Cell) → AreBelow cs ds → length cs ≡ length ds
as_long [] [] h = refl
as_long (c ∷ cs) (d ∷ ds) h = ap suc (as_long cs ds h.1)
as_long [] (d ∷ ds) h = absurd h
as_long (c ∷ cs) [] h = absurd h

pub taken_below : (n : ℕ) (cs ds : List Cell) → AreBelow cs ds → AreBelow (take n cs) (take n ds)
taken_below zero cs ds h = tt
taken_below (suc n) [] [] h = tt
taken_below (suc n) (c ∷ cs) (d ∷ ds) h = (h.0, taken_below n cs ds h.1)
taken_below (suc n) [] (d ∷ ds) h = absurd h
taken_below (suc n) (c ∷ cs) [] h = absurd h

pub dropped_below : (n : ℕ) (cs ds : List Cell) → AreBelow cs ds → AreBelow (drop n cs) (drop n ds)
dropped_below zero cs ds h = h
dropped_below (suc n) [] [] h = tt
dropped_below (suc n) (c ∷ cs) (d ∷ ds) h = dropped_below n cs ds h.1
dropped_below (suc n) [] (d ∷ ds) h = absurd h
dropped_below (suc n) (c ∷ cs) [] h = absurd h

pub joined_below : (cs ds es fs : List Cell) → AreBelow cs ds → AreBelow es fs → AreBelow (cs ++ es) (ds ++ fs)
joined_below [] [] es fs h g = g
joined_below (c ∷ cs) (d ∷ ds) es fs h g = (h.0, joined_below cs ds es fs h.1 g)
joined_below [] (d ∷ ds) es fs h g = absurd h
joined_below (c ∷ cs) [] es fs h g = absurd h

pub mapped_below : (f : Cell → Cell) → ((c d : Cell) → IsTrue (cell_below c d) → IsTrue (cell_below (f c) (f d))) → (cs ds : List Cell) → AreBelow cs ds → AreBelow (map f cs) (map f ds)
mapped_below f keeps [] [] h = tt
mapped_below f keeps (c ∷ cs) (d ∷ ds) h = (keeps c d h.0, mapped_below f keeps cs ds h.1)
mapped_below f keeps [] (d ∷ ds) h = absurd h
mapped_below f keeps (c ∷ cs) [] h = absurd h

pub below_themselves : (cs : List Cell) → AreBelow cs cs
below_themselves [] = tt
below_themselves (c ∷ cs) = (cell_below-self c, below_themselves cs)

pub set_below : (x : ℕ) (c d : Cell) → IsTrue (cell_below c d) → (cs ds : List Cell) → AreBelow cs ds → AreBelow (slice_set cs x c) (slice_set ds x d)
set_below x c d e [] [] h = tt
set_below zero c d e (a ∷ cs) (b ∷ ds) h = (e, h.1)
set_below (suc x) c d e (a ∷ cs) (b ∷ ds) h = (h.0, set_below x c d e cs ds h.1)
set_below x c d e [] (b ∷ ds) h = absurd h
set_below x c d e (a ∷ cs) [] h = absurd h

pub part_below : (x n : ℕ) (cs ds : List Cell) → AreBelow cs ds → AreBelow (cells_from cs x n) (cells_from ds x n)
unfolding cells_from
part_below x n cs ds h = taken_below n _ _ (dropped_below x cs ds h)

pub replaced_below : (x : ℕ) (cs ds these those : List Cell) → AreBelow cs ds → AreBelow these those → AreBelow (with_cells cs x these) (with_cells ds x those)
unfolding with_cells
replaced_below x cs ds these those h g =
    joined_below (take x cs) (take x ds) _ _ (taken_below x cs ds h)
    (joined_below these those _ _ g (rw (as_long these those g) (dropped_below (x + length those) cs ds h)))

-- what holds of words of which less is known holds of them
pub all_below : (p : Cell → Bool) → ((c d : Cell) → IsTrue (cell_below c d) → p d ≡ true → p c ≡ true) → (cs ds : List Cell) → AreBelow cs ds → list_all p ds ≡ true → list_all p cs ≡ true
all_below p goes [] [] h e = refl
all_below p goes (c ∷ cs) (d ∷ ds) h e =
    let parts = and_parts (p d) (list_all p ds) e in
    rw (goes c d h.0 parts.0, all_below p goes cs ds h.1 parts.1) refl
all_below p goes [] (d ∷ ds) h e = absurd h
all_below p goes (c ∷ cs) [] h e = absurd h

-- ---- cells

pub free_goes : (c d : Cell) → IsTrue (cell_below c d) → is_free d ≡ true → is_free c ≡ true
free_goes c d h e = free_below c d h e

pub defined_goes : (c d : Cell) → IsTrue (cell_below c d) → is_defined d ≡ true → is_defined c ≡ true
defined_goes c d h e = by_ways (below_ways c d h)
  where
    by_ways : BelowWays c d → is_defined c ≡ true
    by_ways (inl same) = ap is_defined same ∙ e
    by_ways (inr (inl (undef, free))) = let no : is_defined d ≡ false = ap is_defined undef in cc
    by_ways (inr (inr (any, (n, known)))) = ap is_defined known

pub blurred_below : (c d : Cell) → IsTrue (cell_below c d) → IsTrue (cell_below (blurred c) (blurred d))
blurred_below c d h = by_ways (below_ways c d h)
  where
    free_blurred : (c : Cell) → IsTrue (is_free c) → IsTrue (is_free (blurred c))
    free_blurred cell.Undef e = search rules
    free_blurred cell.Any e = search rules
    free_blurred (cell.Known n) e = search rules
    free_blurred (cell.Index l) e = e
    free_blurred (cell.Count l) e = e

    by_ways : BelowWays c d → IsTrue (cell_below (blurred c) (blurred d))
    by_ways (inl same) = rw same (cell_below-self (blurred d))
    by_ways (inr (inl (undef, free))) = rw undef (free_blurred c free)
    by_ways (inr (inr (any, (n, known)))) = rw (any, known) (search rules)

-- a word says less once it may have taken something
pub blurred_more : (c d : Cell) → IsTrue (cell_below c d) → IsTrue (cell_below c (blurred d))
blurred_more c cell.Undef h = h
blurred_more c cell.Any h = h
blurred_more cell.Undef (cell.Known n) h = absurd (search rules)
blurred_more cell.Any (cell.Known n) h = search rules
blurred_more (cell.Known m) (cell.Known n) h = search rules
blurred_more (cell.Index l) (cell.Known n) h = absurd (search rules)
blurred_more (cell.Count l) (cell.Known n) h = absurd (search rules)
blurred_more c (cell.Index l) h = h
blurred_more c (cell.Count l) h = h

pub copied_below : (c d : Cell) → IsTrue (cell_below c d) → IsTrue (cell_below (copied c) (copied d))
copied_below c d h = by_ways (below_ways c d h)
  where
    free_copied : (c : Cell) → IsTrue (is_free (copied c))
    free_copied cell.Undef = search rules
    free_copied cell.Any = search rules
    free_copied (cell.Known n) = search rules
    free_copied (cell.Index l) = search rules
    free_copied (cell.Count l) = search rules

    by_ways : BelowWays c d → IsTrue (cell_below (copied c) (copied d))
    by_ways (inl same) = rw same (cell_below-self (copied d))
    by_ways (inr (inl (undef, free))) = rw undef (free_copied c)
    by_ways (inr (inr (any, (n, known)))) = rw (any, known) (search rules)

known_or_any : (a : ℤ) (p : Bool) → IsTrue (cell_below (if p then cell.Known a else cell.Any) cell.Any)
known_or_any a true = search rules
known_or_any a false = search rules

ints_written : (a b c d : ℤ) → IsRange a b → c ≤ℤ a → b ≤ℤ d → (p : Bool) → int_eq c d ≡ p → IsTrue (cell_below (if int_eq a b then cell.Known a else cell.Any) (if p then cell.Known c else cell.Any))
ints_written a b c d r low high false e = known_or_any a (int_eq a b)
ints_written a b c d r low high true e =
    let o = r.ordered in
    let same : a ≡ c = ints_one a b c d o low high e in
    let one : int_eq a b ≡ true = ints_eq a b c d o low high e in
    rw (one, same) (int_self c)
  where
    ints_one : (a b c d : ℤ) → a ≤ℤ b → c ≤ℤ a → b ≤ℤ d → int_eq c d ≡ true → a ≡ c
    ints_one a b c d o low high e = grind (arith, ints, nat_tests)

    ints_eq : (a b c d : ℤ) → a ≤ℤ b → c ≤ℤ a → b ≤ℤ d → int_eq c d ≡ true → int_eq a b ≡ true
    ints_eq a b c d o low high e = grind (arith, ints, nat_tests)

-- a word that takes more is known better
pub written_below : (k l : Kind) → IsTrue (kind_below k l) → IsSoundKind k → is_defined (written l) ≡ true → IsTrue (cell_below (written k) (written l))
written_below k kind.Undef h r e = cc
written_below (kind.Int a b) (kind.Int c d) h r e = ints_written a b c d r (int_low a b c d h) (int_high a b c d h) (int_eq c d) refl
written_below (kind.Ptr a b) (kind.Ptr c d) h r e = search rules
written_below (kind.BytePtr a b) (kind.BytePtr c d) h r e = search rules
written_below kind.Undef (kind.Int c d) h r e = absurd (search rules)
written_below (kind.Ptr a b) (kind.Int c d) h r e = absurd (search rules)
written_below (kind.BytePtr a b) (kind.Int c d) h r e = absurd (search rules)
written_below kind.Undef (kind.Ptr c d) h r e = absurd (search rules)
written_below (kind.Int a b) (kind.Ptr c d) h r e = absurd (search rules)
written_below (kind.BytePtr a b) (kind.Ptr c d) h r e = absurd (search rules)
written_below kind.Undef (kind.BytePtr c d) h r e = absurd (search rules)
written_below (kind.Int a b) (kind.BytePtr c d) h r e = absurd (search rules)
written_below (kind.Ptr a b) (kind.BytePtr c d) h r e = absurd (search rules)

-- what is known of a word that took something is below what is known of one that may have
pub written_blurred : (k : Kind) (c d : Cell) → is_defined (written k) ≡ true → is_free d ≡ true → IsTrue (cell_below (written k) (blurred d))
written_blurred k c cell.Undef there free = written_is_free k
  where
    either_free : (a : ℤ) (p : Bool) → IsTrue (is_free (if p then cell.Known a else cell.Any))
    either_free a true = search rules
    either_free a false = search rules

    written_is_free : (k : Kind) → IsTrue (is_free (written k))
    written_is_free kind.Undef = search rules
    written_is_free (kind.Int a b) = either_free a (int_eq a b)
    written_is_free (kind.Ptr p q) = search rules
    written_is_free (kind.BytePtr p q) = search rules
written_blurred kind.Undef c cell.Any there free = cc
written_blurred (kind.Int a b) c cell.Any there free = known_or_any a (int_eq a b)
written_blurred (kind.Ptr p q) c cell.Any there free = search rules
written_blurred (kind.BytePtr p q) c cell.Any there free = search rules
written_blurred kind.Undef c (cell.Known n) there free = cc
written_blurred (kind.Int a b) c (cell.Known n) there free = known_or_any a (int_eq a b)
written_blurred (kind.Ptr p q) c (cell.Known n) there free = search rules
written_blurred (kind.BytePtr p q) c (cell.Known n) there free = search rules
written_blurred k c (cell.Index l) there free = cc
written_blurred k c (cell.Count l) there free = cc

-- ---- words of which one may have taken something

module _ (cells : List Cell) (x n : ℕ) (room : x + n ≤ length cells) where
  these : List Cell
  these = map blurred (cells_from cells x n)

  long : length these ≡ n
  unfolding these
  long = length-map (cells_from cells x n) blurred ∙ length-cells_from cells x n room

  out_there : (i : ℕ) → (i < x) ⊎ (x + n ≤ i) → cell_at (with_cells cells x (map blurred (cells_from cells x n))) i ≡ cell_at cells i
  unfolding these
  out_there i (inl below) = cell_at-with_cells_out cells x these i (omega (arith, long)) (inl below)
  out_there i (inr above) = cell_at-with_cells_out cells x these i (omega (arith, long)) (inr (omega (arith, long)))

  in_there : (i : ℕ) → x ≤ i → i < x + n → cell_at (with_cells cells x (map blurred (cells_from cells x n))) i ≡ blurred (cell_at cells i)
  unfolding these
  in_there i low high =
      let back : x + (i - x) ≡ i = omega (arith, low) in
      let lt : i - x < n = omega (arith, low, high) in
      let short : i - x < length (cells_from cells x n) = omega (arith, length-cells_from cells x n room, lt) in
      cell_at-with_cells_in cells x these i (omega (arith, long)) low (omega (arith, long, high))
      ∙ get_or-map blurred (cells_from cells x n) (i - x) cell.Undef cell.Undef short
      ∙ ap blurred (cell_at-cells_from cells x n (i - x) lt ∙ ap (cell_at cells) back)

  long_there : length (with_cells cells x (map blurred (cells_from cells x n))) ≡ length cells
  unfolding these
  long_there = length-with_cells cells x these (omega (arith, long))

-- the words behind the last one take nothing
module _ (cells : List Cell) (x n : ℕ) where
  from : ℕ
  from = min x (length cells)

  many : ℕ
  many = min n (length cells - min x (length cells))

  room : from + many ≤ length cells
  unfolding from many
  room = omega arith

  pub blur_long : length (with_cells cells x (map blurred (cells_from cells x n))) ≡ length cells
  unfolding from many
  blur_long = ap length (sym (blurred_part cells x n)) ∙ long_there cells from many room

  pub blur_out : (i : ℕ) → i < length cells → (i < x) ⊎ (x + n ≤ i) → cell_at (with_cells cells x (map blurred (cells_from cells x n))) i ≡ cell_at cells i
  unfolding from many
  blur_out i lt out = ap (λ new. cell_at new i) (sym (blurred_part cells x n)) ∙ out_there cells from many room i (outside out)
    where
      outside : (i < x) ⊎ (x + n ≤ i) → (i < min x (length cells)) ⊎ (min x (length cells) + min n (length cells - min x (length cells)) ≤ i)
      outside (inl below) = inl (omega arith)
      outside (inr above) = inr (omega arith)

  pub blur_in : (i : ℕ) → i < length cells → x ≤ i → i < x + n → cell_at (with_cells cells x (map blurred (cells_from cells x n))) i ≡ blurred (cell_at cells i)
  unfolding from many
  blur_in i lt low high = ap (λ new. cell_at new i) (sym (blurred_part cells x n)) ∙ in_there cells from many room i (omega arith) (omega arith)
