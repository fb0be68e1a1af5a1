-- No address lies in more loops than may nest.
use Rattle.std.proofs.Common.{◌≡◌, ℕ, suc, ◌+◌, ◌<◌, ◌≤◌, Bool, true, false, ◌⊎◌, inl, inr, cond, List, [], ◌∷◌, ◌++◌, length, take, drop, get_or, slice_get, Contains, Some, None, refl, ap, arith}
use Rattle.std.specs.Prelude.{count_by}
use Rattle.std.specs.List.{AllByRecursion}
use Rattle.std.proofs.lemmas.Bool.Decides.{nat_tests}
use Rattle.std.proofs.lemmas.List.{get_or_default}
use Rattle.std.proofs.lemmas.List.Sums.{sum_by-cons, sum_by-append, sum_by-take-drop, sum_by-drop_more}
use Rattle.std.proofs.lemmas.Option.{slice_get_within, get_or_from_slice_get}
use Rattle.tp_image.specs.Image.{ImageValue}
use Rattle.tp_decode.specs.Cutting.{Cut}
use Rattle.tp_flow.specs.declared.range.LoopRange.{LoopRange}
use Rattle.tp_flow.specs.NestRanges.{ranges, contains, overlaps, lies_within}
use Rattle.tp_flow.specs.RowRules.{lies_too_deep}
use Rattle.tp_flow.specs.FlowFaults.{first_flow_fault}
use Rattle.tp_flow.specs.NestKept.{IsNested, depth_at, IsShallow}
use Rattle.tp_flow.proofs.FlowNest.{good_at, loops_nested}

-- ---- counting

pub all_by_place : {X : Type 0} (P : X → Type 0) (xs : List X) → ((k : ℕ) (d : X) → k < length xs → P (get_or xs k d)) → AllByRecursion P xs
all_by_place P [] each = tt
all_by_place P (x ∷ xs) each = (each 0 x (omega arith), all_by_place P xs (λ k d lt. each (suc k) d (omega arith)))

all_along : {X : Type 0} (P Q : X → Type 0) (xs : List X) → ((x : X) → P x → Q x) → AllByRecursion P xs → AllByRecursion Q xs
all_along P Q [] f all = tt
all_along P Q (x ∷ xs) f all = (f x all.0, all_along P Q xs f all.1)

-- more pass a test that is implied
pub count_implied : {X : Type 0} (p q : X → Bool) (xs : List X) → AllByRecursion (λ x. p x ≡ true → q x ≡ true) xs → count_by p xs ≤ count_by q xs
count_implied p q [] all = omega arith
count_implied {X} p q (x ∷ xs) all =
    omega (arith, count_implied p q xs all.1, sum_by-cons (λ y. cond {A = ℕ} (p y) 1 0) x xs, sum_by-cons (λ y. cond {A = ℕ} (q y) 1 0) x xs, by_test (p x) (q x) all.0)
  where
    by_test : (b c : Bool) → (b ≡ true → c ≡ true) → cond {A = ℕ} b 1 0 ≤ cond c 1 0
    by_test true true h = omega arith
    by_test true false h = absurd (let yes = h refl in cc)
    by_test false c h = omega arith

count_none : {X : Type 0} (p : X → Bool) (xs : List X) → AllByRecursion (λ x. p x ≡ false) xs → count_by p xs ≡ 0
count_none p [] all = refl
count_none p (x ∷ xs) all =
    omega (arith, count_none p xs all.1, sum_by-cons (λ y. cond {A = ℕ} (p y) 1 0) x xs, ap {B = ℕ} (λ b. cond b 1 0) all.0)

-- without the element at a place, at most one passes less
count_others : {X : Type 0} (p : X → Bool) (xs : List X) (k : ℕ) (d : X) → k < length xs → count_by p xs ≤ count_by p (take k xs ++ drop (k + 1) xs) + 1
count_others {X} p xs k d lt =
    omega (arith, sum_by-take-drop one xs k, sum_by-drop_more one xs k d lt, sum_by-append one (take k xs) (drop (k + 1) xs), at_most (p (get_or xs k d)))
  where
    one : X → ℕ
    one y = cond (p y) 1 0

    at_most : (b : Bool) → cond {A = ℕ} b 1 0 ≤ 1
    at_most true = omega arith
    at_most false = omega arith

-- with it, one more passes
pub count_all : {X : Type 0} (p : X → Bool) (xs : List X) (k : ℕ) (d : X) → k < length xs → p (get_or xs k d) ≡ true → count_by p xs ≡ count_by p (take k xs ++ drop (k + 1) xs) + 1
count_all {X} p xs k d lt is =
    omega (arith, sum_by-take-drop one xs k, sum_by-drop_more one xs k d lt, sum_by-append one (take k xs) (drop (k + 1) xs), ap {B = ℕ} (λ b. cond b 1 0) is)
  where
    one : X → ℕ
    one y = cond (p y) 1 0

-- ---- the innermost loop

pub meet : (a b : LoopRange) (at : ℕ) → contains a at ≡ true → contains b at ≡ true → overlaps a b ≡ true
meet a b at in_a in_b = grind (arith, nat_tests)

pub within_trans : (a b c : LoopRange) → lies_within a b ≡ true → lies_within b c ≡ true → lies_within a c ≡ true
within_trans a b c ab bc = grind (arith, nat_tests)

pub within_itself : (a : LoopRange) → lies_within a a ≡ true
within_itself a = grind (arith, nat_tests)

module _ (nest : List LoopRange) (at : ℕ) (nested : IsNested nest) where
  -- one of some loops that contains the address, within all of them that do
  record IsInnermost (xs : List LoopRange) : Type 0 where
    place : ℕ
    range : LoopRange
    there : slice_get xs place ≡ Some range
    in_nest : Contains nest range
    around : contains range at ≡ true
    within : AllByRecursion (λ x. contains x at ≡ true → lies_within range x ≡ true) xs

  innermost : (xs : List LoopRange) → AllByRecursion (Contains nest) xs → AllByRecursion (λ x. contains x at ≡ false) xs ⊎ IsInnermost xs
  innermost [] all = inl tt
  innermost (x ∷ xs) all = by_test (innermost xs all.1) (contains x at) refl
    where
      -- the first one, which contains the address, or the innermost of the others
      one_of : contains x at ≡ true → (m : IsInnermost xs) → (lies_within x m.range ≡ true) ⊎ (lies_within m.range x ≡ true) → IsInnermost (x ∷ xs)
      one_of e m (inl is) = record {
        place = 0;
        range = x;
        there = refl;
        in_nest = all.0;
        around = e;
        within = (λ _. within_itself x, all_along _ _ xs (λ y h in_y. within_trans x m.range y is (h in_y)) m.within);
      }
      one_of e m (inr is) = record { place = suc m.place; range = m.range; there = m.there; in_nest = m.in_nest; around = m.around; within = (λ _. is, m.within) }

      by_test : AllByRecursion (λ x. contains x at ≡ false) xs ⊎ IsInnermost xs → (b : Bool) → contains x at ≡ b → AllByRecursion (λ x. contains x at ≡ false) (x ∷ xs) ⊎ IsInnermost (x ∷ xs)
      by_test (inl none) true e =
          inr record { place = 0; range = x; there = refl; in_nest = all.0; around = e; within = (λ _. within_itself x, all_along _ _ xs (λ y out in_y. absurd cc) none) }
      by_test (inl none) false e = inl (e, none)
      by_test (inr m) true e = inr (one_of e m (nested x m.range all.0 m.in_nest (meet x m.range at e m.around)))
      by_test (inr m) false e =
          inr record { place = suc m.place; range = m.range; there = m.there; in_nest = m.in_nest; around = m.around; within = (λ in_x. absurd cc, m.within) }

module _ (image : ImageValue) (cuts : List Cut) (is : first_flow_fault image cuts ≡ None) where
  pub loops_shallow : IsShallow (ranges image.loops)
  loops_shallow at = by_case (innermost nest at (loops_nested image cuts is) nest (all_by_place (Contains nest) nest (λ k d lt. (k, lt, get_or_default nest k (get_or nest k d) d lt))))
    where
      nest : List LoopRange
      nest = ranges image.loops

      few : (others : List LoopRange) (range : LoopRange) → lies_too_deep others range ≡ false → count_by (λ other. lies_within range other) others < 4
      few others range e = grind (arith, nat_tests)

      by_case : AllByRecursion (λ x. contains x at ≡ false) nest ⊎ IsInnermost nest at (loops_nested image cuts is) nest → depth_at nest at ≤ 4
      by_case (inl none) = omega (arith, count_none (λ x. contains x at) nest none)
      by_case (inr m) =
          let lt = slice_get_within nest m.place m.range m.there in
          let deep = (good_at image cuts is m.place m.range lt (get_or_from_slice_get nest m.place m.range m.range m.there)).1.depth in
          let others = few (take m.place nest ++ drop (m.place + 1) nest) m.range deep in
          let shorter = count_others (λ x. lies_within m.range x) nest m.place m.range lt in
          let all = count_implied (λ x. contains x at) (λ x. lies_within m.range x) nest m.within in
          omega arith
