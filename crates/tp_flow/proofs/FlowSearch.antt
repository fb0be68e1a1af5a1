-- Searching a list from the front.
use Rattle.std.proofs.Common.{◌≡◌, ℕ, zero, suc, ◌+◌, ◌<◌, ◌≤◌, Bool, true, false, List, [], ◌∷◌, length, take, get_or, slice_get, Option, Some, None, refl, ap, sym, ◌∙◌, arith, add-one, cond}
use Rattle.std.specs.List.{find, filter_map, cons_option, enumerate_from}
use Rattle.std.specs.Option.{option_map}
use Rattle.std.proofs.lemmas.List.{take_all}
use Rattle.std.proofs.lemmas.List.FromFn.{length-enumerate_from, get_or-enumerate_from}

-- the first i elements and one more do not pass
pub find_more : {X : Type 0} (p : X → Bool) (xs : List X) (i : ℕ) (d : X) → i < length xs → find p (take i xs) ≡ None → p (get_or xs i d) ≡ false → find p (take (suc i) xs) ≡ None
find_more p [] i d h before here = absurd (omega arith)
find_more p (x ∷ xs) zero d h before here = rw here refl
find_more p (x ∷ xs) (suc i) d h before here = by_test (find_more p xs i d (omega arith)) (p x) refl before
  where
    by_test : (find p (take i xs) ≡ None → p (get_or xs i d) ≡ false → find p (take (suc i) xs) ≡ None) → (b : Bool) →
        p x ≡ b → cond b (Some x) (find p (take i xs)) ≡ None → cond b (Some x) (find p (take (suc i) xs)) ≡ None
    by_test go true e before = cc
    by_test go false e before = go before here

-- the element behind them passes
pub find_here : {X : Type 0} (p : X → Bool) (xs : List X) (i : ℕ) (d : X) → i < length xs → find p (take i xs) ≡ None → p (get_or xs i d) ≡ true → find p xs ≡ Some (get_or xs i d)
find_here p [] i d h before here = absurd (omega arith)
find_here p (x ∷ xs) zero d h before here = rw here refl
find_here p (x ∷ xs) (suc i) d h before here = by_test (find_here p xs i d (omega arith)) (p x) refl before
  where
    by_test : (find p (take i xs) ≡ None → p (get_or xs i d) ≡ true → find p xs ≡ Some (get_or xs i d)) → (b : Bool) →
        p x ≡ b → cond b (Some x) (find p (take i xs)) ≡ None → cond b (Some x) (find p xs) ≡ Some (get_or xs i d)
    by_test go true e before = cc
    by_test go false e before = go before here

-- the same where each element gives something or nothing
pub given_more : {X Y : Type 0} (h : X → Option Y) (xs : List X) (i : ℕ) (d : X) → i < length xs → filter_map h (take i xs) ≡ [] → h (get_or xs i d) ≡ None → filter_map h (take (suc i) xs) ≡ []
given_more h [] i d lt before here = absurd (omega arith)
given_more h (x ∷ xs) zero d lt before here = rw here refl
given_more {X} {Y} h (x ∷ xs) (suc i) d lt before here = by_case (given_more h xs i d (omega arith)) (h x) refl before
  where
    by_case : (filter_map h (take i xs) ≡ [] → h (get_or xs i d) ≡ None → filter_map h (take (suc i) xs) ≡ []) →
        (o : Option Y) → h x ≡ o → cons_option o (filter_map h (take i xs)) ≡ [] →
        cons_option o (filter_map h (take (suc i) xs)) ≡ []
    by_case go None e before = go before here
    by_case go (Some y) e before = cc

pub given_here : {X Y : Type 0} (h : X → Option Y) (xs : List X) (i : ℕ) (d : X) (y : Y) → i < length xs →
    filter_map h (take i xs) ≡ [] → h (get_or xs i d) ≡ Some y → slice_get (filter_map h xs) 0 ≡ Some y
given_here h [] i d y lt before here = absurd (omega arith)
given_here h (x ∷ xs) zero d y lt before here = rw here refl
given_here {X} {Y} h (x ∷ xs) (suc i) d y lt before here = by_case (given_here h xs i d y (omega arith)) (h x) refl before
  where
    by_case : (filter_map h (take i xs) ≡ [] → h (get_or xs i d) ≡ Some y → slice_get (filter_map h xs) 0 ≡ Some y) →
        (o : Option Y) → h x ≡ o → cons_option o (filter_map h (take i xs)) ≡ [] →
        slice_get (cons_option o (filter_map h xs)) 0 ≡ Some y
    by_case go None e before = go before here
    by_case go (Some z) e before = cc

-- Searching a list with the numbers of its elements, which are read from a list that is the same.
module _ {X : Type 0} (p : ℕ × X → Bool) (xs read : List X) (same : read ≡ xs) where
  numbered : (i : ℕ) (d : X) → i < length read → get_or (enumerate_from 0 xs) i (i, d) ≡ (i, get_or read i d)
  numbered i d h =
      get_or-enumerate_from 0 xs i (i, d) (omega (arith, ap length same)) ∙ ap (λ n. (n, get_or xs i d)) (omega arith) ∙ ap (λ ys. (i, get_or ys i d)) (sym same)

  pub numbered_more : (i : ℕ) (d : X) (b : Bool) → i < length read → find p (take i (enumerate_from 0 xs)) ≡ None →
      b ≡ p (i, get_or read i d) → b ≡ false → find p (take (i + 1) (enumerate_from 0 xs)) ≡ None
  numbered_more i d b h before answer is =
      rw add-one (find_more p (enumerate_from 0 xs) i (i, d) (omega (arith, length-enumerate_from 0 xs, ap length same)) before (ap p (numbered i d h) ∙ sym answer ∙ is))

  pub numbered_here : (i : ℕ) (d : X) (b : Bool) → i < length read → find p (take i (enumerate_from 0 xs)) ≡ None →
      b ≡ p (i, get_or read i d) → b ≡ true → Some i ≡ option_map (λ x. x.0) (find p (enumerate_from 0 xs))
  numbered_here i d b h before answer is =
      let here : find p (enumerate_from 0 xs) ≡ Some (get_or (enumerate_from 0 xs) i (i, d)) =
      find_here p (enumerate_from 0 xs) i (i, d) (omega (arith, length-enumerate_from 0 xs, ap length same)) before (ap p (numbered i d h) ∙ sym answer ∙ is)
      in
      sym (ap (option_map (λ x. x.0)) (here ∙ ap Some (numbered i d h)))

  pub numbered_all : (n : ℕ) → length read ≤ n → find p (take n (enumerate_from 0 xs)) ≡ None → None ≡ option_map (λ x. x.0) (find p (enumerate_from 0 xs))
  numbered_all n h before =
      let whole : take n (enumerate_from 0 xs) ≡ enumerate_from 0 xs = take_all n (enumerate_from 0 xs) (omega (arith, length-enumerate_from 0 xs, ap length same)) in
      sym (ap (option_map (λ x. x.0)) (ap (find p) (sym whole) ∙ before))
