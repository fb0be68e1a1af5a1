-- Sums of numbers at the same places.
use Rattle.std.proofs.Common.{◌≡◌, ℕ, zero, suc, ◌+◌, ◌<◌, ◌≤◌, List, [], ◌∷◌, ◌++◌, length, get_or, set, take, drop, refl, ap, sym, ◌∙◌, arith, add-one}
use Rattle.std.specs.List.{sum_by}
use Rattle.std.proofs.lemmas.List.Sums.{sum_by-cons, get_or-le-sum_by}
use Rattle.tpw_step.specs.Profiles.{sums}

-- what is at a place before its number is added
pub as_before : (xs ys : List ℕ) (i d : ℕ) → i < length xs → i < length ys
    → get_or (sums (take i xs) (take i ys) ++ drop i xs) i d ≡ get_or xs i d
as_before [] ys i d some there = absurd (omega (arith, some))
as_before (x ∷ xs) [] i d some there = absurd (omega (arith, there))
as_before (x ∷ xs) (y ∷ ys) zero d some there = refl
as_before (x ∷ xs) (y ∷ ys) (suc i) d some there = as_before xs ys i d (omega (arith, some)) (omega (arith, there))

one_at : (xs ys : List ℕ) (i d e : ℕ) → i < length xs → i < length ys
    → set (sums (take i xs) (take i ys) ++ drop i xs) i (get_or xs i d + get_or ys i e)
    ≡ sums (take (suc i) xs) (take (suc i) ys) ++ drop (suc i) xs
one_at [] ys i d e some there = absurd (omega (arith, some))
one_at (x ∷ xs) [] i d e some there = absurd (omega (arith, there))
one_at (x ∷ xs) (y ∷ ys) zero d e some there = refl
one_at (x ∷ xs) (y ∷ ys) (suc i) d e some there =
    ap (λ l. (x + y) ∷ l) (one_at xs ys i d e (omega (arith, some)) (omega (arith, there)))

pub one_more : (xs ys : List ℕ) (i d e : ℕ) → i < length xs → i < length ys
    → set (sums (take i xs) (take i ys) ++ drop i xs) i (get_or xs i d + get_or ys i e)
    ≡ sums (take (i + 1) xs) (take (i + 1) ys) ++ drop (i + 1) xs
one_more xs ys i d e some there =
    one_at xs ys i d e some there ∙ ap (λ n. sums (take n xs) (take n ys) ++ drop n xs) (sym (add-one i))

pub all_added : (xs ys : List ℕ) → length ys ≡ length xs → sums (take (length xs) xs) (take (length xs) ys) ++ drop (length xs) xs ≡ sums xs ys
all_added [] ys same = refl
all_added (x ∷ xs) [] same = absurd (omega (arith, same))
all_added (x ∷ xs) (y ∷ ys) same = ap (λ l. (x + y) ∷ l) (all_added xs ys (omega (arith, same)))

pub long_sums : (xs ys : List ℕ) → length ys ≡ length xs → length (sums xs ys) ≡ length xs
long_sums [] ys same = refl
long_sums (x ∷ xs) [] same = absurd (omega (arith, same))
long_sums (x ∷ xs) (y ∷ ys) same = ap suc (long_sums xs ys (omega (arith, same)))

-- the sum of the sums is the sum of both
pub sum_sums : (xs ys : List ℕ) → length ys ≡ length xs
    → sum_by (λ (c : ℕ). c) (sums xs ys) ≡ sum_by (λ (c : ℕ). c) xs + sum_by (λ (c : ℕ). c) ys
sum_sums [] [] same = refl
sum_sums [] (y ∷ ys) same = absurd (omega (arith, same))
sum_sums (x ∷ xs) [] same = absurd (omega (arith, same))
sum_sums (x ∷ xs) (y ∷ ys) same =
    let rest = sum_sums xs ys (omega (arith, same)) in
    omega (arith, sum_by-cons (λ (c : ℕ). c) (x + y) (sums xs ys), sum_by-cons (λ (c : ℕ). c) x xs, sum_by-cons (λ (c : ℕ). c) y ys, rest)

-- numbers whose sums fit, fit at each place
pub each_fits : (xs ys : List ℕ) (all n : ℕ) → sum_by (λ (c : ℕ). c) xs + sum_by (λ (c : ℕ). c) ys ≡ all → all < n → length ys ≡ length xs
    → (i : ℕ) → i < length xs → get_or xs i 0 + get_or ys i 0 < n
each_fits xs ys all n is fits same i some =
    omega (arith, get_or-le-sum_by (λ (c : ℕ). c) xs i 0 some, get_or-le-sum_by (λ (c : ℕ). c) ys i 0 (omega (arith, some, same)), is, fits)
