-- How often a number stands in a list.
use Rattle.std.proofs.Common.{◌≡◌, ℕ, ◌+◌, ◌<◌, ◌≤◌, List, [], ◌∷◌, ◌++◌, refl, ⊎_elim, arith}
use Rattle.std.proofs.lemmas.Bool.{lt-ltb, le-ltb, eq-eqb, ne_eqb, cases_eq, cases_lt}
use Rattle.tp_board.specs.Counting.{times, once_below}

pub times-append : (x : ℕ) (xs ys : List ℕ) → times x (xs ++ ys) ≡ times x xs + times x ys
times-append x [] ys = omega arith
times-append x (y ∷ xs) ys = let ih = times-append x xs ys in omega arith

pub once_more : (x n : ℕ) → once_below x (n + 1) ≡ once_below x n + times x (n ∷ [])
once_more x n = ⊎_elim
    (λ (e : n ≡ x). rw (lt-ltb x (n + 1) (omega arith), le-ltb x n (omega arith), eq-eqb n x e) refl)
    (λ (e : n ≡ x → ⊥). ⊎_elim
    (λ (l : x < n). rw (lt-ltb x (n + 1) (omega arith), lt-ltb x n l, ne_eqb n x e) refl)
    (λ (l : n ≤ x). let l' : n < x = omega (arith, e) in rw (le-ltb x (n + 1) (omega arith), le-ltb x n l, ne_eqb n x e) refl)
    (cases_lt x n))
    (cases_eq n x)

pub none_below : (x : ℕ) → once_below x 0 ≡ 0
none_below x = rw (le-ltb x 0 (omega arith)) refl
