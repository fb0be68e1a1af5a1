-- A list by its elements.
use Rattle.std.proofs.Common.{◌≡◌, ℕ, zero, suc, ◌+◌, ◌<◌, ◌≤◌, List, [], ◌∷◌, ◌++◌, length, get_or, drop, ap, ◌∙◌, arith}
use Rattle.std.proofs.lemmas.List.{drop_all, append-nil}
use Rattle.std.proofs.Math.Seq.{drop-cons}

-- k elements from the i-th on
abbrev pub cells : ℕ → ℕ → List ℕ → List ℕ
cells i zero xs = []
cells i (suc k) xs = get_or xs i 0 ∷ cells (suc i) k xs

pub drop-cells : (k i : ℕ) (xs : List ℕ) → i + k ≤ length xs → drop i xs ≡ cells i k xs ++ drop (i + k) xs
drop-cells zero i xs long = ap (λ (j : ℕ). drop j xs) (let e : i ≡ i + 0 = omega arith in e)
drop-cells (suc k) i xs long =
    let lt : i < length xs = omega arith in
    let e : suc i + k ≡ i + suc k = omega arith in
    drop-cons xs i 0 lt ∙ ap (λ (ys : List ℕ). get_or xs i 0 ∷ ys) (drop-cells k (suc i) xs (omega arith) ∙ ap (λ (j : ℕ). cells (suc i) k xs ++ drop j xs) e)

-- a list of k elements
pub all_cells : (k : ℕ) (xs : List ℕ) → length xs ≡ k → xs ≡ cells 0 k xs
all_cells k xs long =
    drop-cells k 0 xs (omega arith) ∙ ap (λ (ys : List ℕ). cells 0 k xs ++ ys) (drop_all (0 + k) xs (omega arith)) ∙ append-nil (cells 0 k xs)
