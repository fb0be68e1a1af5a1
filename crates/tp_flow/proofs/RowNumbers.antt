-- The numbers below n that pass a test, one after another.
use Rattle.std.proofs.Common.{◌≡◌, ℕ, suc, ◌+◌, ◌<◌, ◌≤◌, Bool, true, false, List, [], ◌∷◌, ◌++◌, length, take, filter, get_or, cond, refl, ap, ◌∙◌, arith}
use Rattle.std.specs.List.{range_with_len}
use Rattle.std.proofs.lemmas.List.{length-take, take_all, append-nil}
use Rattle.std.proofs.lemmas.List.Elements.{filter_more}
use Rattle.std.proofs.lemmas.List.FromFn.{length-range_with_len, get_or-range_with_len}
use Rattle.std.proofs.lemmas.List.Sums.{length-filter, count_by-le-length, sum_by-cons}
use Rattle.std.specs.Prelude.{count_by}
use Rattle.tp_flow.specs.declared.range.LoopRange.{LoopRange}
use Rattle.tp_flow.specs.NestRanges.{contains}
use Rattle.tp_flow.specs.LoopsAround.{is_around, rows_around}
use Rattle.tp_flow.specs.NestKept.{depth_at}

module _ (p : ℕ → Bool) (n k : ℕ) where
  pub few_pass : length (filter p (take k (range_with_len 0 n))) ≤ k
  few_pass = omega (arith, length-filter p (take k (range_with_len 0 n)), count_by-le-length p (take k (range_with_len 0 n)), length-take k (range_with_len 0 n))

  one_more : k < n → filter p (take (k + 1) (range_with_len 0 n)) ≡ filter p (take k (range_with_len 0 n)) ++ cond (p k) (k ∷ []) []
  one_more lt =
      let there : get_or (range_with_len 0 n) k 0 ≡ k = get_or-range_with_len 0 n k 0 lt ∙ omega arith in
      filter_more p (range_with_len 0 n) k 0 (omega (arith, length-range_with_len 0 n)) ∙ ap (λ x. filter p (take k (range_with_len 0 n)) ++ cond (p x) (x ∷ []) []) there

  pub passes_more : k < n → p k ≡ true → filter p (take (k + 1) (range_with_len 0 n)) ≡ filter p (take k (range_with_len 0 n)) ++ k ∷ []
  passes_more lt is = one_more lt ∙ ap (λ b. filter p (take k (range_with_len 0 n)) ++ cond b (k ∷ []) []) is

  pub fails_more : k < n → p k ≡ false → filter p (take (k + 1) (range_with_len 0 n)) ≡ filter p (take k (range_with_len 0 n))
  fails_more lt is = one_more lt ∙ ap (λ b. filter p (take k (range_with_len 0 n)) ++ cond b (k ∷ []) []) is ∙ append-nil (filter p (take k (range_with_len 0 n)))

  pub all_tested : n ≤ k → filter p (take k (range_with_len 0 n)) ≡ filter p (range_with_len 0 n)
  all_tested le = ap (filter p) (take_all k (range_with_len 0 n) (omega (arith, length-range_with_len 0 n)))

-- as many numbers of loops around an address as there are loops that contain it
count_numbers : (nest : List LoopRange) (at first : ℕ) (p : ℕ → Bool) → ((i : ℕ) → p (first + i) ≡ is_around nest at i) → count_by p (range_with_len first (length nest)) ≡ depth_at nest at
count_numbers [] at first p each = refl
count_numbers (r ∷ nest) at first p each =
    let here : p first ≡ contains r at = ap p (let none : first ≡ first + 0 = omega arith in none) ∙ each 0 in
    let rest = count_numbers nest at (first + 1) p (λ i. ap p (let moved : first + 1 + i ≡ first + suc i = omega arith in moved) ∙ each (suc i)) in
    omega (
      arith,
      sum_by-cons (λ i. cond {A = ℕ} (p i) 1 0) first (range_with_len (first + 1) (length nest)),
      sum_by-cons (λ range. cond {A = ℕ} (contains range at) 1 0) r nest,
      ap {B = ℕ} (λ b. cond b 1 0) here,
      rest,
    )

pub length_numbers : (nest : List LoopRange) (at : ℕ) → length (rows_around nest at) ≡ depth_at nest at
length_numbers nest at =
    length-filter (is_around nest at) (range_with_len 0 (length nest)) ∙ count_numbers nest at 0 (is_around nest at) (λ i. ap (is_around nest at) (let same : 0 + i ≡ i = omega arith in same))
