-- Counts that are added to.
use Rattle.std.proofs.Common.{◌≡◌, ℕ, ◌+◌, ◌<◌, List, length, get_or, set, slice_get, Some, sym, ◌∙◌, arith}
use Rattle.std.specs.List.{sum_by}
use Rattle.std.proofs.lemmas.List.Sums.{sum_by-set}
use Rattle.std.proofs.lemmas.Option.{slice_get-get_or, same_Some}

-- a sum goes up by as much as one of its counts does
pub counted_more : (items : List ℕ) (at count more steps all n : ℕ) → at < length items →
    slice_get items at ≡ Some count → more ≡ count + n → all ≡ steps + n → sum_by (λ (c : ℕ). c) items ≡ steps →
    sum_by (λ (c : ℕ). c) (set items at more) ≡ all
counted_more items at count more steps all n within there is sum adds =
    let got : get_or items at 0 ≡ count = same_Some _ _ (sym (slice_get-get_or items at 0 within) ∙ there) in
    omega (arith, sum_by-set (λ (c : ℕ). c) items at more 0 within, got, is, sum, adds)
