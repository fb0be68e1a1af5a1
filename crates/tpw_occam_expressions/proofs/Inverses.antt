-- Inverses of comparisons.
use Rattle.std.proofs.Common.{◌≡◌, ◌⊎◌, inl, inr, ◌+◌, ◌-◌, ◌%◌, ◌^◌, ◌<◌, ◌≤◌, ℕ, ℤ, pos, ◌+ℤ◌, ◌-ℤ◌, Bool, true, false, refl, ap, sym, ◌∙◌, arith, w32}
use Rattle.std.specs.Prelude.{not, int_lt, ◌==◌, ◌≢◌}
use Rattle.std.proofs.lemmas.Int.{ints, to_z_pos}
use Rattle.std.proofs.lemmas.Bool.{cases_lt}
use Rattle.tp_words.specs.Words.{signed}
use Rattle.tp_words.specs.Numbers.{truth}
use Rattle.tpw_occam_symbolic.proofs.Words.{signed_high}

pub not_truth : (t : Bool) → truth (truth t == 0) ≡ truth (not t)
not_truth true = refl
not_truth false = refl

-- the next number of a word
signed_next : (c : ℕ) → c < 2 ^ 32 → c ≢ 2 ^ 31 - 1 → signed ((c + 1) % 2 ^ 32) ≡ signed c +ℤ pos 1
signed_next c h less = by_sign (cases_lt c (2 ^ 31))
  where
    by_top : (2 ^ 31 ≤ c) → (c + 1 < 2 ^ 32) ⊎ (2 ^ 32 ≤ c + 1) → signed ((c + 1) % 2 ^ 32) ≡ signed c +ℤ pos 1
    by_top high (inl below) =
        let same : (c + 1) % 2 ^ 32 ≡ c + 1 = omega arith in
        ap signed same ∙ signed_high (c + 1) (omega arith) ∙ omega (arith, ints) ∙ ap (λ z. z +ℤ pos 1) (sym (signed_high c high))
    by_top high (inr top) =
        let last : c ≡ 2 ^ 32 - 1 = omega arith in
        rw last (omega (arith, ints))

    by_sign : (c < 2 ^ 31) ⊎ (2 ^ 31 ≤ c) → signed ((c + 1) % 2 ^ 32) ≡ signed c +ℤ pos 1
    by_sign (inl low) =
        let same : (c + 1) % 2 ^ 32 ≡ c + 1 = omega arith in
        ap signed same ∙ to_z_pos w32 (c + 1) (omega (arith, less)) ∙ omega (arith, ints) ∙ ap (λ z. z +ℤ pos 1) (sym (to_z_pos w32 c low))
    by_sign (inr high) = by_top high (cases_lt (c + 1) (2 ^ 32))

-- .. and the one before it
signed_before : (c : ℕ) → c < 2 ^ 32 → c ≢ 2 ^ 31 → signed ((c + (2 ^ 32 - 1)) % 2 ^ 32) ≡ signed c -ℤ pos 1
signed_before c h more = by_zero (cases_lt 0 c)
  where
    by_sign : (0 < c) → (c < 2 ^ 31) ⊎ (2 ^ 31 ≤ c) → signed ((c + (2 ^ 32 - 1)) % 2 ^ 32) ≡ signed c -ℤ pos 1
    by_sign some (inl low) =
        let same : (c + (2 ^ 32 - 1)) % 2 ^ 32 ≡ c - 1 = omega arith in
        ap signed same ∙ to_z_pos w32 (c - 1) (omega arith) ∙ omega (arith, ints) ∙ ap (λ z. z -ℤ pos 1) (sym (to_z_pos w32 c low))
    by_sign some (inr high) =
        let same : (c + (2 ^ 32 - 1)) % 2 ^ 32 ≡ c - 1 = omega arith in
        ap signed same ∙ signed_high (c - 1) (omega (arith, more)) ∙ omega (arith, ints) ∙ ap (λ z. z -ℤ pos 1) (sym (signed_high c high))

    by_zero : (0 < c) ⊎ (c ≤ 0) → signed ((c + (2 ^ 32 - 1)) % 2 ^ 32) ≡ signed c -ℤ pos 1
    by_zero (inl some) = by_sign some (cases_lt c (2 ^ 31))
    by_zero (inr none) = let is : c ≡ 0 = omega arith in rw is (omega (arith, ints))

below_next : (x y : ℤ) → not (int_lt x y) ≡ int_lt y (x +ℤ pos 1)
below_next x y = grind (arith, ints)

below_before : (x y : ℤ) → not (int_lt x y) ≡ int_lt (y -ℤ pos 1) x
below_before x y = grind (arith, ints)

-- l > c is FALSE where c + 1 > l
pub greater_inverse : (l c next : ℕ) → c < 2 ^ 32 → c ≢ 2 ^ 31 - 1 → next ≡ (c + 1) % 2 ^ 32
    → truth (truth (int_lt (signed c) (signed l)) == 0) ≡ truth (int_lt (signed l) (signed next))
greater_inverse l c next h less is =
    not_truth _ ∙ ap truth (below_next (signed c) (signed l) ∙ ap (λ z. int_lt (signed l) z) (sym (ap signed is ∙ signed_next c h less)))

-- c > r is FALSE where r > c - 1
pub less_inverse : (r c before : ℕ) → c < 2 ^ 32 → c ≢ 2 ^ 31 → before ≡ (c + (2 ^ 32 - 1)) % 2 ^ 32
    → truth (truth (int_lt (signed r) (signed c)) == 0) ≡ truth (int_lt (signed before) (signed r))
less_inverse r c before h more is =
    not_truth _ ∙ ap truth (below_before (signed r) (signed c) ∙ ap (λ z. int_lt z (signed r)) (sym (ap signed is ∙ signed_before c h more)))
