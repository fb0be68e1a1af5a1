-- Values that are compared, one after another.
use Rattle.std.proofs.Common.{◌≡◌, ◌⊎◌, inl, inr, ℕ, ◌+◌, ◌^◌, ◌<◌, ◌≤◌, ◌==◌, Bool, true, false, not, ◌||◌, List, get_or, bit_or, refl, sym, ap, ◌∙◌, arith}
use Rattle.std.proofs.lemmas.Bool.{cases_eq}
use Rattle.std.proofs.lemmas.Bool.Decides.{nat_tests}
use Rattle.tp_state.specs.Planes.{is_set}
use Rattle.tp_state.proofs.PlaneBits.{set-or, set_one_same, set_one_other}

-- the bits below j are those of the values that differ, and no others are set
abbrev pub Differ : List ℕ → List ℕ → (bits j : ℕ) → Type 0
Differ values others bits j = record {
  told : (k : ℕ) → k < j → is_set bits k ≡ not (get_or values k 0 == get_or others k 0);
  others : (k : ℕ) → j ≤ k → is_set bits k ≡ false;
}

pub alike_more : (values others : List ℕ) (bits j : ℕ) → Differ values others bits j → get_or values j 0 ≡ get_or others j 0 → Differ values others bits (j + 1)
alike_more values others bits j h same = record { told = λ k lt. told k lt (cases_eq k j); others = λ k ge. h.others k (omega (arith, ge)) }
  where
    told : (k : ℕ) → k < j + 1 → (k ≡ j) ⊎ (k ≡ j → ⊥) → is_set bits k ≡ not (get_or values k 0 == get_or others k 0)
    told k lt (inl here) =
        let at : get_or values k 0 ≡ get_or others k 0 = rw here same in
        let alike : not (get_or values k 0 == get_or others k 0) ≡ false = grind (arith, nat_tests) in
        h.others k (omega (arith, here)) ∙ sym alike
    told k lt (inr other) = h.told k (omega (arith, lt, other))

or_one_same : (bits j : ℕ) → is_set (bit_or bits (2 ^ j)) j ≡ true
or_one_same bits j = set-or bits (2 ^ j) j ∙ ap (λ t. is_set bits j || t) (set_one_same j) ∙ always (is_set bits j)
  where
    always : (b : Bool) → (b || true) ≡ true
    always true = refl
    always false = refl

or_one_other : (bits j k : ℕ) → (k ≡ j → ⊥) → is_set (bit_or bits (2 ^ j)) k ≡ is_set bits k
or_one_other bits j k other = set-or bits (2 ^ j) k ∙ ap (λ t. is_set bits k || t) (set_one_other j k other) ∙ as_it_was (is_set bits k)
  where
    as_it_was : (b : Bool) → (b || false) ≡ b
    as_it_was true = refl
    as_it_was false = refl

pub differ_more : (values others : List ℕ) (bits j : ℕ) → Differ values others bits j → (get_or values j 0 ≡ get_or others j 0 → ⊥) → Differ values others (bit_or bits (2 ^ j)) (j + 1)
differ_more values others bits j h apart = record {
  told = λ k lt. told k lt (cases_eq k j);
  others = λ k ge. or_one_other bits j k (λ e. absurd (omega (arith, ge, e))) ∙ h.others k (omega (arith, ge));
}
  where
    told : (k : ℕ) → k < j + 1 → (k ≡ j) ⊎ (k ≡ j → ⊥) → is_set (bit_or bits (2 ^ j)) k ≡ not (get_or values k 0 == get_or others k 0)
    told k lt (inl here) =
        let at : get_or values k 0 ≡ get_or others k 0 → ⊥ = rw here apart in
        let differ : not (get_or values k 0 == get_or others k 0) ≡ true = grind (arith, nat_tests) in
        ap (λ i. is_set (bit_or bits (2 ^ j)) i) here ∙ or_one_same bits j ∙ sym differ
    told k lt (inr other) = or_one_other bits j k other ∙ h.told k (omega (arith, lt, other))
