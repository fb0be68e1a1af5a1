-- Finding an instruction by its address.
use Rattle.std.proofs.Common.{◌≡◌, ℕ, zero, suc, ◌+◌, ◌-◌, ◌<◌, ◌≤◌, Bool, true, false, ◌&&◌, nat_eq, nat_lt, if◌then◌else◌, List, [], ◌∷◌, length, get_or, Some, None, refl, ap, ◌∙◌, arith, slice_get}
use Rattle.std.specs.List.{list_all}
use Rattle.std.proofs.lemmas.Bool.Decides.{nat_tests}
use Rattle.tp_decode.specs.Cutting.{Cut, starts_from, cut_at}

-- no spelling is empty
abbrev pub AreSome : List Cut → Type 0
AreSome cuts = list_all (λ cut. nat_lt 0 (length cut.bytes)) cuts ≡ true

pub some_first : (cut : Cut) (cuts : List Cut) → AreSome (cut ∷ cuts) → (0 < length cut.bytes) × AreSome cuts
some_first cut cuts are = by_test (nat_lt 0 (length cut.bytes)) refl are
  where
    by_test : (p : Bool) → nat_lt 0 (length cut.bytes) ≡ p → (p && list_all (λ cut. nat_lt 0 (length cut.bytes)) cuts) ≡ true → (0 < length cut.bytes) × AreSome cuts
    by_test true e are = (grind (arith, nat_tests), are)
    by_test false e are = cc

pub length-starts : (at : ℕ) (cuts : List Cut) → length (starts_from at cuts) ≡ length cuts
length-starts at [] = refl
length-starts at (cut ∷ cuts) = ap suc (length-starts (at + length cut.bytes) cuts)

-- each start is at least the first
pub starts_above : (at : ℕ) (cuts : List Cut) (i : ℕ) → i < length cuts → at ≤ get_or (starts_from at cuts) i 0
starts_above at [] i h = absurd (omega arith)
starts_above at (cut ∷ cuts) zero h = omega arith
starts_above at (cut ∷ cuts) (suc i) h = omega (arith, starts_above (at + length cut.bytes) cuts i (omega arith))

-- an instruction stands where it starts
pub found_at : (first : ℕ) (cuts : List Cut) (i at : ℕ) → AreSome cuts → i < length cuts → get_or (starts_from first cuts) i 0 ≡ first + at → cut_at cuts at ≡ slice_get cuts i
found_at first [] i at are h e = absurd (omega arith)
found_at first (cut ∷ cuts) zero at are h e =
    let here : nat_eq at 0 ≡ true = grind (arith, nat_tests) in rw here refl
found_at first (cut ∷ cuts) (suc i) at are h e =
    let rest = some_first cut cuts are in
    let above = starts_above (first + length cut.bytes) cuts i (omega arith) in
    let not_here : nat_eq at 0 ≡ false = grind (arith, nat_tests) in
    let past : nat_lt at (length cut.bytes) ≡ false = grind (arith, nat_tests) in
    rw (not_here, past) (found_at (first + length cut.bytes) cuts i (at - length cut.bytes) rest.1 (omega arith) (e ∙ omega arith))

-- and nowhere else
pub not_found_at : (first : ℕ) (cuts : List Cut) (at : ℕ) → AreSome cuts → ((i : ℕ) → i < length cuts → get_or (starts_from first cuts) i 0 ≡ first + at → ⊥) → cut_at cuts at ≡ None
not_found_at first [] at are h = refl
not_found_at first (cut ∷ cuts) at are h = by_test (not_found_at (first + length cut.bytes) cuts (at - length cut.bytes)) (nat_eq at 0) refl (nat_lt at (length cut.bytes)) refl
  where
    by_test : (AreSome cuts → ((i : ℕ) → i < length cuts →
        get_or (starts_from (first + length cut.bytes) cuts) i 0 ≡ first + length cut.bytes + (at - length cut.bytes) → ⊥)
        → cut_at cuts (at - length cut.bytes) ≡ None) → (p : Bool) → nat_eq at 0 ≡ p → (q : Bool) →
        nat_lt at (length cut.bytes) ≡ q → (if p then Some cut else if q then None else cut_at cuts
        (at - length cut.bytes)) ≡ None
    by_test go true e q e' = let zero_at : at ≡ 0 = grind (arith, nat_tests) in absurd (h 0 (omega arith) (omega arith))
    by_test go false e true e' = refl
    by_test go false e false e' =
        let past : length cut.bytes ≤ at = grind (arith, nat_tests) in
        go (some_first cut cuts are).1 (λ i lt is. h (suc i) (omega arith) (is ∙ omega arith))
