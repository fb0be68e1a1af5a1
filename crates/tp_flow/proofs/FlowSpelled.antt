-- No instruction is spelled by no bytes, and instructions stand one behind the other.
use Rattle.std.proofs.Common.{◌≡◌, ℕ, zero, suc, ◌+◌, ◌-◌, ◌<◌, ◌≤◌, Bool, true, false, nat_eq, nat_lt, if◌then◌else◌, List, [], ◌∷◌, length, slice_get, Some, None, refl, ap, ◌∙◌, subst, arith}
use Rattle.std.specs.List.{AllByRecursion}
use Rattle.std.proofs.lemmas.Bool.Decides.{nat_tests}
use Rattle.std.proofs.lemmas.Option.{same_Some}
use Rattle.tp_decode.specs.Cutting.{Cut, IsSpelled, starts_from, cut_at}
use Rattle.tp_decode.proofs.DecodingLemmas.{spelled_some}

pub each_some : (cuts : List Cut) → AllByRecursion IsSpelled cuts → AllByRecursion (λ c. 0 < length c.bytes) cuts
each_some [] all = tt
each_some (cut ∷ cuts) all = (spelled_some cut all.0, each_some cuts all.1)

-- the instruction at an address
pub some_bytes : (cuts : List Cut) (at : ℕ) (cut : Cut) → AllByRecursion (λ c. 0 < length c.bytes) cuts → cut_at cuts at ≡ Some cut → 0 < length cut.bytes
some_bytes [] at cut all is = absurd cc
some_bytes (c ∷ cuts) at cut all is = by_test (some_bytes cuts (at - length c.bytes) cut all.1) (nat_eq at 0) (nat_lt at (length c.bytes)) is
  where
    by_test : (cut_at cuts (at - length c.bytes) ≡ Some cut → 0 < length cut.bytes) → (p q : Bool) →
        (if p then Some c else if q then None else cut_at cuts (at - length c.bytes)) ≡ Some cut → 0 < length cut.bytes
    by_test go true q is = subst (λ x. 0 < length x.bytes) (same_Some _ _ is) all.0
    by_test go false true is = absurd cc
    by_test go false false is = go is

-- as many start as there are
pub length_starts : (from : ℕ) (cuts : List Cut) → length (starts_from from cuts) ≡ length cuts
length_starts from [] = refl
length_starts from (cut ∷ cuts) = ap suc (length_starts (from + length cut.bytes) cuts)

-- none starts before the first
start_least : (from : ℕ) (cuts : List Cut) (i at : ℕ) → slice_get (starts_from from cuts) i ≡ Some at → from ≤ at
start_least from [] i at is = absurd cc
start_least from (c ∷ cuts) zero at is = let same = same_Some _ _ is in omega arith
start_least from (c ∷ cuts) (suc i) at is = omega (arith, start_least (from + length c.bytes) cuts i at is)

-- the instruction at the i-th start is the i-th
pub cut_at_start : (from : ℕ) (cuts : List Cut) (i at : ℕ) → AllByRecursion (λ c. 0 < length c.bytes) cuts → slice_get (starts_from from cuts) i ≡ Some at → cut_at cuts (at - from) ≡ slice_get cuts i
cut_at_start from [] i at all is = absurd cc
cut_at_start from (c ∷ cuts) zero at all is =
    let same = same_Some _ _ is in let none : at - from ≡ 0 = omega arith in ap (cut_at (c ∷ cuts)) none
cut_at_start from (c ∷ cuts) (suc i) at all is = by_test (cut_at_start (from + length c.bytes) cuts i at all.1 is) (nat_eq (at - from) 0) refl (nat_lt (at - from) (length c.bytes)) refl
  where
    past : from + length c.bytes ≤ at
    past = start_least (from + length c.bytes) cuts i at is

    some : 0 < length c.bytes
    some = all.0

    by_test : cut_at cuts (at - (from + length c.bytes)) ≡ slice_get cuts i → (p : Bool) → nat_eq (at - from) 0 ≡ p →
        (q : Bool) → nat_lt (at - from) (length c.bytes) ≡ q →
        (if p then Some c else if q then None else cut_at cuts (at - from - length c.bytes)) ≡ slice_get cuts i
    by_test go true e q f = let none : at - from ≡ 0 = grind (arith, nat_tests) in absurd (omega (arith, past, some))
    by_test go false e true f = let low : at - from < length c.bytes = grind (arith, nat_tests) in absurd (omega (arith, past))
    by_test go false e false f =
        let there : at - from - length c.bytes ≡ at - (from + length c.bytes) = omega (arith, past) in ap (cut_at cuts) there ∙ go

-- the same from address 0
pub cut_at_its_start : (cuts : List Cut) (i at : ℕ) → AllByRecursion (λ c. 0 < length c.bytes) cuts → slice_get (starts_from 0 cuts) i ≡ Some at → cut_at cuts at ≡ slice_get cuts i
cut_at_its_start cuts i at all is = let same : at ≡ at - 0 = omega arith in ap (cut_at cuts) same ∙ cut_at_start 0 cuts i at all is
