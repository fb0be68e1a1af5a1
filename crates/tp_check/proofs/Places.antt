-- Where the instructions of a code stand.
use Rattle.std.proofs.Common.{◌≡◌, ℕ, zero, suc, ◌+◌, ◌-◌, ◌<◌, ◌≤◌, nat_eq, nat_lt, if◌then◌else◌, Bool, true, false, List, [], ◌∷◌, length, slice_get, Option, Some, None, refl, sym, ap, ◌∙◌, arith}
use Rattle.std.specs.Option.{is_some, option_and_then, option_map}
use Rattle.std.specs.List.{AllByRecursion}
use Rattle.std.proofs.lemmas.Bool.Decides.{nat_tests}
use Rattle.tp_decode.specs.declared.placed.Placed.{Placed}
use Rattle.tp_decode.specs.Cutting.{Cut, cut_at, starts_from, placed_from, index_from}
use Rattle.tp_decode.proofs.NumberLemmas.{placed, place_by_number}
use Rattle.tp_flow.specs.RowRules.{is_start}
use Rattle.tp_flow.proofs.FlowSpelled.{cut_at_its_start}
use Rattle.std.proofs.lemmas.Option.{same_Some}

last_later : (x y : ℕ) (ys : List ℕ) → slice_get (x ∷ y ∷ ys) (length (x ∷ y ∷ ys) - 1) ≡ slice_get (y ∷ ys) (length (y ∷ ys) - 1)
last_later x y ys = let later : suc (suc (length ys)) - 1 ≡ suc (suc (length ys) - 1) = omega arith in ap (slice_get (x ∷ y ∷ ys)) later

-- no instruction starts behind the last one
pub last_above : (from : ℕ) (cuts : List Cut) (to last : ℕ) → Some last ≡ slice_get (starts_from from cuts) (length (starts_from from cuts) - 1) → is_start cuts to ≡ true → from + to ≤ last
last_above from [] to last is starts = absurd cc
last_above from (c ∷ []) to last is starts = by_test (nat_eq to 0) refl (nat_lt to (length c.bytes)) starts
  where
    by_test : (p : Bool) → nat_eq to 0 ≡ p → (q : Bool) → is_some (if p then Some c else if q then None else None) ≡ true → from + to ≤ last
    by_test true e q starts =
        let none : to ≡ 0 = grind (arith, nat_tests) in
        let same : last ≡ from = cc in omega (arith, none, same)
    by_test false e true starts = absurd cc
    by_test false e false starts = absurd cc
last_above from (c ∷ d ∷ cuts) to last is starts = by_test
    (λ x. last_above (from + length c.bytes) (d ∷ cuts) x last
    (is ∙ last_later from (from + length c.bytes) (starts_from (from + length c.bytes + length d.bytes) cuts)))
    (nat_eq to 0) refl (nat_lt to (length c.bytes)) refl starts
  where
    by_test : ((x : ℕ) → is_start (d ∷ cuts) x ≡ true → from + length c.bytes + x ≤ last) → (p : Bool) →
        nat_eq to 0 ≡ p → (q : Bool) → nat_lt to (length c.bytes) ≡ q →
        is_some (if p then Some c else if q then None else cut_at (d ∷ cuts) (to - length c.bytes)) ≡ true →
        from + to ≤ last
    by_test behind true e q f starts =
        let none : to ≡ 0 = grind (arith, nat_tests) in
        omega (arith, none, behind 0 refl)
    by_test behind false e true f starts = absurd cc
    by_test behind false e false f starts =
        let past : length c.bytes ≤ to = grind (arith, nat_tests) in
        omega (arith, past, behind (to - length c.bytes) starts)

-- where none is the last, none starts
pub no_last : (from : ℕ) (cuts : List Cut) (to : ℕ) → None ≡ slice_get (starts_from from cuts) (length (starts_from from cuts) - 1) → is_start cuts to ≡ true → ⊥
no_last from [] to is starts = cc
no_last from (c ∷ []) to is starts = cc
no_last from (c ∷ d ∷ cuts) to is starts = no_last (from + length c.bytes) (d ∷ cuts) 0 (is ∙ last_later from (from + length c.bytes) (starts_from (from + length c.bytes + length d.bytes) cuts)) refl

-- instruction i stands at its start
pub record IsPlacedAt (from : ℕ) (cuts : List Cut) (i : ℕ) (p : Placed) : Type 0 where
  pub cut : Cut
  pub is_cut : slice_get cuts i ≡ Some cut
  pub starts : slice_get (starts_from from cuts) i ≡ Some p.at
  pub is : p ≡ placed p.at cut

pub place_is : (from : ℕ) (cuts : List Cut) (i : ℕ) (p : Placed) → slice_get (placed_from from cuts) i ≡ Some p → IsPlacedAt from cuts i p
place_is from [] i p is = absurd cc
place_is from (c ∷ cuts) zero p is =
    let same : placed from c ≡ p = same_Some _ _ is in
    record { cut = c; is_cut = refl; starts = ap (λ q. Some q.at) same; is = sym same ∙ ap (λ q. placed q.at c) same }
place_is from (c ∷ cuts) (suc i) p is =
    let later = place_is (from + length c.bytes) cuts i p is in
    record { cut = later.cut; is_cut = later.is_cut; starts = later.starts; is = later.is }

-- an instruction in its place, by its address
pub record IsInItsPlace (cuts : List Cut) (p : Placed) : Type 0 where
  pub cut : Cut
  pub there : cut_at cuts p.at ≡ Some cut
  pub is : p ≡ placed p.at cut

pub stands_at : (cuts : List Cut) (i : ℕ) (p : Placed) → AllByRecursion (λ c. 0 < length c.bytes) cuts → slice_get (placed_from 0 cuts) i ≡ Some p → IsInItsPlace cuts p
stands_at cuts i p spelled is =
    let place = place_is 0 cuts i p is in
    record { cut = place.cut; there = cut_at_its_start cuts i p.at spelled place.starts ∙ place.is_cut; is = place.is }

-- and by its number
pub number_of : (cuts : List Cut) (at : ℕ) (cut : Cut) → cut_at cuts at ≡ Some cut → (i : ℕ) × (slice_get (placed_from 0 cuts) i ≡ Some (placed at cut))
number_of cuts at cut is = by_number (index_from 0 cuts at) (place_by_number cuts at ∙ ap (option_map (placed at)) is)
  where
    by_number : (o : Option ℕ) → option_and_then (slice_get (placed_from 0 cuts)) o ≡ Some (placed at cut) → (i : ℕ) × (slice_get (placed_from 0 cuts) i ≡ Some (placed at cut))
    by_number None e = absurd cc
    by_number (Some i) e = (i, e)

-- ---- one behind another

pub place_from : (from : ℕ) (cuts : List Cut) (i : ℕ) (p : Placed) → slice_get (placed_from from cuts) i ≡ Some p → from ≤ p.at
place_from from [] i p is = absurd cc
place_from from (c ∷ cuts) zero p is = let same = ap (λ q. q.at) (same_Some (placed from c) p is) in omega (arith, same)
place_from from (c ∷ cuts) (suc i) p is = let later = place_from (from + length c.bytes) cuts i p is in omega (arith, later)

-- a later instruction stands at a higher address
pub places_rise : (from : ℕ) (cuts : List Cut) (j i : ℕ) (q p : Placed) →
    AllByRecursion (λ c. 0 < length c.bytes) cuts → j < i → slice_get (placed_from from cuts) j ≡ Some q →
    slice_get (placed_from from cuts) i ≡ Some p → q.at < p.at
places_rise from [] j i q p spelled lt there is = absurd cc
places_rise from (c ∷ cuts) j zero q p spelled lt there is = absurd (omega (arith, lt))
places_rise from (c ∷ cuts) zero (suc i) q p spelled lt there is =
    let same = ap (λ q. q.at) (same_Some (placed from c) q there) in
    let later = place_from (from + length c.bytes) cuts i p is in
    let some = spelled.0 in
    omega (arith, same, later, some)
places_rise from (c ∷ cuts) (suc j) (suc i) q p spelled lt there is = places_rise (from + length c.bytes) cuts j i q p spelled.1 (omega (arith, lt)) there is
