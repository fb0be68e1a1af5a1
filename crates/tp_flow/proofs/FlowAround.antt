-- The loops around an address lie one within the other.
use Rattle.std.proofs.Common.{◌≡◌, ℕ, suc, Bool, true, false, ◌⊎◌, inl, inr, if◌then◌else◌, List, [], ◌∷◌, length, get_or, Contains, None, refl, ap, ◌∙◌, cond, filter}
use Rattle.std.specs.List.{AllByRecursion}
use Rattle.std.proofs.lemmas.List.{get_or_default}
use Rattle.tp_image.specs.Image.{ImageValue}
use Rattle.tp_decode.specs.Cutting.{Cut}
use Rattle.tp_flow.specs.declared.range.LoopRange.{LoopRange}
use Rattle.tp_flow.specs.NestRanges.{ranges, contains, lies_within}
use Rattle.tp_flow.specs.NestKept.{IsNested}
use Rattle.tp_flow.specs.NestAround.{with_loop, loops_around, IsOutermostFirst}
use Rattle.tp_flow.specs.FlowFaults.{first_flow_fault}
use Rattle.tp_flow.proofs.FlowNest.{loops_nested}
use Rattle.tp_flow.proofs.FlowDepth.{all_by_place, meet, within_trans}

all_within : (inner outer : LoopRange) (others : List LoopRange) → lies_within inner outer ≡ true →
    AllByRecursion (λ other. lies_within other inner ≡ true) others →
    AllByRecursion (λ other. lies_within other outer ≡ true) others
all_within inner outer [] is all = tt
all_within inner outer (other ∷ others) is all = (within_trans other inner outer all.0 is, all_within inner outer others is all.1)

all_with : (P : LoopRange → Type 0) (range : LoopRange) (others : List LoopRange) → P range → AllByRecursion P others → AllByRecursion P (with_loop range others)
all_with P range [] here all = (here, tt)
all_with P range (other ∷ others) here all = by_test (all_with P range others here all.1) (lies_within other range)
  where
    by_test : AllByRecursion P (with_loop range others) → (b : Bool) → AllByRecursion P (if b then range ∷ other ∷ others else other ∷ with_loop range others)
    by_test go true = (here, all)
    by_test go false = (all.0, go)

length_with : (range : LoopRange) (others : List LoopRange) → length (with_loop range others) ≡ suc (length others)
length_with range [] = refl
length_with range (other ∷ others) = by_test (length_with range others) (lies_within other range)
  where
    by_test : length (with_loop range others) ≡ suc (length others) → (b : Bool) → length (if b then range ∷ other ∷ others else other ∷ with_loop range others) ≡ suc (suc (length others))
    by_test go true = refl
    by_test go false = ap suc go

-- how many they are
pub length_around : (nest : List LoopRange) (at : ℕ) → length (loops_around nest at) ≡ length (filter (λ range. contains range at) nest)
length_around [] at = refl
length_around (range ∷ nest) at = by_test (length_around nest at) (contains range at)
  where
    by_test : length (loops_around nest at) ≡ length (filter (λ r. contains r at) nest) → (b : Bool) →
        length (if b then with_loop range (loops_around nest at) else loops_around nest at) ≡ length
        (cond b (range ∷ filter (λ r. contains r at) nest) (filter (λ r. contains r at) nest))
    by_test go true = length_with range (loops_around nest at) ∙ ap suc go
    by_test go false = go

module _ (nest : List LoopRange) (at : ℕ) (nested : IsNested nest) where
  with_first : (range : LoopRange) (others : List LoopRange) → Contains nest range × (contains range at ≡ true) →
      AllByRecursion (λ r. Contains nest r × (contains r at ≡ true)) others → IsOutermostFirst others →
      IsOutermostFirst (with_loop range others)
  with_first range [] here all first = (tt, tt)
  with_first range (other ∷ others) here all first = by_test (with_first range others here all.1 first.1) (lies_within other range) refl
    where
      inner : lies_within other range ≡ false → (lies_within range other ≡ true) ⊎ (lies_within other range ≡ true) → lies_within range other ≡ true
      inner e (inl is) = is
      inner e (inr is) = absurd cc

      by_test : IsOutermostFirst (with_loop range others) → (b : Bool) → lies_within other range ≡ b → IsOutermostFirst (if b then range ∷ other ∷ others else other ∷ with_loop range others)
      by_test go true e = ((e, all_within other range others e first.0), first)
      by_test go false e =
          let is = inner e (nested range other here.0 all.0.0 (meet range other at here.1 all.0.1)) in (all_with (λ r. lies_within r other ≡ true) range others is first.0, go)

  around_each : (xs : List LoopRange) → AllByRecursion (Contains nest) xs → AllByRecursion (λ r. Contains nest r × (contains r at ≡ true)) (loops_around xs at) × IsOutermostFirst (loops_around xs at)
  around_each [] all = (tt, tt)
  around_each (x ∷ xs) all = by_test (around_each xs all.1) (contains x at) refl
    where
      by_test : AllByRecursion (λ r. Contains nest r × (contains r at ≡ true)) (loops_around xs at) ×
          IsOutermostFirst (loops_around xs at) → (b : Bool) → contains x at ≡ b →
          AllByRecursion (λ r. Contains nest r × (contains r at ≡ true))
          (if b then with_loop x (loops_around xs at) else loops_around xs at) ×
          IsOutermostFirst (if b then with_loop x (loops_around xs at) else loops_around xs at)
      by_test go true e = (all_with (λ r. Contains nest r × (contains r at ≡ true)) x (loops_around xs at) (all.0, e) go.0, with_first x (loops_around xs at) (all.0, e) go.0 go.1)
      by_test go false e = go

  pub around : AllByRecursion (λ r. Contains nest r × (contains r at ≡ true)) (loops_around nest at) × IsOutermostFirst (loops_around nest at)
  around = around_each nest (all_by_place (Contains nest) nest (λ k d lt. (k, lt, get_or_default nest k (get_or nest k d) d lt)))

-- where no rule is broken
module _ (image : ImageValue) (cuts : List Cut) (at : ℕ) (is : first_flow_fault image cuts ≡ None) where
  pub each_around : AllByRecursion (λ r. Contains (ranges image.loops) r × (contains r at ≡ true)) (loops_around (ranges image.loops) at)
  each_around = (around (ranges image.loops) at (loops_nested image cuts is)).0

  pub outermost_first : IsOutermostFirst (loops_around (ranges image.loops) at)
  outermost_first = (around (ranges image.loops) at (loops_nested image cuts is)).1
