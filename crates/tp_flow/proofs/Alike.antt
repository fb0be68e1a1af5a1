-- Addresses that lie in the same loops, and instructions by their numbers.
use Rattle.std.proofs.Common.{◌≡◌, ℕ, ◌+◌, ◌-◌, ◌<◌, ◌≤◌, Bool, true, false, ◌&&◌, ◌||◌, not, ◌==◌, nat_eq, nat_lt}
use Rattle.std.proofs.Common.{if◌then◌else◌, List, [], ◌∷◌, length, get_or, Some, None, refl, ap, sym, ◌∙◌, subst}
use Rattle.std.proofs.Common.{arith}
use Rattle.std.specs.Option.{is_some}
use Rattle.std.proofs.lemmas.Bool.Decides.{nat_tests}
use Rattle.std.proofs.lemmas.List.{get_or_default}
use Rattle.std.proofs.lemmas.List.Folds.{list_any_none}
use Rattle.tp_decode.specs.Cutting.{Cut, cut_at, index_from}
use Rattle.tp_flow.specs.declared.range.LoopRange.{LoopRange}
use Rattle.tp_flow.specs.NestRanges.{contains}
use Rattle.tp_flow.specs.RowRules.{is_start}
use Rattle.tp_flow.specs.JumpRules.{leaves, enters_inside, breaks_the_nest}
use Rattle.tp_flow.specs.Stretches.{IsStretch}

-- an address has a number where an instruction starts there
pub number_starts : (i : ℕ) (cuts : List Cut) (at : ℕ) → is_some (index_from i cuts at) ≡ is_start cuts at
number_starts i [] at = refl
number_starts i (c ∷ cuts) at = by_test (number_starts (i + 1) cuts (at - length c.bytes)) (nat_eq at 0) (nat_lt at (length c.bytes))
  where
    by_test : is_some (index_from (i + 1) cuts (at - length c.bytes)) ≡ is_some (cut_at cuts (at - length c.bytes)) → (p q : Bool)
        → is_some (if p then Some i else if q then None else index_from (i + 1) cuts (at - length c.bytes)) ≡ is_some (if p then Some c else if q then None else cut_at cuts (at - length c.bytes))
    by_test go true q = refl
    by_test go false true = refl
    by_test go false false = go

-- between alike addresses no loop is left or entered
pub alike_keeps : (nest : List LoopRange) (first last at to : ℕ) → IsStretch nest first last → first ≤ at → at ≤ to → to ≤ last → breaks_the_nest nest at (Some to) ≡ false
alike_keeps nest first last at to alike ge le low =
    list_any_none (λ range. leaves at to range || enters_inside at to range) nest λ k d within.
    neither (contains (get_or nest k d) at) (contains (get_or nest k d) to) (not (to == (get_or nest k d).head)) (sym (alike at ge (omega arith) k d within) ∙ alike to (omega arith) low k d within)
  where
    neither : (a t h : Bool) → a ≡ t → ((a && not t) || (not a && t && h)) ≡ false
    neither true true h e = refl
    neither false false h e = refl
    neither true false h e = cc
    neither false true h e = cc

-- what holds of each element before one and of that one, which is read from a list that is the same
pub each_more : {X : Type 0} (P : X → Type 0) (read xs : List X) → read ≡ xs → (i : ℕ) → i < length read →
    ((k : ℕ) (d : X) → k < i → P (get_or xs k d)) → (x : X) → P (get_or read i x) → (k : ℕ) (d : X) → k < i + 1 →
    P (get_or xs k d)
each_more P read xs is i within before x here k d lt = by_place (nat_lt k i) refl
  where
    by_place : (b : Bool) → nat_lt k i ≡ b → P (get_or xs k d)
    by_place true e = before k d (grind (arith, nat_tests))
    by_place false e =
        let same : i ≡ k = grind (arith, nat_tests) in
        subst P (get_or_default read i x d within ∙ ap (λ ys. get_or ys i d) is ∙ ap (λ j. get_or xs j d) same) here
