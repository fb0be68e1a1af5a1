-- What costs by address begin with.
use Rattle.std.proofs.Common.{◌≡◌, ℕ, ◌<◌, true, List, length, get_or, Option, Some, None, is_some, Result, Ok, Err, IfOk}
use Rattle.std.proofs.Common.{refl, ap, sym, subst, ◌∙◌, arith}
use Rattle.std.specs.Option.{option_map}
use Rattle.std.proofs.lemmas.Option.{slice_get-get_or}
use Rattle.tp_image.specs.Image.{ImageValue}
use Rattle.tp_image.specs.declared.image.LoopRow.{LoopRow}
use Rattle.tp_decode.specs.Cutting.{Cut, cut_at}
use Rattle.tp_accept.specs.Bound.{bound, costs_of}
use Rattle.tp_accept.specs.Capped.{counted}
use Rattle.tp_accept.specs.Acceptance.{IsAcceptable}
use Rattle.tp_accept.proofs.LookedUp.{first_starts}
use Rattle.tpw_why.specs.declared.costs.Costs.{Costs}
use Rattle.tpw_why.specs.ByAddress.{cost_at, AreCostsOf, BeginsWithBudget}

-- the cost of the first instruction, where there is one
cost_there : (rows : List LoopRow) (code : List Cut) (at : ℕ) (o : Option Cut) → cut_at code at ≡ o → is_some o ≡ true → cost_at rows code at ≡ Some (counted (costs_of rows code at))
cost_there rows code at None is some = absurd cc
cost_there rows code at (Some cut) is some = ap (option_map (λ (c : Cut). counted (costs_of rows code at))) is

-- the budget is what can be executed from the first instruction on
pub begins_with_budget : (image : ImageValue) (costs : Costs) → IsAcceptable image costs.budget → AreCostsOf image costs → BeginsWithBudget costs
unfolding bound
begins_with_budget image costs may told =
    let rows = image.loops in
    let code = told.cuts in
    let some : 0 < length image.code = omega (arith, may.in_range.code.0) in
    let there : get_or costs.by_address.items 0 None ≡ Some (counted (costs_of rows code 0)) =
    told.by_address.each 0 some ∙ cost_there rows code 0 (cut_at code 0) refl (first_starts image code may.in_range told.cutting) in
    let is : costs.budget ≡ (costs_of rows code 0).whole = told.budget in
    record {
      first = counted (costs_of rows code 0);
      begins = slice_get-get_or costs.by_address.items 0 None (omega (arith, some, told.by_address.long)) ∙ ap Some there;
      whole = omega (arith, is, may.within);
    }

pub begins_if_ok : {E : Type 0} (image : ImageValue) (budget : ℕ) (r : Result Costs E) → IsAcceptable image budget → IfOk r (AreCostsOf image)
    → IfOk r (λ costs. costs.budget ≡ budget) → IfOk r BeginsWithBudget
begins_if_ok image budget (Ok costs) may told same = begins_with_budget image costs (subst (IsAcceptable image) (sym same) may) told
begins_if_ok image budget (Err e) may told same = tt
