use Rattle.std.proofs.Common.{◌≡◌, Bool, true, false, Result, Ok, Err, List, sym, subst, nat_lt}
use Rattle.std.specs.Prelude.{if◌then◌else◌}
use Rattle.tp_image.specs.Image.{ImageValue}
use Rattle.tp_image.proofs.Bodies.{first_fault-text}
use Rattle.tp_image.proofs.Unique.{one_image}
use Rattle.tp_decode.specs.Cutting.{Cut, cutting}
use Rattle.tp_decode.proofs.Verdicts.{is_cutting}
use Rattle.tp_flow.proofs.FlowExact.{nest_passes}
use Rattle.tp_state.specs.declared.fault.StateFault.{StateFault}
use Rattle.tp_state.specs.declared.fault.StateFault.TheVariants as state_fault
use Rattle.tp_check.specs.Tables.{Table}
use Rattle.tp_accept.specs.Limits.{most_budget}
use Rattle.tp_accept.specs.Bound.{bound}
use Rattle.tp_accept.specs.Refusals.{too_long}
use Rattle.tp_accept.specs.Verdict.{allowed, answer_on, IsTextAnswer, IsCutAnswer, IsFlowAnswer}
use Rattle.tpw_occam.specs.Refusing.{IsOfStatesOrBudget}
use Rattle.tpw_occam.proofs.laws.refused_for_states_or_budget_alone.Goals as goal

-- what the passes and the bound answer
of_verdict : (image : ImageValue) (cuts : List Cut) (verdict : Result Table StateFault) → IsOfStatesOrBudget (answer_on image cuts verdict)
of_verdict image cuts (Err (state_fault.Refused code place)) = tt
of_verdict image cuts (Err state_fault.Memory) = tt
of_verdict image cuts (Ok table) = by_bound (nat_lt most_budget (bound image.loops cuts))
  where
    by_bound : (b : Bool) → IsOfStatesOrBudget (if b then Err too_long else Ok (allowed image (bound image.loops cuts)))
    by_bound true = tt
    by_bound false = tt

pub returns : goal.returns
returns c program image text answer ruled is spelled judged =
    let rules = ruled image is in
    let read = subst (λ f. IsTextAnswer f text answer) (first_fault-text text image spelled) judged in
    let same : read.image ≡ image = one_image text read.image image read.spelled spelled in
    let cut = subst (λ (i : ImageValue). IsCutAnswer (cutting i.code) i answer) same read.answers in
    let flow = subst (λ r. IsCutAnswer r image answer) (is_cutting image.code rules.cuts rules.cutting) cut in
    let state = subst (λ f. IsFlowAnswer f image rules.cuts answer) (nest_passes image rules.cuts rules.cutting rules.nest) flow in
    subst IsOfStatesOrBudget (sym state.answers) (of_verdict image rules.cuts state.verdict)
