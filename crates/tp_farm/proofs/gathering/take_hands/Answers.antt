use Rattle.std.proofs.Common.{◌≡◌, None, arith, sym, ◌∙◌, subst}
use Rattle.std.proofs.lemmas.List.Elements.{All-cons}
use Rattle.std.specs.List.{All}
use Rattle.tp_farm.specs.Gathering.{fault_of_end}
use Rattle.tp_farm.specs.MemberResults.{member_results}
use Rattle.tp_farm.proofs.Filing.{moved}
use Rattle.tp_farm.proofs.Ending.{fault_reason}
use Rattle.tp_farm.proofs.gathering.take_hands.Goals as goal

pub loop-one-preserved : goal.loop-one-preserved
loop-one-preserved g c =
    let was = c.loop-one.invariant in let step = c.in-Some.ensures.steps in
    let well : fault_of_end c.in-Some.one.end ≡ None = sym c.fault_of_end.ensures ∙ c.in_default.is in (
      tt,
      tt,
      omega (arith, was.2, step.1, c.push_reserved.ensures.len, c.push_reserved.ensures.capacity),
      omega (arith, was.3, step.1, c.push_reserved-in-loop-one.ensures.len, c.push_reserved-in-loop-one.ensures.capacity),
      moved (λ r. r.hand) _ _ _ c.in-Some.one _ _ c.push_reserved.ensures.items step.0 was.4,
      moved member_results _ _ _ c.in-Some.one _ _ c.push_reserved-in-loop-one.ensures.items step.0 was.5,
      λ more. was.6 (subst (All (λ r. fault_of_end r.end ≡ None)) (sym step.0)
          (All-cons (λ r. fault_of_end r.end ≡ None) c.in-Some.one _ well more)),
    )

pub returns-in-Some-fault_of_end-clause-err : goal.returns-in-Some-fault_of_end-clause-err
returns-in-Some-fault_of_end-clause-err g c =
    fault_reason _ c.in-Some-fault_of_end.fault (sym c.fault_of_end.ensures ∙ c.in-Some-fault_of_end.is)

pub returns-clause-well : goal.returns-clause-well
returns-clause-well g c =
    let was = c.loop-one.invariant in
    let none = sym c.loop-one.one-iterator.rest.ok.0 ∙ c.in-None.ensures.steps.0 in
    was.6 (λ k d lt. absurd (omega (arith, none, lt)))
