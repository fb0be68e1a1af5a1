use Rattle.std.proofs.Common.{◌≡◌, true, Some, None, Ok, sym, ap, ◌∙◌, subst}
use Rattle.std.proofs.lemmas.Option.{same_Some}
use Rattle.tp_state.specs.Answer.{answered}
use Rattle.tp_state.specs.Order.{IsBelow}
use Rattle.tp_check.specs.Passes.{with_place}
use Rattle.tp_check.proofs.TableSteps.{meets_agreeing, stands, comes_to, changes, some_tells, first_tells, refused_there}
use Rattle.tp_check.proofs.states.enter.Goals as goal

pub returns-in-Some-clause-gives : goal.returns-in-Some-clause-gives
returns-in-Some-clause-gives c =
    let came = c.requires.again c.if-is_again.true in
    let there : came.state ≡ c.in-Some.there = same_Some _ _ (sym came.is ∙ stands c.args.states.now c.args.to c.requires.inside c.index-states-to.result (Some c.in-Some.there) c.in-Some.is) in
    comes_to c.args.states.now c.args.to c.requires.inside c.index-states-to.result (Some c.in-Some.there) c.in-Some.is c.args.state.now c.join_compatible.new.self
    (meets_agreeing c.args.to came.before c.in-Some.there c.args.state.now (subst (IsBelow came.before) there came.rose) came.below ∙ ap Ok (sym c.join_compatible.ensures.value))

pub returns-in-Some-clause-reports : goal.returns-in-Some-clause-reports
returns-in-Some-clause-reports c =
    changes c.args.states.now c.args.to c.requires.inside c.index-states-to.result (Some c.in-Some.there) c.in-Some.is
    c.args.state.now c.join_compatible.new.self c.join_compatible.result
    (some_tells c.join_compatible.result c.in-Some.there c.join_compatible.new.self c.join_compatible.ensures.changed)

pub returns-in-Ok-clause-gives : goal.returns-in-Ok-clause-gives
returns-in-Ok-clause-gives c =
    comes_to c.args.states.now c.args.to c.requires.inside c.index-states-to.result (Some c.in-Some.there) c.in-Some.is c.args.state.now c.join.new.self
    (ap (with_place c.args.to) (sym c.join.ensures.value ∙ ap (λ r. answered r c.join.new.self) c.in-Ok.is))

pub returns-in-Ok-clause-reports : goal.returns-in-Ok-clause-reports
returns-in-Ok-clause-reports c =
    changes c.args.states.now c.args.to c.requires.inside c.index-states-to.result (Some c.in-Some.there) c.in-Some.is
    c.args.state.now c.join.new.self c.in-Ok.moved (some_tells c.in-Ok.moved c.in-Some.there c.join.new.self
    c.in-Ok.ensures.changed)

pub returns-in-Err-clause-gives : goal.returns-in-Err-clause-gives
returns-in-Err-clause-gives c =
    refused_there c.args.states.now c.args.to c.requires.inside c.index-states-to.result (Some c.in-Some.there) c.in-Some.is c.args.state.now c.in-Err.code
    (ap (with_place c.args.to) (sym c.join.ensures.value ∙ ap (λ r. answered r c.join.new.self) c.in-Err.is))

pub returns-in_ok-copy_of-in-None-clause-gives : goal.returns-in_ok-copy_of-in-None-clause-gives
returns-in_ok-copy_of-in-None-clause-gives c =
    comes_to c.args.states.now c.args.to c.requires.inside c.index-states-to.result None c.in-None.is c.args.state.now c.in_ok-copy_of-in-None.field-0 (ap Ok (sym c.in_ok-copy_of-in-None.ensures))

pub returns-in_ok-copy_of-in-None-clause-reports : goal.returns-in_ok-copy_of-in-None-clause-reports
returns-in_ok-copy_of-in-None-clause-reports c =
    changes c.args.states.now c.args.to c.requires.inside c.index-states-to.result None c.in-None.is c.args.state.now c.in_ok-copy_of-in-None.field-0 true (first_tells c.in_ok-copy_of-in-None.field-0)
