use Rattle.std.proofs.Common.{rules, sym, ap, ◌∙◌, ◌≡◌, Some, None, subst}
use Rattle.tp_flow.specs.NestRanges.{ranges}
use Rattle.tp_flow.specs.Edges.{target}
use Rattle.tp_check.specs.Tables.{table_of}
use Rattle.tp_check.specs.Passes.{enter}
use Rattle.tp_check.specs.Arrivals.{Gives}
use Rattle.tpw_why.proofs.Taking.{none_goes, outcome_goes, refused_goes, nowhere_goes, entered_placed, entered_moves}
use Rattle.tpw_why.proofs.passes.take.Goals as goal

pub returns-in_default-clause-gives : goal.returns-in_default-clause-gives
returns-in_default-clause-gives c = none_goes c.args.image.now c.args.instruction c.args.edge (table_of c.args.table.now) _ (search rules)

pub after-requires-clause-placed : goal.after-requires-clause-placed
after-requires-clause-placed c = c.requires.placed c.args.instruction.at c.in-Some.before.now (search rules)

pub returns-in_err-outcome-clause-gives : goal.returns-in_err-outcome-clause-gives
returns-in_err-outcome-clause-gives c =
    refused_goes c.args.image.now c.args.instruction c.args.edge (table_of c.args.table.now) _ c.in-Some.before.now
    c.in_err-outcome.field-0.0 c.from_residual.result (table_of c.args.table.now) (search rules)
    c.from_residual.ensures.1 c.in_err-outcome.ensures.refused

pub returns-in-Some-target-clause-placed : goal.returns-in-Some-target-clause-placed
returns-in-Some-target-clause-placed c =
    entered_placed c.args.image.now (table_of c.args.table.now) (table_of c.enter.new.states) c.in-Some-target.to
    c.in_ok-outcome.outcome c.enter.result c.requires.placed c.in_ok-outcome.ensures.placed c.enter.ensures.gives
    (search rules)

pub returns-in-Some-target-clause-gives : goal.returns-in-Some-target-clause-gives
returns-in-Some-target-clause-gives c =
    let leads : target (ranges c.args.image.now.loops) c.args.instruction.at c.args.instruction.next c.args.instruction.instr c.args.edge ≡ Some c.in-Some-target.to =
    sym (c.target.ensures ∙ ap (λ nest. target nest c.args.instruction.at c.args.instruction.next c.args.instruction.instr c.args.edge) c.requires.nest) ∙ c.in-Some-target.is in
    subst (Gives c.enter.result (table_of c.enter.new.states))
    (sym (outcome_goes c.args.image.now c.args.instruction c.args.edge (table_of c.args.table.now) _
    c.in-Some.before.now c.in_ok-outcome.outcome (search rules) c.in_ok-outcome.ensures.ok ∙
    ap (λ to. enter to c.in_ok-outcome.outcome (table_of c.args.table.now)) leads))
    c.enter.ensures.gives

pub returns-clause-gives : goal.returns-clause-gives
returns-clause-gives c =
    let leads : target (ranges c.args.image.now.loops) c.args.instruction.at c.args.instruction.next c.args.instruction.instr c.args.edge ≡ None =
    sym (c.target.ensures ∙ ap (λ nest. target nest c.args.instruction.at c.args.instruction.next c.args.instruction.instr c.args.edge) c.requires.nest) ∙ c.in-None.is in
    outcome_goes c.args.image.now c.args.instruction c.args.edge (table_of c.args.table.now) _ c.in-Some.before.now c.in_ok-outcome.outcome (search rules) c.in_ok-outcome.ensures.ok
    ∙ nowhere_goes c.in_ok-outcome.outcome (table_of c.args.table.now) _ leads

pub returns-in-Some-target-clause-moves : goal.returns-in-Some-target-clause-moves
returns-in-Some-target-clause-moves c =
    entered_moves c.args.image.now c.enter.result c.args.table.now c.enter.new.states c.in-Some-target.to
    c.in_ok-outcome.outcome (c.requires.places.targets c.args.edge c.in-Some-target.to leads) c.enter.ensures.sized
    c.enter.ensures.gives c.enter.ensures.reports
    (record { a = c.law_has_word_ends.ensures.a; b = c.law_has_word_ends.ensures.b; c = c.law_has_word_ends.ensures.c }) c.in_ok-outcome.ensures.placed c.requires.placed
  where
    leads : target (ranges c.args.image.now.loops) c.args.instruction.at c.args.instruction.next c.args.instruction.instr c.args.edge ≡ Some c.in-Some-target.to
    leads = sym (c.target.ensures ∙ ap (λ nest. target nest c.args.instruction.at c.args.instruction.next c.args.instruction.instr c.args.edge) c.requires.nest) ∙ c.in-Some-target.is
