use Rattle.std.proofs.Common.{◌≡◌, Some, None, Ok, refl, sym, ap, ◌∙◌, subst}
use Rattle.tp_flow.specs.NestRanges.{ranges}
use Rattle.tp_flow.specs.Edges.{target}
use Rattle.tp_state.specs.After.{after}
use Rattle.tp_check.specs.declared.passes.Passes.{Passes}
use Rattle.std.specs.Prelude.{IfOk}
use Rattle.tp_check.specs.Tables.{table_of}
use Rattle.tp_check.specs.Rising.{Moves}
use Rattle.tp_check.specs.Joining.{is_join_at}
use Rattle.tp_check.proofs.Taking.{left}
use Rattle.tp_check.proofs.Stepping.{nowhere, arrived, moves_led, came_led, kept_is_placed, as_many_words}
use Rattle.tp_check.proofs.passes.Passes.take_edge.Goals as goal

pub arrive-requires-clause-sized : goal.arrive-requires-clause-sized
arrive-requires-clause-sized c is =
    rw (ap (λ (p : Passes). p.states.items) c.lead_on.ensures.same, ap (λ (p : Passes). p.carried) c.lead_on.ensures.same)
    (as_many_words c.args.image.now (table_of c.args.self.now.states.items c.in-Some.to) c.transfer.new.self
    (kept_is_placed c.args.image.now (is_join_at c.args.predecessors.now) c.args.self.now c.requires.way.2.whole
    c.requires.way.2.way.keeps c.in-Some.to is) c.transfer.ensures.placed)

pub arrive-requires-clause-again : goal.arrive-requires-clause-again
arrive-requires-clause-again c =
    came_led c.args.image.now (is_join_at c.args.predecessors.now) c.args.self.now c.args.place c.args.edge
    c.requires.way.0 c.requires.way.1 c.requires.way.2 c.requires.step.place c.requires.step.sound c.transfer.new.self goes
    c.transfer.ensures.placed c.in-Some.to leads
    c.lead_on.new.self c.lead_on.new.self c.lead_on.ensures
  where
    goes : after c.args.image.now c.args.place.at c.args.place.next c.args.place.instr c.args.edge c.args.self.now.carried ≡ Ok c.transfer.new.self
    goes = left c.transfer.result c.in_default.field-0 c.transfer.new.self _ c.in_default.is c.transfer.ensures.value

    leads : target (ranges c.args.image.now.loops) c.args.place.at c.args.place.next c.args.place.instr c.args.edge ≡ Some c.in-Some.to
    leads = sym (c.target.ensures ∙ ap (λ nest. target nest c.args.place.at c.args.place.next c.args.place.instr c.args.edge) c.requires.step.nest) ∙ c.in-Some.is

pub returns-in-Some-clause-gives : goal.returns-in-Some-clause-gives
returns-in-Some-clause-gives c later apart way =
    arrived c.args.image.now (is_join_at c.args.predecessors.now) c.args.self.now c.args.place c.args.edge later apart
    way c.requires.step.place c.requires.step.sound c.transfer.new.self goes c.transfer.ensures.placed c.in-Some.to leads
    c.lead_on.new.self c.arrive.new.self c.lead_on.ensures c.arrive.result c.arrive.ensures.rest
    c.arrive.ensures.is_join c.arrive.ensures.marks c.arrive.ensures.alone
    (moves_led c.args.image.now (is_join_at c.args.predecessors.now) c.args.self.now c.args.place c.args.edge
    c.requires.way.0 c.requires.way.1 c.requires.way.2 c.requires.step.place c.requires.step.sound c.transfer.new.self goes
    c.transfer.ensures.placed c.in-Some.to leads
    c.lead_on.new.self c.arrive.new.self c.lead_on.ensures c.arrive.result c.arrive.ensures.is_join c.arrive.ensures.reports c.arrive.ensures.alone c.arrive.ensures.sized)
  where
    goes : after c.args.image.now c.args.place.at c.args.place.next c.args.place.instr c.args.edge c.args.self.now.carried ≡ Ok c.transfer.new.self
    goes = left c.transfer.result c.in_default.field-0 c.transfer.new.self _ c.in_default.is c.transfer.ensures.value

    leads : target (ranges c.args.image.now.loops) c.args.place.at c.args.place.next c.args.place.instr c.args.edge ≡ Some c.in-Some.to
    leads = sym (c.target.ensures ∙ ap (λ nest. target nest c.args.place.at c.args.place.next c.args.place.instr c.args.edge) c.requires.step.nest) ∙ c.in-Some.is

pub returns-in-Some-clause-moves : goal.returns-in-Some-clause-moves
returns-in-Some-clause-moves c =
    subst (λ items. IfOk c.arrive.result (λ moved. Moves c.args.image.now moved items c.arrive.new.self.states.items)) (ap (λ (p : Passes). p.states.items) c.lead_on.ensures.same)
    (moves_led c.args.image.now (is_join_at c.args.predecessors.now) c.args.self.now c.args.place c.args.edge
    c.requires.way.0 c.requires.way.1 c.requires.way.2 c.requires.step.place c.requires.step.sound c.transfer.new.self goes
    c.transfer.ensures.placed c.in-Some.to leads
    c.lead_on.new.self c.arrive.new.self c.lead_on.ensures c.arrive.result c.arrive.ensures.is_join c.arrive.ensures.reports c.arrive.ensures.alone c.arrive.ensures.sized)
  where
    goes : after c.args.image.now c.args.place.at c.args.place.next c.args.place.instr c.args.edge c.args.self.now.carried ≡ Ok c.transfer.new.self
    goes = left c.transfer.result c.in_default.field-0 c.transfer.new.self _ c.in_default.is c.transfer.ensures.value

    leads : target (ranges c.args.image.now.loops) c.args.place.at c.args.place.next c.args.place.instr c.args.edge ≡ Some c.in-Some.to
    leads = sym (c.target.ensures ∙ ap (λ nest. target nest c.args.place.at c.args.place.next c.args.place.instr c.args.edge) c.requires.step.nest) ∙ c.in-Some.is

pub returns-in-None-clause-gives : goal.returns-in-None-clause-gives
returns-in-None-clause-gives c later apart way =
    nowhere c.args.image.now (is_join_at c.args.predecessors.now) c.args.self.now c.args.place c.args.edge later apart
    way c.requires.step.place c.requires.step.sound c.transfer.new.self goes c.transfer.ensures.placed
    _ refl refl (record { carried = refl; is_again = refl; taken = refl }) refl leads
  where
    goes : after c.args.image.now c.args.place.at c.args.place.next c.args.place.instr c.args.edge c.args.self.now.carried ≡ Ok c.transfer.new.self
    goes = left c.transfer.result c.in_default.field-0 c.transfer.new.self _ c.in_default.is c.transfer.ensures.value

    leads : target (ranges c.args.image.now.loops) c.args.place.at c.args.place.next c.args.place.instr c.args.edge ≡ None
    leads = sym (c.target.ensures ∙ ap (λ nest. target nest c.args.place.at c.args.place.next c.args.place.instr c.args.edge) c.requires.step.nest) ∙ c.in-None.is
