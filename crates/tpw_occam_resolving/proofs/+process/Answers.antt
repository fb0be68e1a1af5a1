use Rattle.std.proofs.Common.{◌∷◌, map, Some, sym, ap, ◌∙◌}
use Rattle.std.proofs.lemmas.Result.{IfOk-weaker}
use Rattle.std.specs.List.{list_all}
use Rattle.tpw_occam_meaning.specs.Calls.{entered}
use Rattle.tpw_occam_meaning.specs.Effects.{followed_by}
use Rattle.tpw_occam_meaning.specs.Names.{taking}
use Rattle.tpw_occam_meaning.specs.Processes.{all_run}
use Rattle.tpw_occam_meaning.specs.Types.{is_value}
use Rattle.tpw_occam_names.specs.Scopes.{names_of, form_of, shape_of, view_of, word_of, protocol_of}
use Rattle.tpw_occam_scoped.specs.Made.{effect_of, value_made}
use Rattle.tpw_occam_resolving.specs.Behind.{after_of, given_to}
use Rattle.tpw_occam_resolving.specs.Passing.{place_of}
use Rattle.tpw_occam_resolving.proofs.Selecting.{case_run}
use Rattle.tpw_occam_resolving.proofs.Sequencing.{followed_in_pairs}
use Rattle.tpw_occam_resolving.proofs.Declaring.{procedure_done, routine_done}
use Rattle.tpw_occam_resolving.proofs.Giving.{one_taken}
use Rattle.tpw_occam_resolving.proofs.Entering.{value_entered, variable_entered, array_entered, channel_entered}
use Rattle.tpw_occam_resolving.proofs.+process.Goals as goal

pub processes::declared-returns-in_ok-forms-in-Procedure : goal.processes::declared-returns-in_ok-forms-in-Procedure
processes::declared-returns-in_ok-forms-in-Procedure t c =
    IfOk-weaker c.procedure_declared.result _ _
    (λ made h. procedure_done c.args.declaration.now (after_of c.args.rest) (names_of c.args.scope.now) c.args.d
    c.in-Procedure.name c.in-Procedure.parameters c.in-Procedure.body c.deref-in-Procedure.result.now c.deref.result.now
    c.in_ok-forms-in-Procedure.forms.items (effect_of made) c.in-Procedure.is c.deref-in-Procedure.ensures
    c.in_ok-forms-in-Procedure.ensures c.deref.ensures.value h)
    c.procedure_declared.ensures

pub processes::entered-returns-in_ok-passed_to-in-OfValue : goal.processes::entered-returns-in_ok-passed_to-in-OfValue
processes::entered-returns-in_ok-passed_to-in-OfValue t c =
    value_entered (names_of c.args.scope.now) (names_of c.args.own.now) c.args.arguments.now c.deref-in-OfValue.result.now
    c.in-More.e c.in-More.more (map form_of c.args.forms.now) (map form_of c.in-Some.forms.now) c.deref.result.now
    c.args.takes.now c.in-Some-first.takes.now c.in-Some-first.name.text.now c.in-More.is c.deref.ensures
    c.deref-in-OfValue.ensures c.in-Some-first.ensures c.args.d (after_of c.args.body) c.in-OfValue.of
    (value_made c.in_ok-passed-in-OfValue.passed) (effect_of c.in_ok-rest-in-OfValue.rest)
    (effect_of c.in_ok-passed_to-in-OfValue.field-0) (word_of c.word_passed-word.result) c.in_ok-n-in-OfValue.n
    (ap (map form_of) (c.in-Some.ensures.cases.0 ∙ ap (λ x. x ∷ c.in-Some.forms.now) c.in-OfValue.is))
    c.in_ok-passed-in-OfValue.ensures c.word_passed-word.ensures c.in_ok-n-in-OfValue.ensures
    c.in_ok-rest-in-OfValue.ensures c.in_ok-passed_to-in-OfValue.ensures

pub processes::entered-returns-in_ok-passed_to-in-OfVariable : goal.processes::entered-returns-in_ok-passed_to-in-OfVariable
processes::entered-returns-in_ok-passed_to-in-OfVariable t c =
    let names = names_of c.args.scope.now in
    let own = names_of c.args.own.now in
    let others = map form_of c.in-Some.forms.now in
    variable_entered names own c.args.arguments.now c.deref-in-OfVariable-2.result.now c.in-More.e c.in-More.more
    (map form_of c.args.forms.now) others c.deref-in-OfVariable.result.now c.args.takes.now c.in-Some-first.takes.now
    c.in-Some-first.name.text.now c.in-More.is c.deref-in-OfVariable.ensures c.deref-in-OfVariable-2.ensures
    c.in-Some-first.ensures c.args.d (after_of c.args.body) c.in-OfVariable.of
    (value_made c.in_ok-lent-in-OfVariable.lent.subscript) (effect_of c.in_ok-rest-in-OfVariable.rest)
    (effect_of c.in_ok-passed_to-in-OfVariable.field-0) (place_of c.in_ok-lent-in-OfVariable.lent.place)
    c.in_ok-n-in-OfVariable.n
    (ap (map form_of) (c.in-Some.ensures.cases.0 ∙ ap (λ x. x ∷ c.in-Some.forms.now) c.in-OfVariable.is))
    c.in_ok-lent-in-OfVariable.ensures c.in_ok-n-in-OfVariable.ensures
    (c.in_ok-rest-in-OfVariable.ensures
    ∙ ap (λ x. entered c.deref-in-OfVariable-2.result.now others
    (taking c.in-Some-first.takes.now (after_of c.args.body) ((c.in-Some-first.name.text.now, x) ∷ own)) names c.in_ok-n-in-OfVariable.n)
    (c.meaning_of.ensures own))
    c.in_ok-passed_to-in-OfVariable.ensures

pub processes::entered-returns-else-not-same_protocol : goal.processes::entered-returns-else-not-same_protocol
processes::entered-returns-else-not-same_protocol t c =
    IfOk-weaker c.entered-in-OfChannel.result _ _
    (λ made h. channel_entered (names_of c.args.scope.now) (names_of c.args.own.now) c.args.arguments.now
    c.deref-in-OfChannel-2.result.now c.in-More.e c.in-More.more (map form_of c.args.forms.now)
    (map form_of c.in-Some.forms.now) c.deref-in-OfChannel.result.now c.args.takes.now c.in-Some-first.takes.now
    c.in-Some-first.name.text.now c.in-More.is c.deref-in-OfChannel.ensures c.deref-in-OfChannel-2.ensures
    c.in-Some-first.ensures c.args.d (after_of c.args.body) (protocol_of c.in-OfChannel.wanted)
    (protocol_of c.in_ok-protocol-in-OfChannel.protocol) (effect_of made)
    (ap (map form_of) (c.in-Some.ensures.cases.0 ∙ ap (λ x. x ∷ c.in-Some.forms.now) c.in-OfChannel.is))
    c.in_ok-protocol-in-OfChannel.ensures (sym c.same_protocol.ensures ∙ c.if-not-same_protocol.false) h)
    c.entered-in-OfChannel.ensures

pub processes::entered-returns-in_ok-passed-in-OfArray : goal.processes::entered-returns-in_ok-passed-in-OfArray
processes::entered-returns-in_ok-passed-in-OfArray t c =
    IfOk-weaker c.entered-in-OfArray.result _ _
    (λ made h. array_entered (names_of c.args.scope.now) (names_of c.args.own.now) c.args.arguments.now
    c.deref-in-OfArray-2.result.now c.in-More.e c.in-More.more (map form_of c.args.forms.now)
    (map form_of c.in-Some.forms.now) c.deref-in-OfArray.result.now c.args.takes.now c.in-Some-first.takes.now
    c.in-Some-first.name.text.now c.in-More.is c.deref-in-OfArray.ensures c.deref-in-OfArray-2.ensures
    c.in-Some-first.ensures c.args.d (after_of c.args.body) (shape_of c.in-OfArray.shape) (view_of c.view.result)
    (effect_of made)
    (ap (map form_of) (c.in-Some.ensures.cases.0 ∙ ap (λ x. x ∷ c.in-Some.forms.now) c.in-OfArray.is))
    (c.in_ok-passed-in-OfArray.ensures ∙ ap Some (sym c.view.ensures)) h)
    c.entered-in-OfArray.ensures

pub processes::without_line-returns-in-Case : goal.processes::without_line-returns-in-Case
processes::without_line-returns-in-Case t c =
    IfOk-weaker c.case.result _ _
    (λ made h. case_run c.args.p.now c.in-Case.selector c.in-Case.cases c.deref-in-Case.result.now c.in-Case.span
    (names_of c.args.scope.now) c.args.d (effect_of made) c.in-Case.is c.deref-in-Case.ensures h)
    c.case.ensures

pub processes::some-returns-then-count-gt1 : goal.processes::some-returns-then-count-gt1
processes::some-returns-then-count-gt1 t c =
    let behind = all_run c.in_ok-second.rest.now (names_of c.args.scope.now) c.args.d in
    let first = effect_of c.in_ok-first.first in
    c.in_ok-first.ensures ∙ ap (followed_by first) c.in_ok-second.ensures
    ∙ followed_in_pairs first (effect_of c.in_ok-second.second) behind
    ∙ ap (λ e. followed_by e behind) (sym c.in_ok-sequence.ensures)

pub processes::declared-returns-else-not-are_values-2 : goal.processes::declared-returns-else-not-are_values-2
processes::declared-returns-else-not-are_values-2 t c =
    IfOk-weaker c.routine_declared.result _ _
    (λ made h. routine_done c.args.declaration.now (after_of c.args.rest) (names_of c.args.scope.now) c.args.d
    c.in-Routine.of c.in-Routine.name c.in-Routine.parameters c.in-Routine.body c.deref-in-Routine-3.result.now
    c.deref-in-Routine-2.result.now c.in_ok-forms-in-Routine.forms.items (effect_of made) c.in-Routine.is
    c.deref-in-Routine-3.ensures c.in_ok-forms-in-Routine.ensures
    (ap (λ x. list_all is_value (map form_of x)) (sym c.deref-in-Routine.ensures.value) ∙ sym c.are_values-in-Routine.ensures
    ∙ c.if-not-are_values-2.false)
    c.deref-in-Routine-2.ensures.value h)
    c.routine_declared.ensures

pub functions::taken-returns-in_ok-passed_to-in-OfVariable : goal.functions::taken-returns-in_ok-passed_to-in-OfVariable
functions::taken-returns-in_ok-passed_to-in-OfVariable t c =
    let names = names_of c.args.scope.now in
    one_taken names (given_to c.args.call names) c.args.targets.now (map form_of c.args.forms.now)
    (map place_of c.args.places.now) c.args.d (effect_of c.in_ok-passed_to-in-OfVariable.field-0) c.in-More.e
    c.in-More.targets c.deref.result.now c.deref-in-OfVariable.result.now (map form_of c.in-Some.forms.now)
    c.in-OfVariable.of (value_made c.in_ok-lent-in-OfVariable.lent.subscript)
    (place_of c.in_ok-lent-in-OfVariable.lent.place) c.in_ok-n-in-OfVariable.n
    (map place_of c.deref-in-OfVariable-2.result.now) (effect_of c.in_ok-rest-in-OfVariable.rest) c.in-More.is
    c.deref.ensures c.deref-in-OfVariable.ensures
    (ap (map form_of) (c.in-Some.ensures.cases.0 ∙ ap (λ x. x ∷ c.in-Some.forms.now) c.in-OfVariable.is))
    c.in_ok-lent-in-OfVariable.ensures c.in_ok-n-in-OfVariable.ensures
    (ap (map place_of) c.deref-in-OfVariable-2.ensures.value ∙ c.in_ok-places-in-OfVariable.ensures)
    c.in_ok-rest-in-OfVariable.ensures c.in_ok-passed_to-in-OfVariable.ensures
