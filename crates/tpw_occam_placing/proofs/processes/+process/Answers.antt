use Rattle.std.proofs.Common.{◌∙◌, sym}
use Rattle.tpw_occam_placing.proofs.Making.{assign_done, copy_done, sequence_done, repeat_done, choice_done, variable_done, value_done, array_done}
use Rattle.tpw_occam_placing.proofs.processes.+process.Goals as goal

pub returns-in_ok-assignments-in-Assign : goal.returns-in_ok-assignments-in-Assign
returns-in_ok-assignments-in-Assign t c =
    assign_done c.args.tables.now c.args.scope.now c.args.p.now c.in-Assign.list c.deref.result.now c.in_ok-assignments-in-Assign.field-0
    c.in-Assign.is c.deref.ensures.value c.in_ok-assignments-in-Assign.ensures

pub returns-in-Some : goal.returns-in-Some
returns-in-Some t c =
    copy_done c.args.tables.now c.args.scope.now c.args.p.now c.in-Copy.to c.in-Copy.from c.in-Some.n c.in_ok-from-in-Copy.from
    c.in-Copy.is (sym c.array.ensures ∙ c.in-Some.is) (c.are_alike.ensures c.if-are_alike.true) c.in_ok-from-in-Copy.ensures

pub returns-in_ok-sequence-in-Sequence : goal.returns-in_ok-sequence-in-Sequence
returns-in_ok-sequence-in-Sequence t c =
    sequence_done c.args.tables.now c.args.scope.now c.args.p.now c.in-Sequence.first c.in-Sequence.second c.deref-in-Sequence.result.now
    c.deref-in-Sequence-2.result.now c.in_ok-first-in-Sequence.first c.in_ok-second-in-Sequence.second c.in_ok-sequence-in-Sequence.field-0
    c.in-Sequence.is c.deref-in-Sequence.ensures c.deref-in-Sequence-2.ensures c.in_ok-first-in-Sequence.ensures
    c.in_ok-second-in-Sequence.ensures c.in_ok-sequence-in-Sequence.ensures

pub returns-in_ok-choice-in-If : goal.returns-in_ok-choice-in-If
returns-in_ok-choice-in-If t c =
    choice_done c.args.tables.now c.args.scope.now c.args.p.now c.in-If.guard c.in-If.guarded c.in-If.rest c.deref-in-If.result.now
    c.deref-in-If-2.result.now c.in_ok-guard-in-If.guard c.in_ok-guarded-in-If.guarded c.in_ok-rest-in-If.rest c.in_ok-choice-in-If.field-0
    c.in-If.is c.deref-in-If.ensures c.deref-in-If-2.ensures c.in_ok-guard-in-If.ensures c.in_ok-guarded-in-If.ensures
    c.in_ok-rest-in-If.ensures c.in_ok-choice-in-If.ensures

pub returns-in_ok-repeat-in-Repeat : goal.returns-in_ok-repeat-in-Repeat
returns-in_ok-repeat-in-Repeat t c =
    repeat_done c.args.tables.now c.args.scope.now c.args.p.now _ c.in-Repeat.cell c.in-Some-free_variable.n c.in-Repeat.body
    c.deref-in-Repeat.result.now c.in_ok-body-in-Repeat.body c.in_ok-repeat-in-Repeat.field-0 c.deref-in-Repeat.ensures
    c.in-Some-free_variable.ensures.lies c.in-Some-free_variable.ensures.new c.in_ok-body-in-Repeat.ensures c.in-Repeat.start
    c.in-Repeat.count c.in-Repeat.is c.in_ok-repeat-in-Repeat.ensures

pub returns-in_ok-variable-in-Variable : goal.returns-in_ok-variable-in-Variable
returns-in_ok-variable-in-Variable t c =
    variable_done c.args.tables.now c.args.scope.now c.args.p.now _ c.in-Variable.cell c.in-Some-free_variable-2.n c.in-Variable.body
    c.deref-in-Variable.result.now c.in_ok-body-in-Variable.body c.in_ok-variable-in-Variable.field-0 c.deref-in-Variable.ensures
    c.in-Some-free_variable-2.ensures.lies c.in-Some-free_variable-2.ensures.new c.in_ok-body-in-Variable.ensures c.in-Variable.kind
    c.in-Variable.is c.in_ok-variable-in-Variable.ensures

pub returns-in_ok-value-in-Value-2 : goal.returns-in_ok-value-in-Value-2
returns-in_ok-value-in-Value-2 t c =
    value_done c.args.tables.now c.args.scope.now c.args.p.now _ c.in-Value.cell c.in-Some-free_variable-3.n c.in-Value.body
    c.deref-in-Value.result.now c.in_ok-body-in-Value.body c.in_ok-value-in-Value-2.field-0 c.deref-in-Value.ensures
    c.in-Some-free_variable-3.ensures.lies c.in-Some-free_variable-3.ensures.new c.in_ok-body-in-Value.ensures c.in-Value.value
    c.in_ok-value-in-Value.value c.in-Value.is c.in_ok-value-in-Value.ensures c.in_ok-value-in-Value-2.ensures

pub returns-in_ok-array-in-Array : goal.returns-in_ok-array-in-Array
returns-in_ok-array-in-Array t c =
    array_done c.args.tables.now c.args.scope.now c.args.p.now _ c.in-Array.array c.in-Some-free_array.n c.in-Array.bytes c.in-Array.body
    c.deref-in-Array.result.now c.in_ok-body-in-Array.body c.in_ok-array-in-Array.field-0 c.deref-in-Array.ensures
    c.in-Some-free_array.ensures.lies c.in-Some-free_array.ensures.new c.in-Some-free_array.ensures.bytes c.in_ok-body-in-Array.ensures
    c.in-Array.is c.in_ok-array-in-Array.ensures
