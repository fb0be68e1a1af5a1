use Rattle.std.proofs.Common.{sym}
use Rattle.tp_requests.specs.Fields.{hex_bytes}
use Rattle.tp_requests.proofs.SpellingLemmas.{none_of_empty, none_of_odd, none_of_other, some_of_digits, some_value}
use Rattle.tp_requests.proofs.spelled.Spelled.of.Goals as goal
use Rattle.tp_requests.proofs.spelled.Spelled.of.Goals.{then-is_empty-via-then-is_empty}
use Rattle.tp_requests.proofs.spelled.Spelled.of.Goals.{then-is_empty-via-else-is_empty+then-field-eq1}
use Rattle.tp_requests.proofs.spelled.Spelled.of.Goals.{then-is_empty-via-else-is_empty+else-field-eq1+then-not-are_digits}

pub returns-then-is_empty : goal.returns-then-is_empty
returns-then-is_empty c =
    elim c.then-is_empty.branch [
      | then-is_empty-via-then-is_empty w ↦ none_of_empty c.args.field.now w.if-is_empty.ensures
      | then-is_empty-via-else-is_empty+then-field-eq1 w ↦ none_of_odd c.args.field.now w.if-field-eq1.true
      | then-is_empty-via-else-is_empty+else-field-eq1+then-not-are_digits w ↦ none_of_other c.args.field.now (sym w.if-not-are_digits.ensures)
    ]

pub invariant_of-result : goal.invariant_of-result
invariant_of-result c = record { spells = some_of_digits c.args.field.now c.if-is_empty.ensures c.if-field-eq1.false (sym c.if-not-are_digits.ensures) }

pub returns : goal.returns
returns c =
    some_value (hex_bytes c.args.field.now) (some_of_digits c.args.field.now c.if-is_empty.ensures c.if-field-eq1.false (sym c.if-not-are_digits.ensures))
