use Rattle.std.proofs.Common.{ap, sym, ◌∙◌}
use Rattle.std.proofs.lemmas.Result.{on_ok_weaker}
use Rattle.tpw_occam_core.specs.Arrays.{kept}
use Rattle.tpw_occam_core.specs.Meaning.{kind_of}
use Rattle.tpw_occam_expressions.specs.Agreement.{Knowledge}
use Rattle.tpw_occam_code.specs.Assigning.{taken}
use Rattle.tpw_occam_code.proofs.Assigning.{whole_computes, byte_computes}
use Rattle.tpw_occam_code.proofs.assignments.value.Goals as goal

pub returns-in-Byte-clause-computes : goal.returns-in-Byte-clause-computes
returns-in-Byte-clause-computes c = on_ok_weaker c.kept_byte.result (λ makes two.
    byte_computes c.args.emitter.now c.args.code.now c.expression.new.code c.kept_byte.new.code c.args.assignment.now c.in_ok-value.value
    c.args.room.registers c.args.room.next_temporary
    (λ word. ap (λ t. taken c.args.emitter.now.kinds t word) c.in-Variable.is
    ∙ ap (λ b. kept b word) (ap (λ (k : Knowledge). kind_of k.kinds c.in-Variable.x) (sym c.in_ok-value.ensures.knowledge) ∙ sym c.kind.ensures ∙ c.in-Byte.is))
    c.in_ok-value.ensures.computes c.in_ok-value.ensures.known makes two) c.kept_byte.ensures

pub returns-in_default-kind-clause-computes : goal.returns-in_default-kind-clause-computes
returns-in_default-kind-clause-computes c two =
    whole_computes c.args.emitter.now c.args.code.now c.expression.new.code c.args.assignment.now
    c.args.room.registers c.args.room.next_temporary
    (λ word. ap (λ t. taken c.args.emitter.now.kinds t word) c.in-Variable.is
    ∙ ap (λ b. kept b word) (ap (λ (k : Knowledge). kind_of k.kinds c.in-Variable.x) (sym c.in_ok-value.ensures.knowledge) ∙ sym c.kind.ensures ∙ c.in_default-kind.is))
    c.in_ok-value.ensures.computes

pub returns-in_default-clause-computes : goal.returns-in_default-clause-computes
returns-in_default-clause-computes c two =
    whole_computes c.args.emitter.now c.args.code.now c.expression.new.code c.args.assignment.now
    c.args.room.registers c.args.room.next_temporary
    (λ word. ap (λ t. taken c.args.emitter.now.kinds t word) c.in_default.is)
    c.in_ok-value.ensures.computes

pub returns-in-Byte-clause-small : goal.returns-in-Byte-clause-small
returns-in-Byte-clause-small c = on_ok_weaker c.kept_byte.result (λ makes storages scope unset s place stands knows.
    (c.in_ok-value.ensures.known storages scope unset s place stands knows).small) c.kept_byte.ensures

pub returns-in_default-kind-clause-small : goal.returns-in_default-kind-clause-small
returns-in_default-kind-clause-small c storages scope unset s place stands knows = (c.in_ok-value.ensures.known storages scope unset s place stands knows).small

pub returns-in_default-clause-small : goal.returns-in_default-clause-small
returns-in_default-clause-small c storages scope unset s place stands knows = (c.in_ok-value.ensures.known storages scope unset s place stands knows).small
