use Rattle.std.proofs.Common.{sym, ◌∙◌, subst}
use Rattle.std.proofs.lemmas.Result.{on_ok_weaker}
use Rattle.tpw_occam_expressions.specs.Computing.{DecidesUnequal}
use Rattle.tpw_occam_expressions.proofs.Deciding.{decides_value, decides_not_equal}
use Rattle.tpw_occam_expressions.proofs.emitter.Emitter.condition.Goals as goal

pub returns-in-Equal-clause-decides : goal.returns-in-Equal-clause-decides
returns-in-Equal-clause-decides c =
    on_ok_weaker c.difference.result (λ decides.
    rw c.in-Not.is (decides_not_equal c.args.self.now c.args.code.now c.difference.new.code _ c.in-Not.equal.value c.in-Binary.operator
    _ c.in-Binary.left.value _ c.in-Binary.right.value c.args.room.registers c.args.room.next_temporary
    (sym c.deref.ensures ∙ c.in-Binary.is) c.in-Equal.is
    (subst (λ r. DecidesUnequal c.args.self.now c.args.code.now c.difference.new.code c.in-Binary.left.value r c.args.room.registers c.args.room.next_temporary)
    c.deref-in-Equal-2.ensures
    (subst (λ l. DecidesUnequal c.args.self.now c.args.code.now c.difference.new.code l c.deref-in-Equal-2.result.now c.args.room.registers c.args.room.next_temporary)
    c.deref-in-Equal.ensures decides)))) c.difference.ensures.decides

pub returns-clause-decides : goal.returns-clause-decides
returns-clause-decides c =
    decides_value c.args.self.now c.args.code.now c.expression.new.code c.args.e.now c.args.room.registers c.args.room.next_temporary c.in_ok-expression.ensures.computes
