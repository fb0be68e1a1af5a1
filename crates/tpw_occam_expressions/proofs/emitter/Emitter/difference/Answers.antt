use Rattle.std.proofs.Common.{sym, ◌∙◌}
use Rattle.std.proofs.lemmas.Result.{on_ok_weaker}
use Rattle.tpw_occam_expressions.proofs.Deciding.{decides_operands, decides_left, decides_right}
use Rattle.tpw_occam_expressions.proofs.emitter.Emitter.difference.Goals as goal

pub returns-in-Some-eq0-clause-decides : goal.returns-in-Some-eq0-clause-decides
returns-in-Some-eq0-clause-decides c =
    decides_left c.args.self.now c.args.code.now c.expression.new.code c.args.left.now c.args.right.now c.in-Some-eq0.field-0
    c.args.room.registers c.args.room.next_temporary (sym c.constant_of.ensures.value ∙ c.in-Some-eq0.is) c.in-Some-eq0.field-0-test c.in_ok-expression.ensures.computes

pub returns-in-Some-eq0-constant_of-clause-decides : goal.returns-in-Some-eq0-constant_of-clause-decides
returns-in-Some-eq0-constant_of-clause-decides c =
    decides_right c.args.self.now c.args.code.now c.expression-in-Some-eq0-constant_of.new.code c.args.left.now c.args.right.now
    c.in-Some-eq0-constant_of.field-0 c.args.room.registers c.args.room.next_temporary
    (sym c.constant_of-2.ensures.value ∙ c.in-Some-eq0-constant_of.is) c.in-Some-eq0-constant_of.field-0-test c.in_ok-expression-2.ensures.computes

pub returns-clause-decides : goal.returns-clause-decides
returns-clause-decides c =
    on_ok_weaker c.instr.result (λ is.
    decides_operands c.args.self.now c.args.code.now c.operands.new.code c.instr.new.self c.args.room.line c.args.left.now c.args.right.now
    c.in_ok-operands.field-0.0 c.in_ok-operands.field-0.1 c.args.room.registers c.args.room.next_temporary
    c.in_ok-operands.ensures.computes c.in_ok-operands.ensures.left c.in_ok-operands.ensures.right is) c.instr.ensures
