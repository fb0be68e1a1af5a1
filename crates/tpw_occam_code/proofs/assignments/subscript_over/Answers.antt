use Rattle.std.proofs.Common.{◌≡◌, ◌-◌, [], ◌∷◌, ap, subst, ◌∙◌, arith}
use Rattle.std.proofs.lemmas.Result.{on_ok_weaker}
use Rattle.tpw_occam_expressions.specs.declared.emitter.Allocation.{Allocation}
use Rattle.tpw_occam_symbolic.specs.Code.{followed_by, line_of}
use Rattle.tpw_occam_symbolic.specs.declared.code.Step.TheVariants.{Store as StoreTo}
use Rattle.tpw_occam_expressions.specs.Computing.{ComputesTo, subscript_value}
use Rattle.tpw_occam_code.proofs.Assigning.{over_two, over_kept}
use Rattle.tpw_occam_code.proofs.assignments.subscript_over.Goals as goal

pub returns-then-need-le2-clause-computes : goal.returns-then-need-le2-clause-computes
returns-then-need-le2-clause-computes c positive small three =
    let k = c.args.emitter.now in
    let made = subscript_value c.args.subscript.now c.args.size in
    let two : c.args.room.registers - 1 ≡ 2 = omega (arith, three) in
    let registers : c.above.result.registers ≡ 2 = ap (λ (r : Allocation). r.registers) c.above.ensures ∙ two in
    let kept : c.above.result.next_temporary ≡ c.args.room.next_temporary = ap (λ (r : Allocation). r.next_temporary) c.above.ensures in
    over_two k c.args.code.now c.subscript.new.code c.args.subscript.now made c.above.result.registers c.args.room.next_temporary registers
    (subst (λ n. ComputesTo k c.args.code.now c.subscript.new.code c.args.subscript.now made c.above.result.registers n) kept
    (c.in_ok-subscript.ensures.computes positive small (λ one. absurd (omega (arith, registers, one)))))

pub returns-clause-computes : goal.returns-clause-computes
returns-clause-computes c = on_ok_weaker c.subscript_above.result (λ computes positive small three.
    over_kept c.args.emitter.now c.args.code.now c.emit.new.self c.subscript_above.new.code c.args.room.line c.args.subscript.now
    (subscript_value c.args.subscript.now c.args.size) c.args.room.next_temporary
    (subst (λ i. c.emit.new.self ≡ followed_by c.args.code.now (line_of c.args.room.line (StoreTo i 0) ∷ [])) c.word.ensures c.in_ok-emit.ensures)
    (computes positive small three)) c.subscript_above.ensures.computes
