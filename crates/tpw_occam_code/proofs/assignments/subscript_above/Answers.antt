use Rattle.std.proofs.Common.{◌≡◌, ◌+◌, [], ◌∷◌, ap, subst, ◌∙◌, arith}
use Rattle.tpw_occam_expressions.specs.declared.emitter.Allocation.{Allocation}
use Rattle.tpw_occam_symbolic.specs.Code.{followed_by, line_of}
use Rattle.tpw_occam_symbolic.specs.declared.code.Step.TheVariants.{Load}
use Rattle.tpw_occam_expressions.specs.Computing.{Computes}
use Rattle.tpw_occam_expressions.proofs.Constructs.{settled_computes, settled_known}
use Rattle.tpw_occam_code.proofs.Assigning.{above_computes}
use Rattle.tpw_occam_code.proofs.assignments.subscript_above.Goals as goal

pub returns-clause-computes : goal.returns-clause-computes
returns-clause-computes c positive small three =
    let k = c.args.emitter.now in
    let e = c.args.subscript.now in
    let next = c.in_ok-beside.field-0 in
    let registers : next.registers ≡ 3 = ap (λ (r : Allocation). r.registers) c.in_ok-beside.ensures ∙ three in
    let kept : next.next_temporary ≡ c.args.room.next_temporary + 1 = ap (λ (r : Allocation). r.next_temporary) c.in_ok-beside.ensures in
    let computes : Computes k c.args.code.now c.expression.new.code e 3 (c.args.room.next_temporary + 1) =
    subst (λ n. Computes k c.args.code.now c.expression.new.code e n (c.args.room.next_temporary + 1)) registers
    (subst (λ n. Computes k c.args.code.now c.expression.new.code e next.registers n) kept c.in_ok-i.ensures.computes) in
    above_computes k c.args.code.now c.checked.new.code c.emit.new.self c.instr.new.self c.settled.new.code c.args.room.line e c.in_ok-i-2.i
    c.args.size c.args.room.next_temporary
    (settled_computes k c.args.code.now c.expression.new.code c.checked.new.code e c.in_ok-i.i c.args.size 3 (c.args.room.next_temporary + 1)
    computes c.in_ok-i.ensures.known c.in_ok-i-2.ensures.makes positive small (omega arith))
    (settled_known k e c.args.size c.in_ok-i.i c.in_ok-i-2.i c.in_ok-i.ensures.known c.in_ok-i-2.ensures.holds positive small)
    (subst (λ i. c.emit.new.self ≡ followed_by c.checked.new.code (line_of c.args.room.line (Load i 0) ∷ [])) c.word.ensures c.in_ok-emit.ensures)
    c.in_ok-instr.ensures c.in_ok-settled.ensures.makes positive small
