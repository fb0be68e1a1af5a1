use Rattle.std.proofs.Common.{◌≡◌, ◌+◌, ◌∷◌, [], sym, subst, ap, ◌∙◌, arith}
use Rattle.std.proofs.lemmas.Result.{on_ok_weaker}
use Rattle.tpw_occam_expressions.specs.declared.emitter.Allocation.{Allocation}
use Rattle.tpw_occam_expressions.specs.Agreement.{Knowledge}
use Rattle.tpw_occam_symbolic.specs.Code.{followed_by, line_of}
use Rattle.tpw_occam_symbolic.specs.declared.code.Step.TheVariants.{Store as StoreTo}
use Rattle.tpw_occam_expressions.specs.Computing.{ComputesTo}
use Rattle.tpw_occam_code.specs.Assigning.{taken_value, KeepsParts, KeepsSubscript}
use Rattle.tpw_occam_code.proofs.KeptParts.{variable_parts, element_parts}
use Rattle.tpw_occam_code.proofs.assignments.keep_parts.Goals as goal

pub returns-in-Element-clause-keeps : goal.returns-in-Element-clause-keeps
returns-in-Element-clause-keeps c = on_ok_weaker c.keep_subscript.result (λ keeps three.
    let k = c.args.emitter.now in
    let a = c.args.assignment.now in
    let next = c.in_ok-beside.field-0 in
    let registers : next.registers ≡ 3 = ap (λ (r : Allocation). r.registers) c.in_ok-beside.ensures ∙ three in
    let kept : next.next_temporary ≡ c.args.room.next_temporary + 1 = ap (λ (r : Allocation). r.next_temporary) c.in_ok-beside.ensures in
    subst (λ t. KeepsParts k c.args.code.now c.keep_subscript.new.code (record { target = t; value = a.value }) c.args.room.next_temporary) (sym c.in-Element.is)
    (element_parts k c.args.code.now c.value.new.code c.emit.new.self c.keep_subscript.new.code c.args.room.line
    c.in-Element.array c.in-Element.kind c.in-Element.subscript a.value c.args.room.next_temporary
    (subst (λ t. ComputesTo k c.args.code.now c.value.new.code a.value (taken_value k.kinds (record { target = t; value = a.value })) 3 c.args.room.next_temporary) c.in-Element.is
    (subst (λ n. ComputesTo k c.args.code.now c.value.new.code a.value (taken_value k.kinds a) n c.args.room.next_temporary) three
    (c.in_ok-value.ensures.computes (omega (arith, three)))))
    (subst (λ i. c.emit.new.self ≡ followed_by c.value.new.code (line_of c.args.room.line (StoreTo i 0) ∷ [])) c.word.ensures c.in_ok-emit.ensures)
    (subst (λ n. KeepsSubscript k c.emit.new.self c.keep_subscript.new.code c.in-Element.array c.in-Element.kind c.in-Element.subscript n) kept
    (subst (λ (k : Knowledge). KeepsSubscript k c.emit.new.self c.keep_subscript.new.code c.in-Element.array c.in-Element.kind c.in-Element.subscript next.next_temporary)
    c.in_ok-value.ensures.knowledge (keeps registers))))) c.keep_subscript.ensures.keeps

pub returns-clause-keeps : goal.returns-clause-keeps
returns-clause-keeps c three =
    let k = c.args.emitter.now in
    let a = c.args.assignment.now in
    subst (λ t. KeepsParts k c.args.code.now c.emit.new.self (record { target = t; value = a.value }) c.args.room.next_temporary) (sym c.in_default.is)
    (variable_parts k c.args.code.now c.value.new.code c.emit.new.self c.args.room.line c.in_default.field-0 a.value c.args.room.next_temporary
    (subst (λ t. ComputesTo k c.args.code.now c.value.new.code a.value (taken_value k.kinds (record { target = t; value = a.value })) 3 c.args.room.next_temporary) c.in_default.is
    (subst (λ n. ComputesTo k c.args.code.now c.value.new.code a.value (taken_value k.kinds a) n c.args.room.next_temporary) three
    (c.in_ok-value.ensures.computes (omega (arith, three)))))
    (subst (λ i. c.emit.new.self ≡ followed_by c.value.new.code (line_of c.args.room.line (StoreTo i 0) ∷ [])) c.word.ensures c.in_ok-emit.ensures))
