use Rattle.std.proofs.Common.{◌≤◌, ◌<◌, ◌^◌, false, [], ◌∷◌, ap, sym, subst, ◌∙◌, arith}
use Rattle.std.specs.Bool.{IsTrue}
use Rattle.std.proofs.lemmas.Result.{on_ok_weaker, IfOk-weaker}
use Rattle.tpw_occam_expressions.proofs.Standing.{on_ok_both, none_of}
use Rattle.tpw_occam_core.specs.Meaning.{value_of}
use Rattle.tpw_occam_expressions.specs.Computing.{Computes, ComputesBoth, ComputesTo, IsKnown, IsKnownOfBoth, IsKnownOf, IsNoShift, IsSimplePair, has_immediate, subscript_value, applied_value, applied_last, applied_first, inverse_of, IsFixed, IsOffset, IsConstantBelow}
use Rattle.tpw_occam_symbolic.specs.Code.{followed_by, line_of}
use Rattle.tpw_occam_symbolic.specs.declared.code.Step.TheVariants.{Load, Store as StoreTo}
use Rattle.tpw_occam_expressions.proofs.Constructs.{constant_computes, checked_computes, checked_known, low_byte_computes, low_byte_known, complement_computes, complement_known, binary_computes, binary_known, element_computes, fixed_computes, constant_subscript_computes, constant_subscript_known, settled_computes, settled_known, byte_computes, byte_known, last_computes, last_known, not_computes, not_known, offset_computes, offset_known, not_constant, right_constant_computes, right_constant_known, left_constant_computes, left_constant_known, no_immediate}
use Rattle.tpw_occam_core.specs.declared.expression.Operator.TheVariants.{Greater}
use Rattle.tpw_occam_expressions.specs.Agreement.{with_fact, valued_fact, fact_at}
use Rattle.tpw_occam_expressions.specs.Computing.{Binds, ComputesBinding, IsSuccessor, IsPredecessor}
use Rattle.tpw_occam_expressions.proofs.Conditions.{inverse_computes, inverse_known, same_computes, same_known, twice_computes, successor_computes, successor_known, predecessor_computes, predecessor_known, and_computes, and_known, or_computes, or_known, computes_greater, known_greater}
use Rattle.tpw_occam_expressions.proofs.Naming.{constant_binds, constant_binding, value_binds, value_binding, let_computes, let_known, restored}
use Rattle.tpw_occam_expressions.proofs.TwoOperands.{suffices_above, in_order_computes, changed_computes, reversed_computes, kept_computes, kept_reversed_computes, suffices_count, recalled_holds, applied_computes, applied_known, first_above_computes, first_below_computes, first_known, swapped_computes, swapped_known, shift_computes, shift_known, swapped_commutes, swapped_immediate, fixed_immediate, count_above, count_beside}
use Rattle.tpw_occam_expressions.proofs.emitter.Emitter.+expression.Goals as goal

-- src/operands.rt:45:13
pub binary-returns-then-is_shift-clause-computes : goal.binary-returns-then-is_shift-clause-computes
binary-returns-then-is_shift-clause-computes t c =
    on_ok_weaker c.apply.result (λ works enough.
    shift_computes c.args.self.now c.args.code.now c.shifted.new.code c.apply.new.code c.args.operator c.args.left.now c.args.right.now c.in_ok-b.b c.in_ok-b.a c.args.room.registers c.args.room.next_temporary
    (c.is_shift.ensures.yes c.if-is_shift.true) c.in_ok-b.ensures.computes c.in_ok-b.ensures.left c.in_ok-b.ensures.count works enough) c.apply.ensures.makes

-- src/operands.rt:45:13
pub binary-returns-then-is_shift-clause-known : goal.binary-returns-then-is_shift-clause-known
binary-returns-then-is_shift-clause-known t c =
    IfOk-weaker c.apply.result _ _ (λ made holds.
    shift_known c.args.self.now c.args.operator c.args.left.now c.args.right.now c.in_ok-b.b c.in_ok-b.a made
    (c.is_shift.ensures.yes c.if-is_shift.true) c.in_ok-b.ensures.left c.in_ok-b.ensures.count holds) c.apply.ensures.holds

-- src/operands.rt:29:5
pub binary-returns-then-is_swapped-clause-computes : goal.binary-returns-then-is_swapped-clause-computes
binary-returns-then-is_swapped-clause-computes t c =
    on_ok_weaker c.in_order.result (λ computes enough.
    let swapped = sym c.is_swapped.ensures ∙ c.if-is_swapped.true in
    swapped_computes c.args.self.now c.args.code.now c.in_order.new.code c.args.operator c.args.left.now c.args.right.now c.args.room.registers c.args.room.next_temporary
    (swapped_commutes c.args.self.now c.args.operator c.args.left.now c.args.right.now swapped)
    (computes (c.is_shift.ensures.not c.if-is_shift.false)
    (λ one. swapped_immediate c.args.self.now c.args.operator c.args.left.now c.args.right.now swapped (enough one)))) c.in_order.ensures.computes

-- src/operands.rt:29:5
pub binary-returns-then-is_swapped-clause-known : goal.binary-returns-then-is_swapped-clause-known
binary-returns-then-is_swapped-clause-known t c =
    IfOk-weaker c.in_order.result _ _ (λ value known.
    swapped_known c.args.self.now c.args.operator c.args.left.now c.args.right.now value
    (swapped_commutes c.args.self.now c.args.operator c.args.left.now c.args.right.now (sym c.is_swapped.ensures ∙ c.if-is_swapped.true)) known) c.in_order.ensures.known

-- src/operands.rt:29:5
pub binary-returns-else-is_swapped-clause-computes : goal.binary-returns-else-is_swapped-clause-computes
binary-returns-else-is_swapped-clause-computes t c =
    on_ok_weaker c.in_order-else-is_swapped.result (λ computes enough.
    computes (c.is_shift.ensures.not c.if-is_shift.false)
    (λ one. fixed_immediate c.args.self.now c.args.operator c.args.left.now c.args.right.now (sym c.is_swapped.ensures ∙ c.if-is_swapped.false) (enough one)))
    c.in_order-else-is_swapped.ensures.computes

-- src/expressions.rt:162:13
pub bind-returns-in-Some-clause-knows : goal.bind-returns-in-Some-clause-knows
bind-returns-in-Some-clause-knows t c =
    subst (λ after. Binds c.args.self.now after c.args.x c.args.e.now) (sym (c.set_fact.ensures ∙ ap (λ f. with_fact c.args.x f c.args.self.now) c.constant.ensures))
    (constant_binds c.args.self.now c.args.x c.in-Some.c c.args.e.now (sym c.constant_of.ensures.value ∙ c.in-Some.is) c.in-Some.ensures.small)

-- src/expressions.rt:162:13
pub bind-returns-in-Some-clause-computes : goal.bind-returns-in-Some-clause-computes
bind-returns-in-Some-clause-computes t c =
    subst (λ after. ComputesBinding c.args.self.now after c.args.code.now c.args.code.now c.args.x c.args.e.now c.args.room.registers c.args.room.next_temporary) (sym (c.set_fact.ensures ∙ ap (λ f. with_fact c.args.x f c.args.self.now) c.constant.ensures))
    (constant_binding c.args.self.now c.args.code.now c.args.x c.in-Some.c c.args.e.now c.args.room.registers c.args.room.next_temporary (sym c.constant_of.ensures.value ∙ c.in-Some.is))

-- src/expressions.rt:146:5
pub bind-returns-clause-computes : goal.bind-returns-clause-computes
bind-returns-clause-computes t c =
    subst (λ after. ComputesBinding c.args.self.now after c.args.code.now c.emit.new.self c.args.x c.args.e.now c.args.room.registers c.args.room.next_temporary) (sym (c.set_fact-2.ensures ∙ ap (λ f. with_fact c.args.x f c.expression.new.self) c.valued.ensures
    ∙ ap (with_fact c.args.x (valued_fact c.in_ok-value.value.source)) c.in_ok-value.ensures.knowledge))
    (value_binding c.args.self.now c.args.code.now c.expression.new.code c.emit.new.self c.args.room.line c.args.x c.args.e.now c.in_ok-value.value c.args.room.registers c.args.room.next_temporary c.in_ok-value.ensures.computes c.in_ok-emit.ensures)

-- src/operands.rt:117:13
pub constant_first-returns-then-need-room-clause-computes : goal.constant_first-returns-then-need-room-clause-computes
constant_first-returns-then-need-room-clause-computes t c =
    on_ok_weaker c.apply.result (λ works unshifted more.
    first_above_computes c.args.self.now c.args.code.now c.number.new.code c.expression.new.code c.apply.new.code c.args.operator c.args.right.now c.args.c c.in_ok-b.b c.in_ok-a.a c.args.room.registers c.args.room.next_temporary
    c.in_ok-b.ensures.holds c.in_ok-b.ensures.makes
    (subst (λ r. Computes c.args.self.now c.number.new.code c.expression.new.code c.args.right.now r.registers r.next_temporary) c.above.ensures c.in_ok-a.ensures.computes)
    c.in_ok-a.ensures.known
    (suffices_above c.args.self.now c.args.room.registers c.need.result c.args.right.now c.need.ensures.least c.need.ensures.simple c.if-need-room.true)
    works unshifted more) c.apply.ensures.makes

-- src/operands.rt:100:5
pub constant_first-returns-clause-computes : goal.constant_first-returns-clause-computes
constant_first-returns-clause-computes t c =
    on_ok_weaker c.apply-2.result (λ works unshifted more.
    first_below_computes c.args.self.now c.args.code.now c.expression-2.new.code c.number-2.new.code c.instr.new.self c.apply-2.new.code c.args.room.line c.args.operator
    c.args.right.now c.args.c c.in_ok-b-2.b c.in_ok-a-2.a c.args.room.registers c.args.room.next_temporary
    c.in_ok-a-2.ensures.computes c.in_ok-a-2.ensures.known c.in_ok-b-2.ensures.holds c.in_ok-b-2.ensures.makes c.in_ok-instr.ensures
    works unshifted more) c.apply-2.ensures.makes

-- src/expressions.rt:70:21
pub expression-returns-in-Some-clause-computes : goal.expression-returns-in-Some-clause-computes
expression-returns-in-Some-clause-computes t c =
    on_ok_weaker c.fixed_element.result (λ makes.
    rw c.in-Element.is (fixed_computes c.args.self.now c.args.code.now c.fixed_element.new.code c.in-Element.array c.in-Element.kind _ c.in-Element.subscript.value c.in-Some.c c.args.room.registers c.args.room.next_temporary
    (subst (λ e. IsFixed c.args.self.now c.in-Element.array c.in-Element.kind e c.in-Some.c) c.deref.ensures c.in-Some.ensures) makes))
    c.fixed_element.ensures.makes

-- src/expressions.rt:73:21
pub expression-returns-in-Some-offset_subscript-clause-computes : goal.expression-returns-in-Some-offset_subscript-clause-computes
expression-returns-in-Some-offset_subscript-clause-computes t c =
    on_ok_weaker c.offset_element.result (λ makes.
    rw c.in-Element.is (offset_computes c.args.self.now c.args.code.now c.offset_element.new.code c.in-Element.array c.in-Element.kind _ c.in-Element.subscript.value
    c.in-Some-offset_subscript.offset.variable c.in-Some-offset_subscript.offset.constant c.args.room.registers c.args.room.next_temporary
    (subst (λ e. IsOffset c.args.self.now c.in-Element.array c.in-Element.kind e c.in-Some-offset_subscript.offset.variable c.in-Some-offset_subscript.offset.constant) c.deref-in-Element.ensures c.in-Some-offset_subscript.ensures) makes))
    c.offset_element.ensures.makes

-- src/expressions.rt:73:21
pub expression-returns-in-Some-offset_subscript-clause-known : goal.expression-returns-in-Some-offset_subscript-clause-known
expression-returns-in-Some-offset_subscript-clause-known t c =
    IfOk-weaker c.offset_element.result _ _ (λ value holds.
    rw c.in-Element.is (offset_known c.args.self.now c.in-Element.array c.in-Element.kind _ c.in-Element.subscript.value c.in-Some-offset_subscript.offset.variable c.in-Some-offset_subscript.offset.constant value
    (subst (λ e. IsOffset c.args.self.now c.in-Element.array c.in-Element.kind e c.in-Some-offset_subscript.offset.variable c.in-Some-offset_subscript.offset.constant) c.deref-in-Element.ensures c.in-Some-offset_subscript.ensures) holds))
    c.offset_element.ensures.holds

-- src/expressions.rt:49:5
pub expression-returns-in-Constant-clause-computes :
    goal.expression-returns-in-Constant-clause-computes
expression-returns-in-Constant-clause-computes t c =
    on_ok_weaker c.number.result (λ makes.
    rw c.in-Constant.is (constant_computes c.args.self.now c.args.code.now c.number.new.code c.in-Constant.c c.args.room.registers c.args.room.next_temporary makes)) c.number.ensures.makes

-- src/expressions.rt:49:5
pub expression-returns-in-Variable-clause-computes :
    goal.expression-returns-in-Variable-clause-computes
expression-returns-in-Variable-clause-computes t c =
    on_ok_weaker c.name.result (λ computes. rw c.in-Variable.is (computes c.args.room.registers c.args.room.next_temporary)) c.name.ensures.computes

-- src/expressions.rt:49:5
pub expression-returns-in_ok-subscript-in-Element-clause-computes :
    goal.expression-returns-in_ok-subscript-in-Element-clause-computes
expression-returns-in_ok-subscript-in-Element-clause-computes t c =
    on_ok_weaker c.indexed_element.result (λ makes.
    rw c.in-Element.is (element_computes c.args.self.now c.args.code.now c.subscript.new.code c.indexed_element.new.code c.in-Element.array c.in-Element.kind _ c.in-Element.subscript.value
    c.elements.result c.args.room.registers c.args.room.next_temporary c.elements.ensures
    (subst (λ e. 0 < c.elements.result → c.elements.result ≤ 2 ^ 31 → (c.args.room.registers ≤ 1 → IsConstantBelow c.args.self.now e c.elements.result)
    → ComputesTo c.args.self.now c.args.code.now c.subscript.new.code e (subscript_value e c.elements.result) c.args.room.registers c.args.room.next_temporary) c.deref-in-Element-2.ensures c.in_ok-subscript-in-Element.ensures.computes)
    makes)) c.indexed_element.ensures.makes

-- src/expressions.rt:49:5
pub expression-returns-in_ok-value-in-Checked-clause-computes :
    goal.expression-returns-in_ok-value-in-Checked-clause-computes
expression-returns-in_ok-value-in-Checked-clause-computes t c =
    on_ok_weaker c.checked.result (λ makes.
    rw c.in-Checked.is (checked_computes c.args.self.now c.args.code.now c.expression.new.code c.checked.new.code c.in-Checked.below _ c.in-Checked.subscript.value
    c.in_ok-value-in-Checked.value c.args.room.registers c.args.room.next_temporary
    (subst (λ e. Computes c.args.self.now c.args.code.now c.expression.new.code e c.args.room.registers c.args.room.next_temporary) c.deref-in-Checked.ensures c.in_ok-value-in-Checked.ensures.computes)
    (subst (λ e. IsKnown c.args.self.now e c.in_ok-value-in-Checked.value) c.deref-in-Checked.ensures c.in_ok-value-in-Checked.ensures.known) makes))
    c.checked.ensures.makes

-- src/expressions.rt:49:5
pub expression-returns-in_ok-value-in-Checked-clause-known :
    goal.expression-returns-in_ok-value-in-Checked-clause-known
expression-returns-in_ok-value-in-Checked-clause-known t c =
    IfOk-weaker c.checked.result _ _ (λ made holds.
    rw c.in-Checked.is (checked_known c.args.self.now c.in-Checked.below _ c.in-Checked.subscript.value c.in_ok-value-in-Checked.value made
    (subst (λ e. IsKnown c.args.self.now e c.in_ok-value-in-Checked.value) c.deref-in-Checked.ensures c.in_ok-value-in-Checked.ensures.known) holds))
    c.checked.ensures.holds

-- src/expressions.rt:49:5
pub expression-returns-in-Binary-clause-computes :
    goal.expression-returns-in-Binary-clause-computes
expression-returns-in-Binary-clause-computes t c =
    on_ok_weaker c.binary.result (λ both.
    rw c.in-Binary.is (binary_computes c.args.self.now c.args.code.now c.binary.new.code c.in-Binary.operator _ c.in-Binary.left.value _ c.in-Binary.right.value c.args.room.registers c.args.room.next_temporary
    (subst (λ f. (c.args.room.registers ≤ 1 → IsSimplePair c.args.self.now c.in-Binary.operator c.in-Binary.left.value f)
    → ComputesBoth c.args.self.now c.args.code.now c.binary.new.code c.in-Binary.left.value f (applied_value c.in-Binary.operator c.in-Binary.left.value f) c.args.room.registers c.args.room.next_temporary) c.deref-in-Binary-2.ensures
    (subst (λ e. (c.args.room.registers ≤ 1 → IsSimplePair c.args.self.now c.in-Binary.operator e c.deref-in-Binary-2.result.now)
    → ComputesBoth c.args.self.now c.args.code.now c.binary.new.code e c.deref-in-Binary-2.result.now (applied_value c.in-Binary.operator e c.deref-in-Binary-2.result.now) c.args.room.registers c.args.room.next_temporary)
    c.deref-in-Binary.ensures both)))) c.binary.ensures.computes

-- src/expressions.rt:49:5
pub expression-returns-in_ok-instr-in-Complement-clause-computes :
    goal.expression-returns-in_ok-instr-in-Complement-clause-computes
expression-returns-in_ok-instr-in-Complement-clause-computes t c =
    rw c.in-Complement.is (complement_computes c.args.self.now c.args.code.now c.expression-in-Complement.new.code c.instr.new.self c.args.room.line _ c.in-Complement.e.value c.args.room.registers c.args.room.next_temporary
    (subst (λ e. Computes c.args.self.now c.args.code.now c.expression-in-Complement.new.code e c.args.room.registers c.args.room.next_temporary) c.deref-in-Complement.ensures c.in_ok-value-in-Complement.ensures.computes)
    c.in_ok-instr-in-Complement.ensures)

-- src/expressions.rt:49:5
pub expression-returns-in_ok-instr-in-Complement-clause-known : goal.expression-returns-in_ok-instr-in-Complement-clause-known
expression-returns-in_ok-instr-in-Complement-clause-known t c =
    rw c.in-Complement.is (complement_known c.args.self.now _ c.in-Complement.e.value c.in_ok-value-in-Complement.value c.complement.result
    (subst (λ e. IsKnown c.args.self.now e c.in_ok-value-in-Complement.value) c.deref-in-Complement.ensures c.in_ok-value-in-Complement.ensures.known)
    c.complement.ensures)

-- src/expressions.rt:49:5
pub expression-returns-in-Not-clause-computes : goal.expression-returns-in-Not-clause-computes
expression-returns-in-Not-clause-computes t c =
    on_ok_weaker c.inverted.result (λ computes.
    rw c.in-Not.is (not_computes c.args.self.now c.args.code.now c.inverted.new.code _ c.in-Not.e.value c.args.room.registers c.args.room.next_temporary
    (subst (λ e. ComputesTo c.args.self.now c.args.code.now c.inverted.new.code e (inverse_of e) c.args.room.registers c.args.room.next_temporary) c.deref-in-Not.ensures computes)))
    c.inverted.ensures.computes

-- src/expressions.rt:49:5
pub expression-returns-in_ok-value-in-LowByte-clause-computes :
    goal.expression-returns-in_ok-value-in-LowByte-clause-computes
expression-returns-in_ok-value-in-LowByte-clause-computes t c =
    on_ok_weaker c.checked-in-LowByte.result (λ makes.
    rw c.in-LowByte.is (low_byte_computes c.args.self.now c.args.code.now c.expression-in-LowByte.new.code c.checked-in-LowByte.new.code _ c.in-LowByte.e.value
    c.in_ok-value-in-LowByte.value c.args.room.registers c.args.room.next_temporary
    (subst (λ e. Computes c.args.self.now c.args.code.now c.expression-in-LowByte.new.code e c.args.room.registers c.args.room.next_temporary) c.deref-in-LowByte.ensures c.in_ok-value-in-LowByte.ensures.computes)
    (subst (λ e. IsKnown c.args.self.now e c.in_ok-value-in-LowByte.value) c.deref-in-LowByte.ensures c.in_ok-value-in-LowByte.ensures.known) makes))
    c.checked-in-LowByte.ensures.makes

-- src/expressions.rt:49:5
pub expression-returns-in_ok-value-in-LowByte-clause-known :
    goal.expression-returns-in_ok-value-in-LowByte-clause-known
expression-returns-in_ok-value-in-LowByte-clause-known t c =
    IfOk-weaker c.checked-in-LowByte.result _ _ (λ made holds.
    rw c.in-LowByte.is (low_byte_known c.args.self.now _ c.in-LowByte.e.value c.in_ok-value-in-LowByte.value made
    (subst (λ e. IsKnown c.args.self.now e c.in_ok-value-in-LowByte.value) c.deref-in-LowByte.ensures c.in_ok-value-in-LowByte.ensures.known) holds))
    c.checked-in-LowByte.ensures.holds

-- src/expressions.rt:49:5
pub expression-returns-in_ok-branch-in-And-clause-computes : goal.expression-returns-in_ok-branch-in-And-clause-computes
expression-returns-in_ok-branch-in-And-clause-computes t c =
    rw c.in-And.is (and_computes c.args.self.now c.expression-in-And.new.self c.args.code.now c.expression-in-And.new.code c.expression-in-And-2.new.code c.branch-code.new.self
    c.args.room.line _ c.in-And.left.value _ c.in-And.right.value c.args.room.registers c.args.room.next_temporary c.in_ok-expression-in-And.ensures.knowledge
    (subst (λ e. Computes c.args.self.now c.args.code.now c.expression-in-And.new.code e c.args.room.registers c.args.room.next_temporary) c.deref-in-And.ensures c.in_ok-expression-in-And.ensures.computes)
    (subst (λ l. Computes c.expression-in-And.new.self l c.expression-in-And-2.new.code c.in-And.right.value c.args.room.registers c.args.room.next_temporary) c.in_ok-more-in-And.ensures
    (subst (λ e. Computes c.expression-in-And.new.self c.in_ok-more-in-And.more c.expression-in-And-2.new.code e c.args.room.registers c.args.room.next_temporary) c.deref-in-And-2.ensures
    c.in_ok-value-in-And.ensures.computes))
    c.in_ok-branch-in-And.ensures)

-- src/expressions.rt:49:5
pub expression-returns-in_ok-branch-in-And-clause-known : goal.expression-returns-in_ok-branch-in-And-clause-known
expression-returns-in_ok-branch-in-And-clause-known t c =
    rw c.in-And.is (and_known c.args.self.now c.expression-in-And.new.self _ c.in-And.left.value _ c.in-And.right.value c.in_ok-value-in-And.value c.or.result
    c.in_ok-expression-in-And.ensures.knowledge
    (subst (λ e. IsKnown c.expression-in-And.new.self e c.in_ok-value-in-And.value) c.deref-in-And-2.ensures c.in_ok-value-in-And.ensures.known)
    c.or.ensures.first (c.or.ensures.second 0 (c.truth.ensures 0 (omega arith))))

-- src/expressions.rt:49:5
pub expression-returns-in_ok-instr-in-Or-clause-computes : goal.expression-returns-in_ok-instr-in-Or-clause-computes
expression-returns-in_ok-instr-in-Or-clause-computes t c =
    rw c.in-Or.is (or_computes c.args.self.now c.inverted-in-Or.new.self c.args.code.now c.inverted-in-Or.new.code c.inverted-in-Or-2.new.code c.branch-code-in-Or.new.self c.instr-in-Or.new.self
    c.args.room.line _ c.in-Or.left.value _ c.in-Or.right.value c.args.room.registers c.args.room.next_temporary c.in_ok-inverted-in-Or.ensures.knowledge
    (subst (λ e. ComputesTo c.args.self.now c.args.code.now c.inverted-in-Or.new.code e (inverse_of e) c.args.room.registers c.args.room.next_temporary) c.deref-in-Or.ensures c.in_ok-inverted-in-Or.ensures.computes)
    (subst (λ l. ComputesTo c.inverted-in-Or.new.self l c.inverted-in-Or-2.new.code c.in-Or.right.value (inverse_of c.in-Or.right.value) c.args.room.registers c.args.room.next_temporary) c.in_ok-more-in-Or.ensures
    (subst (λ e. ComputesTo c.inverted-in-Or.new.self c.in_ok-more-in-Or.more c.inverted-in-Or-2.new.code e (inverse_of e) c.args.room.registers c.args.room.next_temporary) c.deref-in-Or-2.ensures
    c.in_ok-inverted-in-Or-2.ensures.computes))
    c.in_ok-branch-in-Or.ensures c.in_ok-instr-in-Or.ensures)

-- src/expressions.rt:49:5
pub expression-returns-in_ok-instr-in-Or-clause-known : goal.expression-returns-in_ok-instr-in-Or-clause-known
expression-returns-in_ok-instr-in-Or-clause-known t c =
    rw c.in-Or.is (or_known c.args.self.now _ c.in-Or.left.value _ c.in-Or.right.value c.truth-in-Or.result c.truth-in-Or.ensures)

-- src/expressions.rt:49:5
pub expression-returns-in_ok-value-in-Let-clause-knowledge : goal.expression-returns-in_ok-value-in-Let-clause-knowledge
expression-returns-in_ok-value-in-Let-clause-knowledge t c =
    c.set_fact.ensures ∙ ap (λ f. with_fact c.in-Let.name f c.expression-in-Let.new.self) c.fact-before.ensures
    ∙ ap (with_fact c.in-Let.name (fact_at c.args.self.now c.in-Let.name)) c.in_ok-value-in-Let.ensures.knowledge
    ∙ restored c.args.self.now c.bind.new.self c.in-Let.name c.in_ok-bind-in-Let.ensures.facts.0 c.in_ok-bind-in-Let.ensures.facts.1

-- src/expressions.rt:49:5
pub expression-returns-in_ok-value-in-Let-clause-computes : goal.expression-returns-in_ok-value-in-Let-clause-computes
expression-returns-in_ok-value-in-Let-clause-computes t c =
    rw c.in-Let.is (let_computes c.args.self.now c.bind.new.self c.args.code.now c.bind.new.code c.expression-in-Let.new.code c.in-Let.name _ c.in-Let.value.value _ c.in-Let.within.value
    c.in_ok-bind-in-Let.ensures.facts.0 c.args.room.registers c.args.room.next_temporary c.in_ok-bind-in-Let.ensures.facts.1
    (subst (λ e. Binds c.args.self.now c.bind.new.self c.in-Let.name e) c.deref-in-Let.ensures c.in_ok-bind-in-Let.ensures.knows)
    (subst (λ e. ComputesBinding c.args.self.now c.bind.new.self c.args.code.now c.bind.new.code c.in-Let.name e c.args.room.registers c.args.room.next_temporary) c.deref-in-Let.ensures c.in_ok-bind-in-Let.ensures.computes)
    (subst (λ e. Computes c.bind.new.self c.bind.new.code c.expression-in-Let.new.code e c.args.room.registers c.args.room.next_temporary) c.deref-in-Let-2.ensures c.in_ok-value-in-Let.ensures.computes))

-- src/expressions.rt:49:5
pub expression-returns-in_ok-value-in-Let-clause-known : goal.expression-returns-in_ok-value-in-Let-clause-known
expression-returns-in_ok-value-in-Let-clause-known t c =
    rw c.in-Let.is (let_known c.args.self.now c.bind.new.self c.in-Let.name _ c.in-Let.value.value _ c.in-Let.within.value
    c.in_ok-bind-in-Let.ensures.facts.0 c.in_ok-value-in-Let.value c.in_ok-bind-in-Let.ensures.facts.1
    (subst (λ e. Binds c.args.self.now c.bind.new.self c.in-Let.name e) c.deref-in-Let.ensures c.in_ok-bind-in-Let.ensures.knows)
    (subst (λ e. IsKnown c.bind.new.self e c.in_ok-value-in-Let.value) c.deref-in-Let-2.ensures c.in_ok-value-in-Let.ensures.known))

-- src/operands.rt:71:13
pub in_order-returns-in-Some-clause-computes : goal.in_order-returns-in-Some-clause-computes
in_order-returns-in-Some-clause-computes t c =
    on_ok_weaker c.with_constant.result (λ computes unshifted enough.
    right_constant_computes c.args.self.now c.args.code.now c.with_constant.new.code c.args.operator c.args.left.now c.args.right.now c.in-Some.c c.args.room.registers c.args.room.next_temporary
    (sym c.constant_of.ensures.value ∙ c.in-Some.is) computes unshifted enough) c.with_constant.ensures.computes

-- src/operands.rt:74:13
pub in_order-returns-in-Some-constant_of-clause-computes : goal.in_order-returns-in-Some-constant_of-clause-computes
in_order-returns-in-Some-constant_of-clause-computes t c =
    on_ok_weaker c.constant_first.result (λ computes unshifted enough.
    left_constant_computes c.args.self.now c.args.code.now c.constant_first.new.code c.args.operator c.args.left.now c.args.right.now c.in-Some-constant_of.c c.args.room.registers c.args.room.next_temporary
    (sym c.constant_of-2.ensures.value ∙ c.in-Some-constant_of.is) (sym c.constant_of.ensures.value ∙ none_of c.constant_of.result c.in_default.not-Some)
    computes unshifted enough) c.constant_first.ensures.computes

-- src/operands.rt:74:13
pub in_order-returns-in-Some-constant_of-clause-known : goal.in_order-returns-in-Some-constant_of-clause-known
in_order-returns-in-Some-constant_of-clause-known t c =
    IfOk-weaker c.constant_first.result _ _ (λ value known.
    left_constant_known c.args.self.now c.args.operator c.args.left.now c.args.right.now c.in-Some-constant_of.c value
    (sym c.constant_of-2.ensures.value ∙ c.in-Some-constant_of.is) known) c.constant_first.ensures.known

-- src/operands.rt:56:5
pub in_order-returns-clause-computes : goal.in_order-returns-clause-computes
in_order-returns-clause-computes t c =
    on_ok_weaker c.apply.result (λ works unshifted enough.
    let more = no_immediate c.args.self.now c.args.operator c.args.left.now c.args.right.now c.args.room.registers
    (sym c.constant_of.ensures.value ∙ none_of c.constant_of.result c.in_default.not-Some) enough in
    applied_computes c.args.self.now c.operands.new.self c.args.code.now c.operands.new.code c.apply.new.code c.args.operator c.args.left.now c.args.right.now c.in_ok-b.b c.in_ok-b.a
    c.commutes.result c.args.room.registers c.args.room.next_temporary c.in_ok-b.ensures.knowledge c.commutes.ensures c.in_ok-b.ensures.computes c.in_ok-b.ensures.left c.in_ok-b.ensures.right
    works.0 works.1 unshifted more) (on_ok_both _ _ c.apply.result c.apply.ensures.makes c.apply.ensures.swapped)

-- src/expressions.rt:189:17
pub inverted-returns-in-Some-clause-computes : goal.inverted-returns-in-Some-clause-computes
inverted-returns-in-Some-clause-computes t c =
    on_ok_weaker c.constant_first.result (λ computes.
    rw c.in-Binary.is (computes_greater c.args.self.now c.args.code.now c.constant_first.new.code c.in-Binary.operator _ c.in-Binary.left.value _ c.in-Binary.right.value c.args.room.registers c.args.room.next_temporary c.in-Greater.is (successor_computes c.args.self.now c.args.code.now c.constant_first.new.code _ c.in-Binary.left.value _ c.in-Binary.right.value c.in-Some.next c.args.room.registers c.args.room.next_temporary
    (subst (λ e. IsSuccessor c.args.self.now e c.in-Some.next) c.deref.ensures c.in-Some.ensures)
    (subst (λ e. IsNoShift Greater → 2 ≤ c.args.room.registers → ComputesTo c.args.self.now c.args.code.now c.constant_first.new.code e (applied_first Greater c.in-Some.next e) c.args.room.registers c.args.room.next_temporary)
    c.deref-in-Some.ensures computes)))) c.constant_first.ensures.computes

-- src/expressions.rt:189:17
pub inverted-returns-in-Some-clause-known : goal.inverted-returns-in-Some-clause-known
inverted-returns-in-Some-clause-known t c =
    IfOk-weaker c.constant_first.result _ _ (λ value known.
    rw c.in-Binary.is (known_greater c.args.self.now c.in-Binary.operator _ c.in-Binary.left.value _ c.in-Binary.right.value value c.in-Greater.is (successor_known c.args.self.now _ c.in-Binary.left.value _ c.in-Binary.right.value c.in-Some.next value
    (subst (λ e. IsSuccessor c.args.self.now e c.in-Some.next) c.deref.ensures c.in-Some.ensures)
    (subst (λ e. IsKnownOf c.args.self.now e (applied_first Greater c.in-Some.next e) value) c.deref-in-Some.ensures known)))) c.constant_first.ensures.known

-- src/expressions.rt:192:17
pub inverted-returns-in-Some-predecessor-clause-computes : goal.inverted-returns-in-Some-predecessor-clause-computes
inverted-returns-in-Some-predecessor-clause-computes t c =
    on_ok_weaker c.with_constant.result (λ computes.
    rw c.in-Binary.is (computes_greater c.args.self.now c.args.code.now c.with_constant.new.code c.in-Binary.operator _ c.in-Binary.left.value _ c.in-Binary.right.value c.args.room.registers c.args.room.next_temporary c.in-Greater.is (predecessor_computes c.args.self.now c.args.code.now c.with_constant.new.code _ c.in-Binary.left.value _ c.in-Binary.right.value c.in-Some-predecessor.before c.args.room.registers c.args.room.next_temporary
    (subst (λ e. IsPredecessor c.args.self.now e c.in-Some-predecessor.before) c.deref-in-Greater.ensures c.in-Some-predecessor.ensures)
    (subst (λ e. IsNoShift Greater → (c.args.room.registers ≤ 1 → IsTrue (has_immediate Greater c.in-Some-predecessor.before))
    → ComputesTo c.args.self.now c.args.code.now c.with_constant.new.code e (applied_last Greater e c.in-Some-predecessor.before) c.args.room.registers c.args.room.next_temporary)
    c.deref-in-Some-predecessor.ensures computes)))) c.with_constant.ensures.computes

-- src/expressions.rt:192:17
pub inverted-returns-in-Some-predecessor-clause-known : goal.inverted-returns-in-Some-predecessor-clause-known
inverted-returns-in-Some-predecessor-clause-known t c =
    IfOk-weaker c.with_constant.result _ _ (λ value known.
    rw c.in-Binary.is (known_greater c.args.self.now c.in-Binary.operator _ c.in-Binary.left.value _ c.in-Binary.right.value value c.in-Greater.is (predecessor_known c.args.self.now _ c.in-Binary.left.value _ c.in-Binary.right.value c.in-Some-predecessor.before value
    (subst (λ e. IsPredecessor c.args.self.now e c.in-Some-predecessor.before) c.deref-in-Greater.ensures c.in-Some-predecessor.ensures)
    (subst (λ e. IsKnownOf c.args.self.now e (applied_last Greater e c.in-Some-predecessor.before) value) c.deref-in-Some-predecessor.ensures known)))) c.with_constant.ensures.known

-- src/expressions.rt:198:17
pub inverted-returns-then-is_within-clause-computes : goal.inverted-returns-then-is_within-clause-computes
inverted-returns-then-is_within-clause-computes t c =
    rw c.in-Not.is (same_computes c.args.self.now c.args.code.now c.expression.new.code _ c.in-Not.e.value c.in_ok-value.value c.args.room.registers c.args.room.next_temporary
    (subst (λ e. Computes c.args.self.now c.args.code.now c.expression.new.code e c.args.room.registers c.args.room.next_temporary) c.deref-in-Not.ensures c.in_ok-value.ensures.computes)
    (subst (λ e. IsKnown c.args.self.now e c.in_ok-value.value) c.deref-in-Not.ensures c.in_ok-value.ensures.known)
    (λ word holds. c.below.ensures.within (omega arith) (omega arith) word holds.small (c.is_within.ensures.contains c.if-is_within.true word holds.source)))

-- src/expressions.rt:202:13
pub inverted-returns-in-Not-clause-computes : goal.inverted-returns-in-Not-clause-computes
inverted-returns-in-Not-clause-computes t c =
    rw c.in-Not.is (twice_computes c.args.self.now c.args.code.now c.expression.new.code c.instr.new.self c.instr-in-Not.new.self c.args.room.line _ c.in-Not.e.value c.in_ok-value.value c.args.room.registers c.args.room.next_temporary
    (subst (λ e. Computes c.args.self.now c.args.code.now c.expression.new.code e c.args.room.registers c.args.room.next_temporary) c.deref-in-Not.ensures c.in_ok-value.ensures.computes)
    (subst (λ e. IsKnown c.args.self.now e c.in_ok-value.value) c.deref-in-Not.ensures c.in_ok-value.ensures.known)
    c.in_ok-instr.ensures c.in_ok-instr-2.ensures)

-- src/expressions.rt:171:5
pub inverted-returns : goal.inverted-returns
inverted-returns t c =
    record {
      knowledge = c.in_ok-expression.ensures.knowledge;
      computes = inverse_computes c.args.self.now c.args.code.now c.expression-2.new.code c.instr-2.new.self c.args.room.line c.args.e.now c.in_ok-expression.field-0 c.args.room.registers c.args.room.next_temporary
          c.in_ok-expression.ensures.computes c.in_ok-expression.ensures.known c.in_ok-instr-3.ensures;
      known = inverse_known c.args.self.now c.args.e.now c.truth-2.result c.truth-2.ensures;
    }

-- src/operands.rt:144:13
pub operands-returns-then-need-room-clause-computes :
    goal.operands-returns-then-need-room-clause-computes
operands-returns-then-need-room-clause-computes t c =
    in_order_computes c.args.self.now c.expression.new.self c.args.code.now c.expression.new.code c.expression-then-need-room.new.code c.args.left.now c.args.right.now
    (value_of c.args.left.now) (value_of c.args.right.now) c.args.commute c.args.room.registers c.args.room.next_temporary c.in_ok-b.ensures.knowledge c.in_ok-b.ensures.computes
    (subst (λ r. Computes c.expression.new.self c.expression.new.code c.expression-then-need-room.new.code c.args.right.now r.registers r.next_temporary)
    c.above.ensures c.in_ok-a.ensures.computes)
    (suffices_above c.args.self.now c.args.room.registers c.need.result c.args.right.now c.need.ensures.least c.need.ensures.simple c.if-need-room.true)

-- src/operands.rt:152:13
pub operands-returns-in_ok-instr-clause-computes :
    goal.operands-returns-in_ok-instr-clause-computes
operands-returns-in_ok-instr-clause-computes t c =
    reversed_computes c.args.self.now c.expression-then-need-room-2.new.self c.args.code.now c.expression-then-need-room-2.new.code c.expression-then-need-room-2-2.new.code c.instr.new.self
    c.args.room.line c.args.left.now c.args.right.now
    (value_of c.args.left.now) (value_of c.args.right.now) c.args.commute c.args.room.registers c.args.room.next_temporary c.in_ok-a-2.ensures.knowledge c.in_ok-a-2.ensures.computes
    (subst (λ r. Computes c.expression-then-need-room-2.new.self c.expression-then-need-room-2.new.code c.expression-then-need-room-2-2.new.code c.args.left.now r.registers r.next_temporary)
    c.above-then-need-room-2.ensures c.in_ok-b-2.ensures.computes)
    (suffices_above c.args.self.now c.args.room.registers c.need-2.result c.args.left.now c.need-2.ensures.least c.need-2.ensures.simple c.if-need-room-2.true)
    c.in_ok-instr.ensures

-- src/operands.rt:152:13
pub operands-returns-else-not-commute-clause-computes :
    goal.operands-returns-else-not-commute-clause-computes
operands-returns-else-not-commute-clause-computes t c =
    changed_computes c.args.self.now c.expression-then-need-room-2.new.self c.args.code.now c.expression-then-need-room-2.new.code c.expression-then-need-room-2-2.new.code
    c.args.left.now c.args.right.now
    (value_of c.args.left.now) (value_of c.args.right.now) c.args.commute c.args.room.registers c.args.room.next_temporary c.in_ok-a-2.ensures.knowledge c.if-not-commute.false
    c.in_ok-a-2.ensures.computes
    (subst (λ r. Computes c.expression-then-need-room-2.new.self c.expression-then-need-room-2.new.code c.expression-then-need-room-2-2.new.code c.args.left.now r.registers r.next_temporary)
    c.above-then-need-room-2.ensures c.in_ok-b-2.ensures.computes)
    (suffices_above c.args.self.now c.args.room.registers c.need-2.result c.args.left.now c.need-2.ensures.least c.need-2.ensures.simple c.if-need-room-2.true)

-- src/operands.rt:126:5
pub operands-returns-clause-computes : goal.operands-returns-clause-computes
operands-returns-clause-computes t c =
    kept_computes c.args.self.now c.expression-2.new.self c.args.code.now c.expression-2.new.code c.emit.new.self c.expression-3.new.code c.emit-2.new.self c.args.room.line
    c.args.left.now c.args.right.now (value_of c.args.left.now) (value_of c.args.right.now) c.args.commute c.args.room.registers c.args.room.next_temporary c.in_ok-a-3.ensures.knowledge
    c.in_ok-a-3.ensures.computes (λ storages scope unset s place stands knows. (c.in_ok-a-3.ensures.known storages scope unset s place stands knows).small)
    (c.in_ok-emit.ensures ∙ ap (λ i. followed_by c.expression-2.new.code (line_of c.args.room.line (StoreTo i 0) ∷ [])) c.word.ensures)
    (subst (λ r. Computes c.expression-2.new.self c.emit.new.self c.expression-3.new.code c.args.left.now r.registers r.next_temporary) c.in_ok-beside.ensures c.in_ok-b-3.ensures.computes)
    (c.in_ok-emit-2.ensures ∙ ap (λ i. followed_by c.expression-3.new.code (line_of c.args.room.line (Load i 0) ∷ [])) c.word-2.ensures)

-- src/operands.rt:126:5
pub operands-returns-clause-right : goal.operands-returns-clause-right
operands-returns-clause-right t c =
    λ storages scope unset s place stands knows.
    recalled_holds c.in_ok-a-3.a c.recalled.result (value_of c.args.right.now s).word c.recalled.ensures
    (c.in_ok-a-3.ensures.known storages scope unset s place stands knows)

-- src/operands.rt:180:13
pub shifted-returns-then-need_of_count-room-clause-computes : goal.shifted-returns-then-need_of_count-room-clause-computes
shifted-returns-then-need_of_count-room-clause-computes t c =
    in_order_computes c.args.self.now c.expression.new.self c.args.code.now c.expression.new.code c.subscript.new.code c.args.left.now c.args.count.now
    (value_of c.args.left.now) (subscript_value c.args.count.now 32) false c.args.room.registers c.args.room.next_temporary c.in_ok-b.ensures.knowledge c.in_ok-b.ensures.computes
    (count_above c.args.self.now c.expression.new.self c.expression.new.code c.subscript.new.code c.args.count.now c.args.room c.above.result c.need_of_count.result
    c.in_ok-b.ensures.knowledge c.above.ensures c.need_of_count.ensures.least c.need_of_count.ensures.constant c.if-need_of_count-room.true c.in_ok-a.ensures.computes)
    (suffices_count c.args.self.now c.args.room.registers c.need_of_count.result c.args.count.now c.need_of_count.ensures.least c.need_of_count.ensures.constant c.if-need_of_count-room.true)

-- src/operands.rt:186:13
pub shifted-returns-then-need-room-clause-computes : goal.shifted-returns-then-need-room-clause-computes
shifted-returns-then-need-room-clause-computes t c =
    λ storages scope unset s place one two least most knows.
    reversed_computes c.args.self.now c.subscript-then-need-room.new.self c.args.code.now c.subscript-then-need-room.new.code c.expression-then-need-room.new.code c.instr.new.self
    c.args.room.line c.args.left.now c.args.count.now
    (value_of c.args.left.now) (subscript_value c.args.count.now 32) false c.args.room.registers c.args.room.next_temporary c.in_ok-a-2.ensures.knowledge
    (c.in_ok-a-2.ensures.computes (omega arith) (omega arith) (λ few. absurd (omega (arith, least, few))))
    (subst (λ r. Computes c.subscript-then-need-room.new.self c.subscript-then-need-room.new.code c.expression-then-need-room.new.code c.args.left.now r.registers r.next_temporary)
    c.above-then-need-room.ensures c.in_ok-b-2.ensures.computes)
    (suffices_above c.args.self.now c.args.room.registers c.need.result c.args.left.now c.need.ensures.least c.need.ensures.simple c.if-need-room.true)
    c.in_ok-instr.ensures storages scope unset s place one two least most knows

-- src/operands.rt:163:5
pub shifted-returns-clause-computes : goal.shifted-returns-clause-computes
shifted-returns-clause-computes t c =
    λ storages scope unset s place one two least most knows.
    kept_reversed_computes c.args.self.now c.expression-2.new.self c.args.code.now c.expression-2.new.code c.emit.new.self c.subscript-2.new.code c.emit-2.new.self c.instr-2.new.self c.args.room.line
    c.args.left.now c.args.count.now (value_of c.args.left.now) (subscript_value c.args.count.now 32) false c.args.room.registers c.args.room.next_temporary c.in_ok-b-3.ensures.knowledge
    c.in_ok-b-3.ensures.computes (λ storages scope unset s place stands knows. (c.in_ok-b-3.ensures.known storages scope unset s place stands knows).small)
    (c.in_ok-emit.ensures ∙ ap (λ i. followed_by c.expression-2.new.code (line_of c.args.room.line (StoreTo i 0) ∷ [])) c.word.ensures)
    (count_beside c.expression-2.new.self c.emit.new.self c.subscript-2.new.code c.args.count.now c.args.room c.in_ok-beside.field-0
    c.in_ok-beside.ensures least c.in_ok-a-3.ensures.computes)
    (c.in_ok-emit-2.ensures ∙ ap (λ i. followed_by c.subscript-2.new.code (line_of c.args.room.line (Load i 0) ∷ [])) c.word-2.ensures)
    c.in_ok-instr-2.ensures storages scope unset s place one two least most knows

-- src/operands.rt:163:5
pub shifted-returns-clause-left : goal.shifted-returns-clause-left
shifted-returns-clause-left t c =
    λ storages scope unset s place stands knows.
    recalled_holds c.in_ok-b-3.b c.recalled.result (value_of c.args.left.now s).word c.recalled.ensures
    (c.in_ok-b-3.ensures.known storages scope unset s place stands knows)

-- src/subscripts.rt:333:13
pub subscript-returns-in-Some-clause-computes : goal.subscript-returns-in-Some-clause-computes
subscript-returns-in-Some-clause-computes t c =
    on_ok_weaker c.number.result (λ makes positive small enough.
    constant_subscript_computes c.args.self.now c.args.code.now c.number.new.code c.args.e.now c.args.size c.in-Some.c c.args.room.registers c.args.room.next_temporary c.in-Some.ensures.some makes) c.number.ensures.makes

-- src/subscripts.rt:333:13
pub subscript-returns-in-Some-clause-known : goal.subscript-returns-in-Some-clause-known
subscript-returns-in-Some-clause-known t c =
    IfOk-weaker c.number.result _ _ (λ value holds positive small.
    constant_subscript_known c.args.self.now c.args.e.now c.args.size c.in-Some.c value c.in-Some.ensures.some holds) c.number.ensures.holds

-- src/subscripts.rt:337:13
pub reduced-returns-in-Some-clause-computes : goal.reduced-returns-in-Some-clause-computes
reduced-returns-in-Some-clause-computes t c =
    on_ok_weaker c.settled.result (λ makes positive small two.
    settled_computes c.args.self.now c.args.code.now c.push_byte.new.code c.settled.new.code c.args.e.now c.in_ok-value.value c.args.size c.args.room.registers c.args.room.next_temporary
    (byte_computes c.args.self.now c.args.code.now c.push_byte.new.code c.args.e.now c.in-Some.x c.args.room.registers c.args.room.next_temporary c.in-Some.ensures c.in_ok-value.ensures.makes)
    (byte_known c.args.self.now c.args.e.now c.in-Some.x c.in_ok-value.value c.in-Some.ensures c.in_ok-value.ensures.holds)
    makes positive small two) c.settled.ensures.makes

-- src/subscripts.rt:337:13
pub reduced-returns-in-Some-clause-known : goal.reduced-returns-in-Some-clause-known
reduced-returns-in-Some-clause-known t c =
    IfOk-weaker c.settled.result _ _ (λ made holds positive small.
    settled_known c.args.self.now c.args.e.now c.args.size c.in_ok-value.value made
    (byte_known c.args.self.now c.args.e.now c.in-Some.x c.in_ok-value.value c.in-Some.ensures c.in_ok-value.ensures.holds)
    holds positive small) c.settled.ensures.holds

-- src/subscripts.rt:318:5
pub reduced-returns-clause-computes : goal.reduced-returns-clause-computes
reduced-returns-clause-computes t c =
    on_ok_weaker c.settled-2.result (λ makes positive small two.
    settled_computes c.args.self.now c.args.code.now c.expression.new.code c.settled-2.new.code c.args.e.now c.in_ok-value-2.value c.args.size c.args.room.registers c.args.room.next_temporary
    c.in_ok-value-2.ensures.computes c.in_ok-value-2.ensures.known makes positive small two) c.settled-2.ensures.makes

-- src/subscripts.rt:318:5
pub reduced-returns-clause-known : goal.reduced-returns-clause-known
reduced-returns-clause-known t c =
    IfOk-weaker c.settled-2.result _ _ (λ made holds positive small.
    settled_known c.args.self.now c.args.e.now c.args.size c.in_ok-value-2.value made c.in_ok-value-2.ensures.known holds positive small) c.settled-2.ensures.holds

-- src/operands.rt:81:5
pub with_constant-returns-clause-computes : goal.with_constant-returns-clause-computes
with_constant-returns-clause-computes t c =
    on_ok_weaker c.apply_constant.result (λ both unshifted enough.
    last_computes c.args.self.now c.args.code.now c.expression.new.code c.apply_constant.new.code c.args.operator c.args.left.now c.in_ok-b.b c.args.c c.args.room.registers c.args.room.next_temporary
    c.in_ok-b.ensures.computes c.in_ok-b.ensures.known both.0 both.1 unshifted enough)
    (on_ok_both _ _ c.apply_constant.result c.apply_constant.ensures.makes c.apply_constant.ensures.immediate)

-- src/operands.rt:81:5
pub with_constant-returns-clause-known : goal.with_constant-returns-clause-known
with_constant-returns-clause-known t c =
    IfOk-weaker c.apply_constant.result _ _ (λ made holds.
    last_known c.args.self.now c.args.operator c.args.left.now c.in_ok-b.b made c.args.c c.in_ok-b.ensures.known holds) c.apply_constant.ensures.holds

pub subscript-returns-in-None-clause-computes : goal.subscript-returns-in-None-clause-computes
subscript-returns-in-None-clause-computes t c =
    on_ok_weaker c.reduced.result (λ computes positive small enough.
    computes positive small (not_constant c.args.self.now c.args.e.now c.args.size c.args.room.registers c.in-None.ensures.none enough)) c.reduced.ensures.computes

pub operands-returns-then-need-room-clause-right : goal.operands-returns-then-need-room-clause-right
operands-returns-then-need-room-clause-right t c =
    subst (λ k. IsKnown k c.args.right.now c.in_ok-a.a) c.in_ok-b.ensures.knowledge c.in_ok-a.ensures.known

pub operands-returns-in_ok-instr-clause-left : goal.operands-returns-in_ok-instr-clause-left
operands-returns-in_ok-instr-clause-left t c =
    subst (λ k. IsKnown k c.args.left.now c.in_ok-b-2.b) c.in_ok-a-2.ensures.knowledge c.in_ok-b-2.ensures.known

pub operands-returns-else-not-commute-clause-left : goal.operands-returns-else-not-commute-clause-left
operands-returns-else-not-commute-clause-left t c =
    subst (λ k. IsKnown k c.args.left.now c.in_ok-b-2.b) c.in_ok-a-2.ensures.knowledge c.in_ok-b-2.ensures.known

pub operands-returns-clause-left : goal.operands-returns-clause-left
operands-returns-clause-left t c =
    subst (λ k. IsKnown k c.args.left.now c.in_ok-b-3.b) c.in_ok-a-3.ensures.knowledge c.in_ok-b-3.ensures.known

pub shifted-returns-then-need_of_count-room-clause-count : goal.shifted-returns-then-need_of_count-room-clause-count
shifted-returns-then-need_of_count-room-clause-count t c =
    subst (λ k. IsKnownOf k c.args.count.now (subscript_value c.args.count.now 32) c.in_ok-a.a) c.in_ok-b.ensures.knowledge (c.in_ok-a.ensures.known (omega arith) (omega arith))

pub shifted-returns-then-need-room-clause-count : goal.shifted-returns-then-need-room-clause-count
shifted-returns-then-need-room-clause-count t c =
    c.in_ok-a-2.ensures.known (omega arith) (omega arith)

pub shifted-returns-then-need-room-clause-left : goal.shifted-returns-then-need-room-clause-left
shifted-returns-then-need-room-clause-left t c =
    subst (λ k. IsKnown k c.args.left.now c.in_ok-b-2.b) c.in_ok-a-2.ensures.knowledge c.in_ok-b-2.ensures.known

pub shifted-returns-clause-count : goal.shifted-returns-clause-count
shifted-returns-clause-count t c =
    subst (λ k. IsKnownOf k c.args.count.now (subscript_value c.args.count.now 32) c.in_ok-a-3.a) c.in_ok-b-3.ensures.knowledge (c.in_ok-a-3.ensures.known (omega arith) (omega arith))

pub constant_first-returns-then-need-room-clause-known : goal.constant_first-returns-then-need-room-clause-known
constant_first-returns-then-need-room-clause-known t c =
    IfOk-weaker c.apply.result _ _ (λ made holds.
    first_known c.args.self.now c.args.operator c.args.right.now c.args.c c.in_ok-b.b c.in_ok-a.a made c.in_ok-b.ensures.holds c.in_ok-a.ensures.known holds) c.apply.ensures.holds

pub constant_first-returns-clause-known : goal.constant_first-returns-clause-known
constant_first-returns-clause-known t c =
    IfOk-weaker c.apply-2.result _ _ (λ made holds.
    first_known c.args.self.now c.args.operator c.args.right.now c.args.c c.in_ok-b-2.b c.in_ok-a-2.a made c.in_ok-b-2.ensures.holds c.in_ok-a-2.ensures.known holds) c.apply-2.ensures.holds

pub in_order-returns-clause-known : goal.in_order-returns-clause-known
in_order-returns-clause-known t c =
    IfOk-weaker c.apply.result _ _ (λ made holds.
    applied_known c.args.self.now c.args.operator c.args.left.now c.args.right.now c.in_ok-b.b c.in_ok-b.a made c.in_ok-b.ensures.left c.in_ok-b.ensures.right holds) c.apply.ensures.holds

pub in_order-returns-in-Some-clause-known : goal.in_order-returns-in-Some-clause-known
in_order-returns-in-Some-clause-known t c =
    IfOk-weaker c.with_constant.result _ _ (λ value known.
    right_constant_known c.args.self.now c.args.operator c.args.left.now c.args.right.now c.in-Some.c value (sym c.constant_of.ensures.value ∙ c.in-Some.is) known) c.with_constant.ensures.known

pub expression-returns-in-Binary-clause-known : goal.expression-returns-in-Binary-clause-known
expression-returns-in-Binary-clause-known t c =
    IfOk-weaker c.binary.result _ _ (λ value known.
    rw c.in-Binary.is (binary_known c.args.self.now c.in-Binary.operator _ c.in-Binary.left.value _ c.in-Binary.right.value value
    (subst (λ f. IsKnownOfBoth c.args.self.now c.in-Binary.left.value f (applied_value c.in-Binary.operator c.in-Binary.left.value f) value) c.deref-in-Binary-2.ensures
    (subst (λ e. IsKnownOfBoth c.args.self.now e c.deref-in-Binary-2.result.now (applied_value c.in-Binary.operator e c.deref-in-Binary-2.result.now) value)
    c.deref-in-Binary.ensures known)))) c.binary.ensures.known

pub expression-returns-in-Not-clause-known : goal.expression-returns-in-Not-clause-known
expression-returns-in-Not-clause-known t c =
    IfOk-weaker c.inverted.result _ _ (λ value known.
    rw c.in-Not.is (not_known c.args.self.now _ c.in-Not.e.value value
    (subst (λ e. IsKnownOf c.args.self.now e (inverse_of e) value) c.deref-in-Not.ensures known))) c.inverted.ensures.known

pub bind-returns-clause-knows : goal.bind-returns-clause-knows
bind-returns-clause-knows t c =
    subst (λ after. Binds c.args.self.now after c.args.x c.args.e.now) (sym (c.set_fact-2.ensures ∙ ap (λ f. with_fact c.args.x f c.expression.new.self) c.valued.ensures
    ∙ ap (with_fact c.args.x (valued_fact c.in_ok-value.value.source)) c.in_ok-value.ensures.knowledge))
    (value_binds c.args.self.now c.args.x c.args.e.now c.in_ok-value.value c.in_ok-value.ensures.known)

pub inverted-returns-then-is_within-clause-known : goal.inverted-returns-then-is_within-clause-known
inverted-returns-then-is_within-clause-known t c =
    rw c.in-Not.is (same_known c.args.self.now _ c.in-Not.e.value c.in_ok-value.value
    (subst (λ e. IsKnown c.args.self.now e c.in_ok-value.value) c.deref-in-Not.ensures c.in_ok-value.ensures.known)
    (λ word holds. c.below.ensures.within (omega arith) (omega arith) word holds.small (c.is_within.ensures.contains c.if-is_within.true word holds.source)))
