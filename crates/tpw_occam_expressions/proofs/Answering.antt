-- What code makes of a number in Areg.
use Rattle.std.proofs.Common.{◌≡◌, [], ◌∷◌, ℕ, Some, refl, ap, sym, ◌∙◌, arith}
use Rattle.std.specs.Prelude.{◌||◌, nat_le}
use Rattle.std.proofs.Math.Bool.{or_assoc, or-false}
use Rattle.tp_decode.specs.declared.instr.Instr.{Instr}
use Rattle.tp_decode.specs.declared.instr.Instr.TheVariants.{Csub0}
use Rattle.tpw_occam_core.specs.declared.arithmetic.Answer.{Answer}
use Rattle.tpw_occam_core.specs.Arithmetic.{answer, pure}
use Rattle.tpw_occam_symbolic.specs.declared.code.Step.TheVariants.{Plain}
use Rattle.tpw_occam_symbolic.specs.Code.{Lines, followed_by, line_of, place_behind}
use Rattle.tpw_occam_symbolic.specs.Symbolic.{Machine, pair_answer, effect, performed, at_place, number, push, pop, raised}
use Rattle.tpw_occam_symbolic.specs.Leading.{Makes, HasConstants}
use Rattle.tpw_occam_core.specs.declared.expression.Operator.{Operator}
use Rattle.tpw_occam_core.specs.declared.expression.Operator.TheVariants.{ShiftLeft, ShiftRight}
use Rattle.tpw_occam_expressions.specs.Computing.{IsNoShift}
use Rattle.tpw_occam_expressions.specs.Values.{HasCount, HasOperands, HasNumber, Replaces, Answers, answered}
use Rattle.tpw_occam_symbolic.proofs.Leading.{does_step, does_both, does_less, does_nothing}
use Rattle.tpw_occam_expressions.proofs.Machines.{makes_pair}

-- one answer after another
replaces_then : (registers : ℕ) (one two : Answer) (m middle end : Machine) → Replaces registers one m middle
    → Replaces registers two middle end → Replaces registers (answer two.word (one.flag || two.flag)) m end
replaces_then registers one two m middle end a b = record {
  areg = b.areg;
  breg = λ h. b.breg h ∙ a.breg h;
  creg = λ h. b.creg h ∙ a.creg h;
  error = b.error ∙ ap (λ e. e || two.flag) a.error ∙ or_assoc m.error one.flag two.flag;
  blocks = b.blocks ∙ a.blocks;
  to_come = b.to_come ∙ a.to_come;
  sent = b.sent ∙ a.sent;
  traced = b.traced ∙ a.traced;
}

constants_stay : (registers : ℕ) (made : Answer) (m end : Machine) → Replaces registers made m end → HasConstants m → HasConstants end
constants_stay registers made m end r has c h = rw r.blocks (has c h)

pub answers_then : (old between new : Lines) (registers a : ℕ) (one two : Answer) → Answers old between registers a one
    → Answers between new registers one.word two → Answers old new registers a (answer two.word (one.flag || two.flag))
answers_then old between new registers a one two first second arrays =
    does_both arrays old between new _ _ _ _ _ (first arrays) (second arrays)
    (λ m middle said r. (constants_stay registers one m middle r said.0, r.areg))
    (λ m middle end said r r2. replaces_then registers one two m middle end r r2)

-- no code: the number stays
pub answers_nothing : (code : Lines) (registers a : ℕ) → Answers code code registers a (pure a)
answers_nothing code registers a arrays =
    does_less arrays code code _ _ _ _ (does_nothing arrays code) (λ m said. tt)
    (λ m end said is. record {
      areg = ap (λ e. e.areg) is ∙ said.1;
      breg = λ h. ap (λ e. e.breg) is;
      creg = λ h. ap (λ e. e.creg) is;
      error = ap (λ e. e.error) is ∙ sym (or-false m.error);
      blocks = ap (λ e. e.blocks) is;
      to_come = ap (λ e. e.to_come) is;
      sent = ap (λ e. e.sent) is;
      traced = ap (λ e. e.traced) is;
    })

-- a constant above the number, and what works on both
pub answers_above : (old between new : Lines) (a c : ℕ) (made : Answer)
    → Makes old between HasConstants (push (number c)) → Makes between new (HasOperands a c) (answered made) → Answers old new 2 a made
answers_above old between new a c made pushes works arrays =
    does_both arrays old between new _ _ _ _ _
    (does_less arrays old between _ _ (λ m. HasConstants m × HasNumber a m) _ (pushes arrays) (λ m said. said.0) (λ m end said at. at))
    (works arrays)
    (λ m middle said at. (ap (λ x. x.breg) at ∙ said.1, ap (λ x. x.areg) at))
    (λ m middle end said at at2.
    let both : end ≡ at_place (place_behind new) (answered made (push (number c) m)) = at2 ∙ ap (λ x. at_place (place_behind new) (answered made x)) at in
    record {
      areg = ap (λ x. x.areg) both;
      breg = λ h. ap (λ x. x.breg) both;
      creg = λ h. absurd (omega arith);
      error = ap (λ x. x.error) both;
      blocks = ap (λ x. x.blocks) both;
      to_come = ap (λ x. x.to_come) both;
      sent = ap (λ x. x.sent) both;
      traced = ap (λ x. x.traced) both;
    })

-- .. an instruction that works on both
pub answers_constant : (old between new : Lines) (source : ℕ) (instr : Instr) (a c : ℕ) (made : Answer)
    → Makes old between HasConstants (push (number c)) → new ≡ followed_by between (line_of source (Plain instr) ∷ [])
    → pair_answer instr a c ≡ Some made → Answers old new 2 a made
answers_constant old between new source instr a c made pushes is e =
    answers_above old between new a c made pushes (makes_pair between new source instr a c made is e)

pub count_of_no_shift : (operator : Operator) (a : ℕ) → IsNoShift operator → HasCount operator a
count_of_no_shift ShiftLeft a unshifted = absurd unshifted
count_of_no_shift ShiftRight a unshifted = absurd unshifted
count_of_no_shift operator a unshifted = tt

-- a size above the number, and a check
pub answers_check : (old between new : Lines) (source a size : ℕ)
    → Makes old between HasConstants (push (number size)) → new ≡ followed_by between (line_of source (Plain Csub0) ∷ [])
    → Answers old new 2 a (answer a (nat_le size a))
unfolding performed effect
answers_check old between new source a size pushes is arrays =
    does_both arrays old between new _ _ _ _ _
    (does_less arrays old between _ _ (λ m. HasConstants m × HasNumber a m) _ (pushes arrays) (λ m said. said.0) (λ m end said at. at))
    (does_step arrays between new source (Plain Csub0) (HasOperands a size) (λ m. pop (raised (nat_le size a) m)) is
    (λ m said served. rw said.1 (rw said.0 refl)) (λ m. refl) (λ m. refl) (λ m. refl))
    (λ m middle said at. (ap (λ x. x.breg) at ∙ said.1, ap (λ x. x.areg) at))
    (λ m middle end said at at2.
    let both : end ≡ at_place (place_behind new) (pop (raised (nat_le size a) (push (number size) m))) =
    at2 ∙ ap (λ x. at_place (place_behind new) (pop (raised (nat_le size a) x))) at in
    record {
      areg = ap (λ x. x.areg) both ∙ said.1;
      breg = λ h. ap (λ x. x.breg) both;
      creg = λ h. absurd (omega arith);
      error = ap (λ x. x.error) both;
      blocks = ap (λ x. x.blocks) both;
      to_come = ap (λ x. x.to_come) both;
      sent = ap (λ x. x.sent) both;
      traced = ap (λ x. x.traced) both;
    })
