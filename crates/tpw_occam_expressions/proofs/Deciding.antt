-- The code of conditions.
use Rattle.std.proofs.Common.{◌≡◌, ◌⊎◌, inl, inr, ◌^◌, ◌<◌, [], ◌∷◌, ℕ, List, Some, Bool, false, true, nat_eq, refl, ap, sym, subst, ◌∙◌, arith}
use Rattle.std.specs.Prelude.{◌||◌, pos, ◌-ℤ◌}
use Rattle.std.proofs.Math.Bool.{or-false}
use Rattle.std.proofs.lemmas.Bool.Decides.{nat_tests}
use Rattle.tp_state.proofs.WordLemmas.{low_word_lt}
use Rattle.tp_words.specs.Words.{low_word}
use Rattle.tp_decode.specs.declared.instr.Instr.TheVariants.{Diff}
use Rattle.tp_words.specs.Numbers.{truth}
use Rattle.tpw_occam_core.specs.declared.expression.Operator.{Operator}
use Rattle.tpw_occam_core.specs.declared.expression.Operator.TheVariants as operators
use Rattle.tpw_occam_core.specs.declared.expression.Expression.{Expression}
use Rattle.tpw_occam_core.specs.declared.expression.Expression.TheVariants.{Binary', Not'}
use Rattle.tpw_occam_core.specs.Arithmetic.{pure, applied}
use Rattle.tpw_occam_core.specs.Meaning.{value_of}
use Rattle.tpw_occam_symbolic.specs.declared.code.Step.TheVariants.{Plain}
use Rattle.tpw_occam_expressions.specs.declared.expressions.Value.{Value}
use Rattle.tpw_occam_symbolic.specs.Code.{Lines, followed_by, line_of}
use Rattle.tpw_occam_symbolic.specs.Symbolic.{Machine, number}
use Rattle.tpw_occam_symbolic.specs.Leading.{Does}
use Rattle.tpw_occam_expressions.specs.Values.{HasOperands}
use Rattle.tpw_occam_expressions.specs.Agreement.{Knowledge, constant_in}
use Rattle.tpw_occam_expressions.specs.Computing.{Computes, ComputesTwo, IsKnown, Decides, DecidesUnequal}
use Rattle.tpw_occam_symbolic.proofs.Leading.{does_both, does_less}
use Rattle.tpw_occam_expressions.proofs.Machines.{makes_pair}
use Rattle.tpw_occam_symbolic.proofs.Words.{difference_zero, zero_read}
use Rattle.tpw_occam_expressions.proofs.Constructs.{constant_value}
use Rattle.tpw_occam_expressions.proofs.Standing.{Place, stand_not, stand_binary, suffices_two}

-- ---- whether two are equal

unequal_test : (b : Bool) → nat_eq (truth (nat_eq (truth b) 0)) 0 ≡ b
unequal_test true = refl
unequal_test false = refl

unequal_flag : (l r : Bool) → ((l || (r || false)) || false) ≡ (l || r)
unequal_flag l r = or-false _ ∙ ap (λ x. l || x) (or-false r)

same_turned : (b a : ℕ) → nat_eq b a ≡ nat_eq a b
same_turned b a = grind (arith, nat_tests)

difference_test : (b a : ℕ) → b < 2 ^ 32 → a < 2 ^ 32 → nat_eq (low_word (pos b -ℤ pos a)) 0 ≡ nat_eq b a
difference_test b a hb ha = sym (zero_read (low_word (pos b -ℤ pos a)) (low_word_lt (pos b -ℤ pos a))) ∙ difference_zero b a hb ha

-- What is 0 where two numbers are equal takes their place.
record Differs (b a : ℕ) (m end : Machine) : Type 0 where
  word : ℕ
  areg : end.areg ≡ number word
  same : nat_eq word 0 ≡ nat_eq b a
  error : end.error ≡ m.error
  blocks : end.blocks ≡ m.blocks
  to_come : end.to_come ≡ m.to_come
  sent : end.sent ≡ m.sent
  traced : end.traced ≡ m.traced

does_difference : (w : List ℕ) (old new : Lines) (source b a : ℕ) → b < 2 ^ 32 → a < 2 ^ 32
    → new ≡ followed_by old (line_of source (Plain Diff) ∷ [])
    → Does w old new (HasOperands b a) (Differs b a)
does_difference w old new source b a hb ha is =
    does_less w old new _ _ (HasOperands b a) _ (makes_pair old new source Diff b a (applied operators.Minus b a) is refl w) (λ m said. said)
    (λ m end said at. record {
      word = low_word (pos b -ℤ pos a);
      areg = ap (λ z. z.areg) at;
      same = difference_test b a hb ha;
      error = ap (λ z. z.error) at ∙ or-false m.error;
      blocks = ap (λ z. z.blocks) at;
      to_come = ap (λ z. z.to_come) at;
      sent = ap (λ z. z.sent) at;
      traced = ap (λ z. z.traced) at;
    })

-- .. in either order
does_either : (w : List ℕ) (old new : Lines) (source b a : ℕ) → b < 2 ^ 32 → a < 2 ^ 32
    → new ≡ followed_by old (line_of source (Plain Diff) ∷ [])
    → Does w old new (λ m. HasOperands b a m ⊎ ((true ≡ true) × HasOperands a b m)) (Differs b a)
does_either w old new source b a hb ha is =
    let one = does_difference w old new source b a hb ha is in
    let two : Does w old new (HasOperands a b) (Differs b a) =
    does_less w old new _ _ (HasOperands a b) (Differs b a) (does_difference w old new source a b ha hb is) (λ m said. said)
    (λ m end said d. record {
      word = d.word;
      areg = d.areg;
      same = d.same ∙ same_turned a b;
      error = d.error;
      blocks = d.blocks;
      to_come = d.to_come;
      sent = d.sent;
      traced = d.traced;
    }) in
    record {
      base = one.base;
      more = one.more;
      lines = one.lines;
      arrives = λ m at said. elim said [
        | inl in_order ↦ one.arrives m at in_order
        | inr swapped ↦ two.arrives m at swapped.1
      ];
    }

pub decides_operands : (k : Knowledge) (old between new : Lines) (source : ℕ) (left right : Expression) (b a : Value) (registers kept : ℕ)
    → ComputesTwo k old between left right (value_of left) (value_of right) true registers kept → IsKnown k left b → IsKnown k right a
    → new ≡ followed_by between (line_of source (Plain Diff) ∷ []) → DecidesUnequal k old new left right registers kept
decides_operands k old between new source left right b a registers kept two left_known right_known is storages scope unset s place one other least most knows =
    let l = value_of left s in
    let r = value_of right s in
    let hl = (left_known storages scope unset s place one knows).small in
    let hr = (right_known storages scope unset s place other knows).small in
    does_both k.arrays old between new _ _ _ _ _ (two storages scope unset s place one other least most knows)
    (does_either k.arrays between new source l.word r.word hl hr is)
    (λ m middle agrees after. after.0.operands)
    (λ m middle end agrees after d. record {
      word = d.word;
      areg = d.areg;
      same = d.same ∙ sym (unequal_test (nat_eq l.word r.word));
      error = d.error ∙ after.0.error ∙ ap (λ f. m.error || f) (sym (unequal_flag l.flag r.flag));
      leaves = record {
        blocks = λ i at stays. ap (λ z. z i at) d.blocks ∙ after.1.blocks i at stays;
        to_come = d.to_come ∙ after.1.to_come;
        sent = d.sent ∙ after.1.sent;
        traced = d.traced ∙ after.1.traced;
      };
    })

-- one of both is 0
pub decides_left : (k : Knowledge) (old new : Lines) (left right : Expression) (c registers kept : ℕ) → constant_in k right ≡ Some c → c ≡ 0
    → Computes k old new left registers kept → DecidesUnequal k old new left right registers kept
decides_left k old new left right c registers kept is none computes storages scope unset s place one other least most knows =
    let l = value_of left s in
    let r = value_of right s in
    let value : r ≡ pure c = constant_value k storages scope unset s right c other knows is in
    does_less k.arrays old new _ _ _ _ (computes storages scope unset s place one (suffices_two k registers left least most) knows) (λ m said. said)
    (λ m end agrees after. record {
      word = l.word;
      areg = after.0.areg;
      same = ap (nat_eq l.word) (sym (ap (λ v. v.word) value ∙ none)) ∙ sym (unequal_test (nat_eq l.word r.word));
      error = after.0.error ∙ ap (λ f. m.error || f) (sym (or-false l.flag) ∙ ap (λ f. l.flag || f) (sym (ap (λ v. v.flag) value)) ∙ sym (unequal_flag l.flag r.flag));
      leaves = after.1;
    })

pub decides_right : (k : Knowledge) (old new : Lines) (left right : Expression) (c registers kept : ℕ) → constant_in k left ≡ Some c → c ≡ 0
    → Computes k old new right registers kept → DecidesUnequal k old new left right registers kept
decides_right k old new left right c registers kept is none computes storages scope unset s place one other least most knows =
    let l = value_of left s in
    let r = value_of right s in
    let value : l ≡ pure c = constant_value k storages scope unset s left c one knows is in
    does_less k.arrays old new _ _ _ _ (computes storages scope unset s place other (suffices_two k registers right least most) knows) (λ m said. said)
    (λ m end agrees after. record {
      word = r.word;
      areg = after.0.areg;
      same = same_turned r.word 0 ∙ ap (λ w. nat_eq w r.word) (sym (ap (λ v. v.word) value ∙ none)) ∙ sym (unequal_test (nat_eq l.word r.word));
      error = after.0.error ∙ ap (λ f. m.error || f) (ap (λ f. f || r.flag) (sym (ap (λ v. v.flag) value)) ∙ sym (unequal_flag l.flag r.flag));
      leaves = after.1;
    })

-- ---- conditions

pub decides_value : (k : Knowledge) (old new : Lines) (e : Expression) (registers kept : ℕ) → Computes k old new e registers kept
    → Decides k old new e registers kept
decides_value k old new e registers kept computes storages scope unset s place stands least most knows =
    does_less k.arrays old new _ _ _ _ (computes storages scope unset s place stands (suffices_two k registers e least most) knows) (λ m said. said)
    (λ m end agrees after. record {
      word = (value_of e s).word;
      areg = after.0.areg;
      same = refl;
      error = after.0.error;
      leaves = after.1;
    })

pub decides_not_equal : (k : Knowledge) (old new : Lines) (p : Place) (e : Expression) (operator : Operator) (q : Place) (left : Expression) (r : Place)
    (right : Expression) (registers kept : ℕ) → e ≡ Binary' operator q left r right → operator ≡ operators.Equal
    → DecidesUnequal k old new left right registers kept → Decides k old new (Not' p e) registers kept
decides_not_equal k old new p e operator q left r right registers kept is equal decides =
    subst (λ e. Decides k old new (Not' p e) registers kept) (sym (is ∙ ap (λ o. Binary' o q left r right) equal))
    (λ storages scope unset s place stands least most knows.
    let parts = stand_binary k storages scope unset operators.Equal q left r right
    (stand_not k storages scope unset p (Binary' operators.Equal q left r right) stands) in
    decides storages scope unset s place parts.0 parts.1 least most knows)
