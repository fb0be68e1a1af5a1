-- Operators with a constant as their right operand.
use Rattle.std.proofs.Common.{◌≡◌, ◌⊎◌, inl, inr, ◌+◌, ◌-◌, ◌%◌, ◌^◌, ◌<◌, ◌≤◌, [], ◌∷◌, ℕ, suc, ℤ, pos, negsuc, ◌+ℤ◌, ◌-ℤ◌, Option, Some, None, Bool, false, true, nat_eq, refl, ap, sym, subst, ◌∙◌, arith, w32}
use Rattle.std.specs.Prelude.{not, ◌&&◌, ◌==◌, if◌then◌else◌}
use Rattle.std.specs.Option.{option_map, option_and_then}
use Rattle.std.specs.Ordering.{int_eq}
use Rattle.std.specs.Int.{cast_signed, cast_unsigned}
use Rattle.std.proofs.lemmas.Int.{ints, to_z_pos, of_z-to_z}
use Rattle.std.proofs.lemmas.Option.{same_Some}
use Rattle.std.proofs.lemmas.Bool.{cases_lt, eqb-false}
use Rattle.std.proofs.lemmas.Bool.Decides.{nat_tests}
use Rattle.std.proofs.Math.Bool.{or-false}
use Rattle.tp_words.specs.Words.{signed}
use Rattle.tp_decode.specs.declared.instr.Instr.{Instr}
use Rattle.tp_decode.specs.declared.instr.Instr.TheVariants.{Adc, Eqc}
use Rattle.tp_words.specs.Numbers.{truth}
use Rattle.tpw_occam_core.specs.Arithmetic.{checked, applied}
use Rattle.tpw_occam_core.specs.declared.expression.Operator.{Operator}
use Rattle.tpw_occam_core.specs.declared.expression.Operator.TheVariants.{Add, Subtract, Plus, Minus, Equal}
use Rattle.tpw_occam_symbolic.specs.declared.code.Step.TheVariants.{Plain}
use Rattle.tpw_occam_symbolic.specs.Code.{Lines, followed_by, line_of}
use Rattle.tpw_occam_symbolic.specs.Symbolic.{effect, performed, at_place, number, set_areg}
use Rattle.tpw_occam_expressions.specs.Computing.{immediate_of, operand_of}
use Rattle.tpw_occam_symbolic.specs.Code.{is_short}
use Rattle.tpw_occam_expressions.specs.Values.{HasNumber, WorksOn, Answers, answered_one}
use Rattle.tpw_occam_symbolic.proofs.Words.{signed_high}
use Rattle.tpw_occam_expressions.proofs.Computing.{replaces_more}
use Rattle.tpw_occam_core.specs.declared.arithmetic.Answer.{Answer}
use Rattle.tpw_occam_symbolic.proofs.Leading.{does_step, does_less}

-- the operator that may set the flag, and the one that wraps, make the same
abbrev pub HasTwin : Operator → ℕ → ℕ → Type 0
HasTwin Plus b c = applied Add b c ≡ applied Plus b c
HasTwin Minus b c = applied Subtract b c ≡ applied Minus b c
HasTwin operator b c = Unit {0}

-- the operand of an instruction
pub record Operand (operator : Operator) (c : ℕ) (n : ℤ) : Type 0 where
  pub operand : ℕ
  pub is : operand_of operator c ≡ Some operand
  pub not_least : nat_eq operand (2 ^ 31) ≡ false
  pub reads : n ≡ signed operand

pub operand_found : (operator : Operator) (c : ℕ) (n : ℤ) → option_map signed (immediate_of operator c) ≡ Some n → Operand operator c n
operand_found operator c n e = by_operand (operand_of operator c) refl e
  where
    by_tests : (w : ℕ) (short least : Bool) → operand_of operator c ≡ Some w → nat_eq w (2 ^ 31) ≡ least
        → option_map signed (if short && not least then Some w else None) ≡ Some n → Operand operator c n
    by_tests w true false is same e = record { operand = w; is = is; not_least = same; reads = sym (same_Some _ _ e) }
    by_tests w true true is same e = cc
    by_tests w false least is same e = cc

    by_operand : (o : Option ℕ) → operand_of operator c ≡ o
        → option_map signed (option_and_then (λ operand. if is_short operand && not (operand == 2 ^ 31) then Some operand else None) o) ≡ Some n → Operand operator c n
    by_operand None is e = cc
    by_operand (Some w) is e = by_tests w (is_short w) (nat_eq w (2 ^ 31)) is refl e

none_some : {w : ℕ} → ◌≡◌ {A = Option ℕ} None (Some w) → ⊥
none_some e = cc

-- what an i32 of an operand reads as
pub operand_reads : (n : ℤ) (w : ℕ) → w < 2 ^ 32 → n ≡ signed w → cast_signed w32 (cast_unsigned w32 n) ≡ signed w
operand_reads n w small is = ap (λ z. cast_signed w32 (cast_unsigned w32 z)) is ∙ ap signed (of_z-to_z w32 w small)

pub adc_works : (n : ℤ) (a : ℕ) → WorksOn (Adc n) a (checked (signed a +ℤ n))
unfolding effect
adc_works n a m areg = rw areg refl

same_truth : (a c : ℕ) → a < 2 ^ 32 → c < 2 ^ 32 → int_eq (signed a) (signed c) ≡ nat_eq a c
same_truth a c ha hc = grind (arith, ints, nat_tests)

pub eqc_works : (n : ℤ) (a c : ℕ) → a < 2 ^ 32 → c < 2 ^ 32 → n ≡ signed c → WorksOn (Eqc n) a (applied Equal a c)
unfolding effect
eqc_works n a c ha hc is m areg =
    rw areg (ap (λ z. Some (set_areg (number (truth (int_eq (signed a) z))) m)) is
    ∙ ap (λ t. Some (set_areg (number (truth t)) m)) (same_truth a c ha hc)
    ∙ ap (λ e. Some (set_areg (number (truth (nat_eq a c))) (record m { error = e }))) (sym (or-false m.error)))

-- what is taken away is added with the other sign
negated : (c : ℕ) → c < 2 ^ 32 → nat_eq ((2 ^ 32 - c) % 2 ^ 32) (2 ^ 31) ≡ false → (b : ℤ) → b +ℤ signed ((2 ^ 32 - c) % 2 ^ 32) ≡ b -ℤ signed c
negated c h not_least b = by_size (cases_lt 0 c) (cases_lt c (2 ^ 31))
  where
    least : (2 ^ 32 - c) % 2 ^ 32 ≡ 2 ^ 31 → ⊥
    least e = eqb-false _ _ not_least e

    by_size : (0 < c) ⊎ (c ≤ 0) → (c < 2 ^ 31) ⊎ (2 ^ 31 ≤ c) → b +ℤ signed ((2 ^ 32 - c) % 2 ^ 32) ≡ b -ℤ signed c
    by_size (inr none) sign =
        let is : c ≡ 0 = omega arith in
        rw is (omega (arith, ints))
    by_size (inl some) (inl positive) =
        let low : (2 ^ 32 - c) % 2 ^ 32 ≡ 2 ^ 32 - c = omega arith in
        let one : signed c ≡ pos c = to_z_pos w32 c positive in
        let two : signed (2 ^ 32 - c) ≡ negsuc (2 ^ 32 - suc (2 ^ 32 - c)) = signed_high (2 ^ 32 - c) (omega arith) in
        ap (λ n. b +ℤ signed n) low ∙ ap (λ z. b +ℤ z) two ∙ omega (arith, ints) ∙ ap (λ z. b -ℤ z) (sym one)
    by_size (inl some) (inr large) =
        let more : 2 ^ 31 < c = omega (arith, least) in
        let low : (2 ^ 32 - c) % 2 ^ 32 ≡ 2 ^ 32 - c = omega arith in
        let one : signed c ≡ negsuc (2 ^ 32 - suc c) = signed_high c large in
        let two : signed (2 ^ 32 - c) ≡ pos (2 ^ 32 - c) = to_z_pos w32 (2 ^ 32 - c) (omega arith) in
        ap (λ n. b +ℤ signed n) low ∙ ap (λ z. b +ℤ z) two ∙ omega (arith, ints) ∙ ap (λ z. b -ℤ z) (sym one)

-- the one instruction, without the other registers
pub answers_worked : (old new : Lines) (source : ℕ) (instr : Instr) (a : ℕ) (made : Answer) → WorksOn instr a made
    → new ≡ followed_by old (line_of source (Plain instr) ∷ []) → Answers old new 1 a made
unfolding performed
answers_worked old new source instr a made works is arrays =
    does_less arrays old new _ _ _ _
    (does_step arrays old new source (Plain instr) (HasNumber a) (answered_one made) is
    (λ m areg served. works (at_place (m.place + 1) m) areg) (λ m. refl) (λ m. refl) (λ m. refl))
    (λ m said. said.1)
    (λ m end said after. record {
      areg = ap (λ x. x.areg) after;
      breg = λ h. ap (λ x. x.breg) after;
      creg = λ h. ap (λ x. x.creg) after;
      error = ap (λ x. x.error) after;
      blocks = ap (λ x. x.blocks) after;
      to_come = ap (λ x. x.to_come) after;
      sent = ap (λ x. x.sent) after;
      traced = ap (λ x. x.traced) after;
    })

-- the instruction of an operator
sum_works : (n : ℤ) (b c operand : ℕ) → c < 2 ^ 32 → c ≡ operand → n ≡ signed operand
    → WorksOn (Adc (cast_signed w32 (cast_unsigned w32 n))) b (applied Add b c)
sum_works n b c operand hc same reads =
    let reading : cast_signed w32 (cast_unsigned w32 n) ≡ signed c = operand_reads n c hc (reads ∙ ap signed (sym same)) in
    subst (λ x. WorksOn (Adc (cast_signed w32 (cast_unsigned w32 n))) b (checked (signed b +ℤ x))) reading
    (adc_works (cast_signed w32 (cast_unsigned w32 n)) b)

difference_works : (n : ℤ) (b c operand : ℕ) → c < 2 ^ 32 → (2 ^ 32 - c) % 2 ^ 32 ≡ operand → nat_eq operand (2 ^ 31) ≡ false
    → n ≡ signed operand → WorksOn (Adc (cast_signed w32 (cast_unsigned w32 n))) b (applied Subtract b c)
difference_works n b c operand hc same not_least reads =
    let small : operand < 2 ^ 32 = subst (λ w. w < 2 ^ 32) same (omega arith) in
    let reading : cast_signed w32 (cast_unsigned w32 n) ≡ signed ((2 ^ 32 - c) % 2 ^ 32) = operand_reads n operand small reads ∙ ap signed (sym same) in
    let less : signed b +ℤ cast_signed w32 (cast_unsigned w32 n) ≡ signed b -ℤ signed c =
    ap (λ x. signed b +ℤ x) reading ∙ negated c hc (subst (λ w. nat_eq w (2 ^ 31) ≡ false) (sym same) not_least) (signed b) in
    subst (λ x. WorksOn (Adc (cast_signed w32 (cast_unsigned w32 n))) b (checked x)) less
    (adc_works (cast_signed w32 (cast_unsigned w32 n)) b)

pub add_works : (operator : Operator) (n : ℤ) (b c : ℕ) → (operator ≡ Add) ⊎ (operator ≡ Subtract) → c < 2 ^ 32
    → Operand operator c n → WorksOn (Adc (cast_signed w32 (cast_unsigned w32 n))) b (applied operator b c)
add_works operator n b c (inl e) hc found =
    subst (λ o. Operand o c n → WorksOn (Adc (cast_signed w32 (cast_unsigned w32 n))) b (applied o b c)) (sym e)
    (λ f. sum_works n b c f.operand hc (same_Some _ _ f.is) f.reads) found
add_works operator n b c (inr e) hc found =
    subst (λ o. Operand o c n → WorksOn (Adc (cast_signed w32 (cast_unsigned w32 n))) b (applied o b c)) (sym e)
    (λ f. difference_works n b c f.operand hc (same_Some _ _ f.is) f.not_least f.reads) found

pub wrapped_works : (operator : Operator) (n : ℤ) (b c : ℕ) → (operator ≡ Equal → ⊥) → (operator ≡ Add → ⊥) → (operator ≡ Subtract → ⊥) → c < 2 ^ 32
    → Operand operator c n → HasTwin operator b c → WorksOn (Adc (cast_signed w32 (cast_unsigned w32 n))) b (applied operator b c)
wrapped_works Plus n b c not_equal not_add not_subtract hc found twin =
    subst (WorksOn (Adc (cast_signed w32 (cast_unsigned w32 n))) b) twin (sum_works n b c found.operand hc (same_Some _ _ found.is) found.reads)
wrapped_works Minus n b c not_equal not_add not_subtract hc found twin =
    subst (WorksOn (Adc (cast_signed w32 (cast_unsigned w32 n))) b) twin
    (difference_works n b c found.operand hc (same_Some _ _ found.is) found.not_least found.reads)
wrapped_works Equal n b c not_equal not_add not_subtract hc found twin = absurd (not_equal refl)
wrapped_works Add n b c not_equal not_add not_subtract hc found twin = absurd (not_add refl)
wrapped_works Subtract n b c not_equal not_add not_subtract hc found twin = absurd (not_subtract refl)
wrapped_works operator n b c not_equal not_add not_subtract hc found twin = absurd (none_some found.is)

pub equal_works : (n : ℤ) (b c : ℕ) → b < 2 ^ 32 → c < 2 ^ 32 → Operand Equal c n
    → WorksOn (Eqc (cast_signed w32 (cast_unsigned w32 n))) b (applied Equal b c)
equal_works n b c hb hc found =
    eqc_works (cast_signed w32 (cast_unsigned w32 n)) b c hb hc
    (operand_reads n c hc (found.reads ∙ ap signed (sym (same_Some _ _ found.is))))

-- more registers than one are as good
pub answers_two : (old new : Lines) (a : ℕ) (made : Answer) → Answers old new 1 a made → Answers old new 2 a made
answers_two old new a made one arrays =
    does_less arrays old new _ _ _ _ (one arrays) (λ m said. said) (λ m end said after. replaces_more 1 2 made m end (omega arith) after)
