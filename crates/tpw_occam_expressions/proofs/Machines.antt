-- What instructions make of machines.
use Rattle.std.proofs.Common.{◌≡◌, ◌+◌, ◌<◌, [], ◌∷◌, ℕ, Some, refl, ap, ◌∙◌}
use Rattle.tp_decode.specs.declared.instr.Instr.{Instr}
use Rattle.tp_decode.specs.declared.instr.Instr.TheVariants.{Eqc, Diff, Add, Prod, Gt, Sub, Rem, Div, BitXor, Shr, Shl, BitAnd, BitOr, Sum, Mul}
use Rattle.tpw_occam_core.specs.declared.arithmetic.Answer.{Answer}
use Rattle.tpw_occam_symbolic.specs.declared.code.Step.TheVariants.{Plain}
use Rattle.tpw_occam_symbolic.specs.Code.{Lines, followed_by, line_of, place_behind}
use Rattle.tpw_occam_symbolic.specs.Symbolic.{Machine, pair_answer, pair_effect, effect, performed, at_place, number, set_areg}
use Rattle.tpw_occam_symbolic.specs.Leading.{Makes}
use Rattle.tpw_occam_expressions.specs.Values.{HasOperands, HasNumber, answered, working}
use Rattle.tpw_occam_core.specs.Arithmetic.{pure, applied}
use Rattle.tpw_occam_core.specs.declared.expression.Operator.{Operator}
use Rattle.tpw_occam_core.specs.declared.expression.Operator.TheVariants as operator
use Rattle.tp_words.specs.Numbers.{truth}
use Rattle.tp_words.specs.Words.{signed}
use Rattle.std.specs.Ordering.{int_eq}
use Rattle.std.specs.Prelude.{ℤ, pos, ◌^◌}
use Rattle.tpw_occam_symbolic.proofs.Leading.{does_step, makes_both}
use Rattle.tpw_occam_symbolic.proofs.Words.{difference_zero}

effect_pair : (instr : Instr) (m : Machine) (b a : ℕ) (made : Answer) → pair_answer instr b a ≡ Some made
    → effect instr m ≡ pair_effect instr m
unfolding effect
effect_pair Add m b a made e = refl
effect_pair Sub m b a made e = refl
effect_pair Mul m b a made e = refl
effect_pair Sum m b a made e = refl
effect_pair Diff m b a made e = refl
effect_pair Prod m b a made e = refl
effect_pair Div m b a made e = refl
effect_pair Rem m b a made e = refl
effect_pair BitAnd m b a made e = refl
effect_pair BitOr m b a made e = refl
effect_pair BitXor m b a made e = refl
effect_pair Gt m b a made e = refl
effect_pair Shl m b a made e = refl
effect_pair Shr m b a made e = refl
effect_pair instr m b a made e = cc

pair_made : (instr : Instr) (m : Machine) (b a : ℕ) (made : Answer) → pair_answer instr b a ≡ Some made
    → HasOperands b a m → pair_effect instr m ≡ Some (answered made m)
unfolding pair_effect
pair_made instr m b a made e (breg, areg) = rw areg (rw breg (rw e refl))

-- an instruction that works on two numbers
pub makes_pair : (old new : Lines) (source : ℕ) (instr : Instr) (b a : ℕ) (made : Answer)
    → new ≡ followed_by old (line_of source (Plain instr) ∷ []) → pair_answer instr b a ≡ Some made
    → Makes old new (HasOperands b a) (answered made)
unfolding performed
makes_pair old new source instr b a made is e w =
    does_step w old new source (Plain instr) (HasOperands b a) (answered made) is
    (λ m operands served.
    effect_pair instr (at_place (m.place + 1) m) b a made e ∙ pair_made instr (at_place (m.place + 1) m) b a made e operands)
    (λ m. refl) (λ m. refl) (λ m. refl)

-- whether Areg is a number
pub makes_eqc : (old new : Lines) (source : ℕ) (n : ℤ) (a : ℕ) → new ≡ followed_by old (line_of source (Plain (Eqc n)) ∷ [])
    → Makes old new (HasNumber a) (set_areg (number (truth (int_eq (signed a) n))))
unfolding performed effect
makes_eqc old new source n a is w =
    does_step w old new source (Plain (Eqc n)) (HasNumber a) (set_areg (number (truth (int_eq (signed a) n)))) is
    (λ m areg served. rw areg refl)
    (λ m. refl) (λ m. refl) (λ m. refl)

-- the difference, and whether it is 0
pub makes_equal : (old between new : Lines) (source : ℕ) (b a : ℕ) → b < 2 ^ 32 → a < 2 ^ 32
    → between ≡ followed_by old (line_of source (Plain Diff) ∷ [])
    → new ≡ followed_by between (line_of source (Plain (Eqc (pos 0))) ∷ [])
    → Makes old new (HasOperands b a) (answered (applied operator.Equal b a))
makes_equal old between new source b a hb ha one two =
    makes_both old between new (HasOperands b a) (HasNumber (applied operator.Minus b a).word)
    (answered (applied operator.Minus b a)) (set_areg (number (truth (int_eq (signed (applied operator.Minus b a).word) (pos 0)))))
    (answered (applied operator.Equal b a))
    (makes_pair old between source Diff b a (applied operator.Minus b a) one refl)
    (makes_eqc between new source (pos 0) (applied operator.Minus b a).word two)
    (λ m said. refl)
    (λ m said. ap (λ t. at_place (place_behind new) (answered (pure (truth t)) m)) (difference_zero b a hb ha))

pub working_same : (made : Operator) → (made ≡ operator.Equal → ⊥) → working made ≡ made
working_same operator.Equal not = absurd (not refl)
working_same made not = refl
