-- What is made of operators that the core lacks.
use Rattle.std.proofs.Common.{◌≡◌, ℕ, ◌==◌, Bool, true, false, not, ◌||◌, ℤ, pos, negsuc, ◌-ℤ◌, int_lt, int_le, refl, sym, ap, ◌∙◌, arith}
use Rattle.std.proofs.lemmas.Bool.Decides.{nat_tests}
use Rattle.tp_words.specs.Words.{signed, low_word}
use Rattle.tp_words.specs.Numbers.{truth}
use Rattle.tpw_occam_core.specs.declared.arithmetic.Answer.{Answer}
use Rattle.tpw_occam_core.specs.declared.expression.Operator.TheVariants.{Minus, Equal, Greater}
use Rattle.tpw_occam_core.specs.Arithmetic.{answer, pure, applied}
use Rattle.tpw_occam_core.specs.Meaning.{bind}
use Rattle.tpw_occam_meaning.specs.declared.operator.Dyadic.TheVariants as two
use Rattle.tpw_occam_meaning.specs.Values.{combined}

or_false : (p : Bool) → (p || false) ≡ p
or_false true = refl
or_false false = refl

turned_flags : (p q : Bool) → (q || (p || false)) ≡ (p || (q || false))
turned_flags true true = refl
turned_flags true false = refl
turned_flags false true = refl
turned_flags false false = refl

at_most_is : (x y : ℤ) → int_le x y ≡ not (int_lt y x)
at_most_is (pos a) (pos b) = grind (arith, nat_tests)
at_most_is (pos a) (negsuc b) = refl
at_most_is (negsuc a) (pos b) = refl
at_most_is (negsuc a) (negsuc b) = grind (arith, nat_tests)

truth_not : (b : Bool) → truth (truth b == 0) ≡ truth (not b)
truth_not true = refl
truth_not false = refl

-- the other operand first
turned : (x y : Answer) (f : ℕ → ℕ → ℕ) →
    bind y (λ a. bind x (λ b. pure (f b a))) ≡ bind x (λ b. bind y (λ a. pure (f b a)))
turned x y f = ap (answer (f x.word y.word)) (turned_flags x.flag y.flag)

-- a truth value, turned
negated : (x : Answer) (b : Bool) → x.word ≡ truth b →
    bind x (λ a. pure (truth (a == 0))) ≡ answer (truth (not b)) x.flag
negated x b h = (λ i. answer (truth (h i == 0)) (or_false x.flag i)) ∙ ap (λ word. answer word x.flag) (truth_not b)

pub less_made : (x y : Answer) → bind y (λ a. bind x (applied Greater a)) ≡ combined two.Less x y
less_made x y = turned x y (λ b a. truth (int_lt (signed b) (signed a)))

pub not_equal_made : (x y : Answer) →
    bind (bind x (λ b. bind y (applied Equal b))) (λ a. pure (truth (a == 0))) ≡ combined two.NotEqual x y
not_equal_made x y = negated (bind x (λ b. bind y (applied Equal b))) (x.word == y.word) refl

pub at_most_made : (x y : Answer) →
    bind (bind x (λ b. bind y (applied Greater b))) (λ a. pure (truth (a == 0))) ≡ combined two.AtMost x y
at_most_made x y =
    negated (bind x (λ b. bind y (applied Greater b))) (int_lt (signed y.word) (signed x.word)) refl
    ∙ ap (λ b. answer (truth b) (x.flag || (y.flag || false))) (sym (at_most_is (signed x.word) (signed y.word)))

pub at_least_made : (x y : Answer) →
    bind (bind y (λ a. bind x (applied Greater a))) (λ a. pure (truth (a == 0))) ≡ combined two.AtLeast x y
at_least_made x y =
    negated (bind y (λ a. bind x (applied Greater a))) (int_lt (signed x.word) (signed y.word)) refl
    ∙ (λ i. answer (truth (sym (at_most_is (signed y.word) (signed x.word)) i)) (turned_flags x.flag y.flag i))

pub after_made : (x y : Answer) →
    bind (bind x (λ b. bind y (applied Minus b))) (λ w. bind (pure 0) (applied Greater w)) ≡ combined two.After x y
after_made x y = ap (answer (truth (int_lt (pos 0) (signed (low_word (pos x.word -ℤ pos y.word)))))) (or_false (x.flag || (y.flag || false)))
