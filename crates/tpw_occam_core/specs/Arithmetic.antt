-- What operators make of words: a word, and whether the error flag is to be set.
use Rattle.std.specs.Prelude.{ℕ, ◌*◌, ◌/◌, ◌%◌, ◌^◌, max, Bool, true, false, not, ◌||◌, ◌&&◌, ◌==◌, nat_lt}
use Rattle.std.specs.Prelude.{if◌then◌else◌, ℤ, pos, ◌+ℤ◌, ◌-ℤ◌, ◌*ℤ◌, int_lt, int_div, int_rem, Option, Some, None}
use Rattle.std.specs.Prelude.{bit_and, bit_or, bit_xor}
use Rattle.std.specs.Ordering.{int_eq}
use Rattle.tp_words.specs.Words.{signed, low_word}
use Rattle.tp_words.specs.Numbers.{least_integer, minus_one, overflows, truth}
use Rattle.tpw_occam_core.specs.declared.arithmetic.Answer.{Answer}
use Rattle.tpw_occam_core.specs.declared.expression.Operator.{Operator}
use Rattle.tpw_occam_core.specs.declared.expression.Operator.TheVariants.{Add, Subtract, Multiply, Plus, Minus, Times}
use Rattle.tpw_occam_core.specs.declared.expression.Operator.TheVariants.{Divide, Remainder, BitAnd, BitOr, BitXor}
use Rattle.tpw_occam_core.specs.declared.expression.Operator.TheVariants.{ShiftLeft, ShiftRight, Equal, Greater}

abbrev pub answer : ℕ → Bool → Answer
answer word flag = record { word = word; flag = flag }

-- a word that sets no flag
abbrev pub pure : ℕ → Answer
pure word = answer word false

-- a whole number's low 32 bits; the flag is set where it is no word
abbrev pub checked : ℤ → Answer
checked z = answer (low_word z) (overflows z)

abbrev pub wrapped : ℤ → Answer
wrapped z = pure (low_word z)

-- a quotient or a remainder, where there is one, and else 0 and the flag
abbrev pub quotient_answer : Option ℕ → Answer
quotient_answer None = answer 0 true
quotient_answer (Some word) = pure word

-- by 0, and of the least number by -1, there is none
abbrev pub divided : (ℤ → ℤ → ℤ) → ℤ → ℤ → Answer
divided divide b a =
    quotient_answer
    (if int_eq a (pos 0) || (int_eq b least_integer && int_eq a minus_one) then None
    else Some (low_word (divide b a)))

-- a subscript of this many elements, read unsigned; where there is no such element the flag is set, and one is taken
abbrev pub subscript : ℕ → ℕ → Answer
subscript below i = if nat_lt i below then pure i else answer (i % 2 ^ 31 % max below 1) true

-- the low byte; where there is more the flag is set
abbrev pub low_byte : ℕ → Answer
low_byte a = answer (a % 256) (not (nat_lt a 256))

-- shifts, by a count that is a subscript of 32
abbrev pub shifted_left : ℕ → ℕ → Answer
shifted_left b a = answer (low_word (pos (b * 2 ^ (subscript 32 a).word))) (subscript 32 a).flag

abbrev pub shifted_right : ℕ → ℕ → Answer
shifted_right b a = answer (b / 2 ^ (subscript 32 a).word) (subscript 32 a).flag

-- of b, the left operand, and a, the right one
abbrev pub applied : Operator → ℕ → ℕ → Answer
applied Add b a = checked (signed b +ℤ signed a)
applied Subtract b a = checked (signed b -ℤ signed a)
applied Multiply b a = checked (signed b *ℤ signed a)
applied Plus b a = wrapped (pos b +ℤ pos a)
applied Minus b a = wrapped (pos b -ℤ pos a)
applied Times b a = wrapped (signed b *ℤ signed a)
applied Divide b a = divided int_div (signed b) (signed a)
applied Remainder b a = divided int_rem (signed b) (signed a)
applied BitAnd b a = pure (bit_and b a)
applied BitOr b a = pure (bit_or b a)
applied BitXor b a = pure (bit_xor b a)
applied ShiftLeft b a = shifted_left b a
applied ShiftRight b a = shifted_right b a
applied Equal b a = pure (truth (b == a))
applied Greater b a = pure (truth (int_lt (signed a) (signed b)))
