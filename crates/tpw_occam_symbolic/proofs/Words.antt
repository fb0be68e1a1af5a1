-- Words read signed, and wrapped.
use Rattle.std.proofs.Common.{◌≡◌, ◌⊎◌, inl, inr, w32, ℕ, suc, ◌-◌, ◌^◌, ◌<◌, ◌≤◌, ℤ, pos, negsuc, arith, ◌∙◌, ap}
use Rattle.std.proofs.lemmas.Int.{ints, to_z_pos}
use Rattle.std.proofs.lemmas.Bool.{cases_lt}
use Rattle.std.proofs.lemmas.Bool.Decides.{nat_tests}
use Rattle.std.specs.Prelude.{Bool, true, false, ◌||◌, ◌&&◌, if◌then◌else◌, ◌/◌, ◌*◌, ◌+ℤ◌, ◌-ℤ◌, Some, None, int_lt, int_div, int_rem}
use Rattle.std.specs.Ordering.{int_eq}
use Rattle.std.specs.Int.Bits.{and_lt}
use Rattle.std.proofs.lemmas.Nat.{or_lt, xor_lt}
use Rattle.std.proofs.Math.Nat.{div-le_self}
use Rattle.std.proofs.Common.{nat_eq}
use Rattle.tp_words.specs.Words.{signed, low_word}
use Rattle.tp_words.specs.Numbers.{least_integer, minus_one}
use Rattle.tpw_occam_core.specs.Arithmetic.{applied, divided, quotient_answer, subscript}
use Rattle.tpw_occam_core.specs.declared.expression.Operator.{Operator}
use Rattle.tpw_occam_core.specs.declared.expression.Operator.TheVariants.{Add, Subtract, Multiply, Plus, Minus, Times, Divide, Remainder, BitAnd, BitOr, BitXor, ShiftLeft, ShiftRight, Equal, Greater}

pub signed_high : (v : ℕ) → 2 ^ 31 ≤ v → signed v ≡ negsuc (2 ^ 32 - suc v)
signed_high v h = grind (arith, nat_tests)

-- a word that is read signed, and wrapped, is the same word
pub low_word-signed : (v : ℕ) → v < 2 ^ 32 → low_word (signed v) ≡ v
low_word-signed v h = by_sign (cases_lt v (2 ^ 31))
  where
    by_sign : (v < 2 ^ 31) ⊎ (2 ^ 31 ≤ v) → low_word (signed v) ≡ v
    by_sign (inl small) = ap low_word (to_z_pos w32 v small) ∙ omega arith
    by_sign (inr large) = ap low_word (signed_high v large) ∙ omega arith

-- as the operand of an instruction that code makes
pub low_word-cast : (v z : ℕ) → v < 2 ^ 32 → z ≡ v → low_word (signed z) ≡ v
low_word-cast v z h e = ap (λ n. low_word (signed n)) e ∙ low_word-signed v h

-- ---- what operators make is a word

low_word_small : (z : ℤ) → low_word z < 2 ^ 32
low_word_small (pos n) = omega arith
low_word_small (negsuc n) = omega arith

chosen_small : (b : Bool) (x y : ℕ) → x < 2 ^ 32 → y < 2 ^ 32 → (if b then x else y) < 2 ^ 32
chosen_small true x y h g = h
chosen_small false x y h g = g

divided_small : (divide : ℤ → ℤ → ℤ) (b a : ℤ) → (divided divide b a).word < 2 ^ 32
divided_small divide b a = by_test (int_eq a (pos 0) || (int_eq b least_integer && int_eq a minus_one))
  where
    by_test : (none : Bool) → (quotient_answer (if none then None else Some (low_word (divide b a)))).word < 2 ^ 32
    by_test true = omega arith
    by_test false = low_word_small (divide b a)

quotient_small : (b d : ℕ) → b < 2 ^ 32 → b / d < 2 ^ 32
quotient_small b d h = let less = div-le_self b d in omega arith

pub applied_small : (operator : Operator) (b a : ℕ) → b < 2 ^ 32 → a < 2 ^ 32 → (applied operator b a).word < 2 ^ 32
applied_small Add b a hb ha = low_word_small _
applied_small Subtract b a hb ha = low_word_small _
applied_small Multiply b a hb ha = low_word_small _
applied_small Plus b a hb ha = low_word_small (pos b +ℤ pos a)
applied_small Minus b a hb ha = low_word_small (pos b -ℤ pos a)
applied_small Times b a hb ha = low_word_small _
applied_small Divide b a hb ha = divided_small int_div (signed b) (signed a)
applied_small Remainder b a hb ha = divided_small int_rem (signed b) (signed a)
applied_small BitAnd b a hb ha = and_lt 32 b a hb ha
applied_small BitOr b a hb ha = or_lt 32 b a hb ha
applied_small BitXor b a hb ha = xor_lt 32 b a hb ha
applied_small ShiftLeft b a hb ha = low_word_small (pos (b * 2 ^ (subscript 32 a).word))
applied_small ShiftRight b a hb ha = quotient_small b (2 ^ (subscript 32 a).word) hb
applied_small Equal b a hb ha = chosen_small (nat_eq b a) 1 0 (omega arith) (omega arith)
applied_small Greater b a hb ha = chosen_small (int_lt (signed a) (signed b)) 1 0 (omega arith) (omega arith)

-- the difference of two words is 0 where they are equal, and nowhere else
pub difference_zero : (b a : ℕ) → b < 2 ^ 32 → a < 2 ^ 32 → int_eq (signed (low_word (pos b -ℤ pos a))) (pos 0) ≡ nat_eq b a
difference_zero b a hb ha = grind (arith, ints, nat_tests)

-- a word reads as 0 where it is 0
pub zero_read : (a : ℕ) → a < 2 ^ 32 → int_eq (signed a) (pos 0) ≡ nat_eq a 0
zero_read a h = grind (arith, ints, nat_tests)
