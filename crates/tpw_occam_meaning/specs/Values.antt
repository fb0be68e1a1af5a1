-- Values, their types, and what operators make of them.
use Rattle.std.specs.Prelude.{ℕ, Bool, true, false, not, ◌==◌, ◌-ℤ◌, pos, int_lt, int_le, nat_lt, Option, Some, None}
use Rattle.tp_words.specs.Words.{signed, low_word, complement}
use Rattle.tp_words.specs.Numbers.{truth}
use Rattle.tpw_occam_core.specs.declared.arithmetic.Answer.{Answer}
use Rattle.tpw_occam_core.specs.declared.kind.Kind.{Kind}
use Rattle.tpw_occam_core.specs.declared.kind.Kind.TheVariants as kind
use Rattle.tpw_occam_core.specs.declared.expression.Operator.TheVariants as core
use Rattle.tpw_occam_core.specs.Arithmetic.{answer, pure, applied, low_byte}
use Rattle.tpw_occam_core.specs.Meaning.{bind, both, either}
use Rattle.tpw_occam_terms.specs.declared.name.Primitive.{Primitive}
use Rattle.tpw_occam_terms.specs.declared.name.Primitive.TheVariants.{Int, Bool as Truth, Byte}
use Rattle.tpw_occam_meaning.specs.declared.operator.Monadic.{Monadic}
use Rattle.tpw_occam_meaning.specs.declared.operator.Monadic.TheVariants as one
use Rattle.tpw_occam_meaning.specs.declared.operator.Dyadic.{Dyadic}
use Rattle.tpw_occam_meaning.specs.declared.operator.Dyadic.TheVariants as two
use Rattle.tpw_occam_meaning.specs.Maybe.{where_true}
use Rattle.tpw_occam_meaning.specs.States.{State}

-- ---- values

-- a word, and whether the error flag is to be set: the same in each state, where no variable is read, or by the state
pub data Value : Type 0 where
  Known : (word : ℕ) (flag : Bool) → Value
  Varying : (State → Answer) → Value

abbrev pub known : Answer → Value
known a = Known a.word a.flag

abbrev pub at : Value → State → Answer
at (Known word flag) s = answer word flag
at (Varying f) s = f s

-- what is made of one, and of two
abbrev pub of_one : (Answer → Answer) → Value → Value
of_one make (Known a p) = known (make (answer a p))
of_one make (Varying f) = Varying (λ s. make (f s))

abbrev pub of_two : (Answer → Answer → Answer) → Value → Value → Value
of_two make (Known b p) (Known a q) = known (make (answer b p) (answer a q))
of_two make b a = Varying (λ s. make (at b s) (at a s))

-- the constant that a value is: one that sets the flag is none
abbrev pub constant_in : Value → Option ℕ
constant_in (Known word false) = Some word
constant_in (Known word true) = None
constant_in (Varying f) = None

-- ---- types

-- what there is, where two types are the same
abbrev pub as_type : {A : Type 0} → Primitive → Primitive → Option A → Option A
as_type Int Int a = a
as_type Truth Truth a = a
as_type Byte Byte a = a
as_type of other a = None

abbrev pub element_type : Kind → Primitive
element_type kind.Word = Int
element_type kind.Byte = Byte

-- elements are INTs or BYTEs
abbrev pub kind_of : Primitive → Option Kind
kind_of Int = Some kind.Word
kind_of Truth = None
kind_of Byte = Some kind.Byte

-- a number is an INT, or a BYTE where one is wanted
abbrev pub number_of : Primitive → ℕ → Option Value
number_of Int n = Some (Known n false)
number_of Truth n = None
number_of Byte n = where_true (nat_lt n 256) (Some (Known n false))

-- ---- operators

-- the type of what an operator of one operand makes
abbrev pub type_of_one : Monadic → Primitive
type_of_one one.Not = Truth
type_of_one (one.Convert to) = to
type_of_one other = Int

-- .. and of its operand; of a conversion it may be several, and SIZE is of arrays
abbrev pub operand_of : Monadic → Option Primitive
operand_of one.Negate = Some Int
operand_of one.Minus = Some Int
operand_of one.Complement = Some Int
operand_of one.BitNot = Some Int
operand_of one.Not = Some Truth
operand_of one.Size = None
operand_of (one.Convert to) = None

-- what a conversion makes of a word of another type
abbrev pub converted : Primitive → Primitive → Option (ℕ → Answer)
converted Truth Int = Some pure
converted Truth Byte = Some pure
converted Byte Int = Some pure
converted Int Byte = Some low_byte
converted from to = None

-- what another operator makes of its one operand
abbrev pub monadic : Monadic → ℕ → Answer
monadic one.Negate a = applied core.Subtract 0 a
monadic one.Minus a = applied core.Minus 0 a
monadic one.Not a = pure (truth (a == 0))
monadic other a = pure (complement a)

-- the type of what an operator of two operands makes
abbrev pub type_of_two : Dyadic → Primitive
type_of_two two.Equal = Truth
type_of_two two.NotEqual = Truth
type_of_two two.Less = Truth
type_of_two two.Greater = Truth
type_of_two two.AtMost = Truth
type_of_two two.AtLeast = Truth
type_of_two two.After = Truth
type_of_two two.And = Truth
type_of_two two.Or = Truth
type_of_two other = Int

-- < > <= >= have INTs or BYTEs, since BOOLs have no order
abbrev pub ordered : Option Primitive → Option Primitive
ordered (Some Truth) = None
ordered of = of

-- the type of an operator's operands, where a comparison has them of this type
abbrev pub operands_of : Dyadic → Option Primitive → Option Primitive
operands_of two.Equal compared = compared
operands_of two.NotEqual compared = compared
operands_of two.Less compared = ordered compared
operands_of two.Greater compared = ordered compared
operands_of two.AtMost compared = ordered compared
operands_of two.AtLeast compared = ordered compared
operands_of two.And compared = Some Truth
operands_of two.Or compared = Some Truth
operands_of other compared = Some Int

-- what an operator makes of b, its left operand, and a, the right one
abbrev pub dyadic : Dyadic → ℕ → ℕ → Answer
dyadic two.Add b a = applied core.Add b a
dyadic two.Subtract b a = applied core.Subtract b a
dyadic two.Multiply b a = applied core.Multiply b a
dyadic two.Divide b a = applied core.Divide b a
dyadic two.Remainder b a = applied core.Remainder b a
dyadic two.Rem b a = applied core.Remainder b a
dyadic two.Plus b a = applied core.Plus b a
dyadic two.Minus b a = applied core.Minus b a
dyadic two.Times b a = applied core.Times b a
dyadic two.Conjunction b a = applied core.BitAnd b a
dyadic two.BitAnd b a = applied core.BitAnd b a
dyadic two.Disjunction b a = applied core.BitOr b a
dyadic two.BitOr b a = applied core.BitOr b a
dyadic two.ExclusiveOr b a = applied core.BitXor b a
dyadic two.ShiftLeft b a = applied core.ShiftLeft b a
dyadic two.ShiftRight b a = applied core.ShiftRight b a
dyadic two.Equal b a = pure (truth (b == a))
dyadic two.NotEqual b a = pure (truth (not (b == a)))
dyadic two.Less b a = pure (truth (int_lt (signed b) (signed a)))
dyadic two.Greater b a = pure (truth (int_lt (signed a) (signed b)))
dyadic two.AtMost b a = pure (truth (int_le (signed b) (signed a)))
dyadic two.AtLeast b a = pure (truth (int_le (signed a) (signed b)))
dyadic two.After b a = pure (truth (int_lt (pos 0) (signed (low_word (pos b -ℤ pos a)))))
dyadic two.And b a = both b (pure a)
dyadic two.Or b a = either b (pure a)

-- an operator with its operands: the right one of AND and OR counts only where the left one does not decide
abbrev pub combined : Dyadic → Answer → Answer → Answer
combined two.And left right = bind left (λ b. both b right)
combined two.Or left right = bind left (λ b. either b right)
combined operator left right = bind left (λ b. bind right (dyadic operator b))
