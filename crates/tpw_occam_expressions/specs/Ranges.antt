-- Ranges: which words they contain, and what operators make of two words that they contain.
use Rattle.std.specs.Prelude.{◌≡◌, ℕ, ◌<◌, ◌^◌, false, ◌||◌, if◌then◌else◌, ℤ, ◌+ℤ◌, ◌-ℤ◌, ◌*ℤ◌, ◌≤ℤ◌}
use Rattle.std.specs.Int.{int_min, int_max}
use Rattle.tp_words.specs.Words.{signed}
use Rattle.tp_words.specs.Numbers.{least_integer, greatest_integer, overflows}
use Rattle.tpw_occam_core.specs.Arithmetic.{applied}
use Rattle.tpw_occam_core.specs.declared.expression.Operator.{Operator}
use Rattle.tpw_occam_core.specs.declared.expression.Operator.TheVariants.{Add, Subtract, Multiply, Plus, Minus, Times}
use Rattle.tpw_occam_expressions.specs.declared.range.Range.{Range}

-- from one number to another
abbrev pub from_to : ℤ → ℤ → Range
from_to low high = record { low = low; high = high }

-- every number
abbrev pub full : Range
full = from_to least_integer greatest_integer

-- the range of whole numbers, and every number where an end is none of a word's
unfoldable pub between : ℤ → ℤ → Range
between low high = if overflows low || overflows high then full else from_to low high

-- the least range that has four whole numbers, and every number where one of them is none of a word's
unfoldable pub hull : ℤ → ℤ → ℤ → ℤ → Range
hull a b c d = between (int_min (int_min a b) (int_min c d)) (int_max (int_max a b) (int_max c d))

-- a word whose signed value lies in a range
pub record Contains (r : Range) (word : ℕ) : Type 0 where
  pub low : r.low ≤ℤ signed word
  pub high : signed word ≤ℤ r.high

-- what one range contains the other contains
abbrev pub ContainsAllOf : (large small : Range) → Type 0
ContainsAllOf large small = (word : ℕ) → Contains small word → Contains large word

-- something holds of each two words of two ranges
abbrev pub HoldsOfEach : (b a : Range) → (ℕ → ℕ → Type 0) → Type 0
HoldsOfEach b a P = (vb va : ℕ) → vb < 2 ^ 32 → va < 2 ^ 32 → Contains b vb → Contains a va → P vb va

-- a range contains what an operator makes of each two words of two ranges
abbrev pub ContainsResults : Operator → (b a result : Range) → Type 0
ContainsResults operator b a result = HoldsOfEach b a (λ vb va. Contains result (applied operator vb va).word)

-- the whole number that a function makes of each two is one that a word reads as
abbrev pub AreWords : (ℤ → ℤ → ℤ) → (b a : Range) → Type 0
AreWords f b a = HoldsOfEach b a (λ vb va. overflows (f (signed vb) (signed va)) ≡ false)

-- two operators make the same of each two
abbrev pub MakeTheSame : Operator → Operator → (b a : Range) → Type 0
MakeTheSame one other b a = HoldsOfEach b a (λ vb va. applied one vb va ≡ applied other vb va)

-- each sum, difference or product is a word's
abbrev pub AlwaysFits : Operator → (b a : Range) → Type 0
AlwaysFits Add b a = AreWords ◌+ℤ◌ b a
AlwaysFits Plus b a = AreWords ◌+ℤ◌ b a
AlwaysFits Subtract b a = AreWords ◌-ℤ◌ b a
AlwaysFits Minus b a = AreWords ◌-ℤ◌ b a
AlwaysFits Multiply b a = AreWords ◌*ℤ◌ b a
AlwaysFits Times b a = AreWords ◌*ℤ◌ b a
AlwaysFits operator b a = Unit {0}

-- the operator that sets the flag where there is too much and the one that wraps make the same
abbrev pub TwinsAgree : Operator → (b a : Range) → Type 0
TwinsAgree Add b a = MakeTheSame Add Plus b a
TwinsAgree Plus b a = MakeTheSame Add Plus b a
TwinsAgree Subtract b a = MakeTheSame Subtract Minus b a
TwinsAgree Minus b a = MakeTheSame Subtract Minus b a
TwinsAgree Multiply b a = MakeTheSame Multiply Times b a
TwinsAgree Times b a = MakeTheSame Multiply Times b a
TwinsAgree operator b a = Unit {0}
