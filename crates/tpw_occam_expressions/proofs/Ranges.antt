-- Ranges, the words that they contain, and what operators make of these.
use Rattle.std.proofs.Common.{◌≡◌, ◌≢◌, ℕ, suc, ◌^◌, ◌<◌, ◌≤◌, ◌-◌, ◌*◌, ◌/◌, ◌%◌, Bool, true, false, ◌||◌, ◌&&◌}
use Rattle.std.proofs.Common.{◌==◌, nat_lt, if◌then◌else◌, ℤ, pos, negsuc, ◌+ℤ◌, ◌-ℤ◌, ◌*ℤ◌, ◌≤ℤ◌, Some, None}
use Rattle.std.proofs.Common.{arith, refl, pow_pos}
use Rattle.std.specs.Prelude.{int_lt, int_div, int_rem, bit_and}
use Rattle.std.specs.Ordering.{int_eq}
use Rattle.std.specs.Int.{int_min, int_shr}
use Rattle.std.proofs.lemmas.Int.{ints, clamps}
use Rattle.std.proofs.lemmas.Bool.Decides.{nat_tests}
use Rattle.std.proofs.lemmas.Nat.{and_le_l, and_le_r, or_lt, xor_lt}
use Rattle.std.proofs.Math.Nat.{div-le_self, pow-le-pow_right}
use Rattle.tp_words.specs.Words.{signed, low_word}
use Rattle.tp_words.specs.Numbers.{overflows, least_integer, greatest_integer, minus_one, truth}
use Rattle.tp_state.proofs.WordLemmas.{signed_above, signed_below, signed_low, signed_natural, natural_signed, signed_same, signed_low_word}
use Rattle.tp_state.proofs.WordLemmas.{low_word_lt, unsigned_sum, unsigned_difference}
use Rattle.tp_state.proofs.Products.{between_corners, mul_up, div_more, quotient_up, remainder_low, remainder_high, remainder_sign}
use Rattle.tpw_occam_core.specs.Arithmetic.{applied, divided, quotient_answer, subscript}
use Rattle.tpw_occam_core.specs.declared.expression.Operator.{Operator}
use Rattle.tpw_occam_core.specs.declared.expression.Operator.TheVariants as operator
use Rattle.tpw_occam_expressions.specs.declared.range.Range.{Range}
use Rattle.tpw_occam_expressions.specs.declared.range.TheConstants.{FULL, BYTE}
use Rattle.tpw_occam_expressions.specs.Ranges.{full, from_to, between, hull, Contains, ContainsResults, HoldsOfEach, AreWords}

-- every word is a number
pub full_contains : (word : ℕ) → word < 2 ^ 32 → Contains FULL word
full_contains word lt = record { low = signed_above word lt; high = signed_below word lt }

-- the same range, whose ends were passed on
pub ends_made : {low' high' low high : ℤ} {word : ℕ} → Contains (from_to low high) word → low' ≡ low → high' ≡ high → Contains (from_to low' high') word
ends_made within e f = record { low = rw e within.low; high = rw f within.high }

-- a byte is a number from 0 to 255
pub byte_contains : (word : ℕ) → word < 256 → Contains BYTE word
byte_contains word lt =
    let is : signed word ≡ pos word = signed_low word (omega arith) in
    record { low = rw is (omega (arith, ints)); high = rw is (omega (arith, ints)) }

pub byte_within : (word : ℕ) → word < 2 ^ 32 → Contains BYTE word → word < 256
byte_within word lt within =
    let low = within.low in
    let high = within.high in
    let is : signed word ≡ pos word = signed_natural word lt (omega (arith, ints)) in
    omega (arith, ints)

-- one number is that of one word
pub exactly_one : (word other : ℕ) → word < 2 ^ 32 → other < 2 ^ 32 → Contains (from_to (signed word) (signed word)) other → other ≡ word
exactly_one word other lt lt' within =
    let low = within.low in
    let high = within.high in
    signed_same other word lt' lt (omega (arith, ints))

-- ---- whole numbers between two others

-- the low word of each is contained
pub low_word_between : (low high z : ℤ) → low ≤ℤ z → z ≤ℤ high → Contains (between low high) (low_word z)
unfolding between
low_word_between low high z above below = at (overflows low) refl (overflows high) refl
  where
    at : (p : Bool) → overflows low ≡ p → (q : Bool) → overflows high ≡ q → Contains (if p || q then full else from_to low high) (low_word z)
    at true e q g = full_contains (low_word z) (low_word_lt z)
    at false e true g = full_contains (low_word z) (low_word_lt z)
    at false e false g =
        let fits : overflows z ≡ false = grind (arith, ints, nat_tests) in
        let is = signed_low_word z fits in
        record { low = rw is above; high = rw is below }

-- where the range is not full, each is a word's
pub fits_between : (low high z : ℤ) → between low high ≢ full → low ≤ℤ z → z ≤ℤ high → overflows z ≡ false
unfolding between
fits_between low high z some above below = at (overflows low) refl (overflows high) refl some
  where
    at : (p : Bool) → overflows low ≡ p → (q : Bool) → overflows high ≡ q → (if p || q then full else from_to low high) ≢ full → overflows z ≡ false
    at true e q g some = absurd (some refl)
    at false e true g some = absurd (some refl)
    at false e false g some = grind (arith, ints, nat_tests)

pub between_made : {r : Range} {low' high' low high : ℤ} → r ≡ between low' high' → low' ≡ low → high' ≡ high → r ≡ between low high
between_made e f g = rw (← f, ← g) e

-- ---- sums and differences

-- each sum of two lies between those of the ends
sum_low : (b a : Range) → HoldsOfEach b a (λ vb va. (b.low +ℤ a.low) ≤ℤ (signed vb +ℤ signed va))
sum_low b a vb va hb ha in_b in_a =
    let b_low = in_b.low in
    let a_low = in_a.low in
    omega (arith, ints)

sum_high : (b a : Range) → HoldsOfEach b a (λ vb va. (signed vb +ℤ signed va) ≤ℤ (b.high +ℤ a.high))
sum_high b a vb va hb ha in_b in_a =
    let b_high = in_b.high in
    let a_high = in_a.high in
    omega (arith, ints)

abbrev pub sums : Range → Range → Range
sums b a = between (b.low +ℤ a.low) (b.high +ℤ a.high)

pub sums_checked : (b a : Range) → ContainsResults operator.Add b a (sums b a)
sums_checked b a vb va hb ha in_b in_a =
    low_word_between _ _ _ (sum_low b a vb va hb ha in_b in_a) (sum_high b a vb va hb ha in_b in_a)

pub sums_wrapped : (b a : Range) → ContainsResults operator.Plus b a (sums b a)
sums_wrapped b a vb va hb ha in_b in_a =
    rw (unsigned_sum va vb ha hb) (sums_checked b a vb va hb ha in_b in_a)

pub sums_fit : (b a : Range) → sums b a ≢ full → AreWords ◌+ℤ◌ b a
sums_fit b a some vb va hb ha in_b in_a =
    fits_between _ _ _ some (sum_low b a vb va hb ha in_b in_a) (sum_high b a vb va hb ha in_b in_a)

-- each difference of two lies between those of opposite ends
difference_low : (b a : Range) → HoldsOfEach b a (λ vb va. (b.low -ℤ a.high) ≤ℤ (signed vb -ℤ signed va))
difference_low b a vb va hb ha in_b in_a =
    let b_low = in_b.low in
    let a_high = in_a.high in
    omega (arith, ints)

difference_high : (b a : Range) → HoldsOfEach b a (λ vb va. (signed vb -ℤ signed va) ≤ℤ (b.high -ℤ a.low))
difference_high b a vb va hb ha in_b in_a =
    let b_high = in_b.high in
    let a_low = in_a.low in
    omega (arith, ints)

abbrev pub differences : Range → Range → Range
differences b a = between (b.low -ℤ a.high) (b.high -ℤ a.low)

pub differences_checked : (b a : Range) → ContainsResults operator.Subtract b a (differences b a)
differences_checked b a vb va hb ha in_b in_a =
    low_word_between _ _ _ (difference_low b a vb va hb ha in_b in_a) (difference_high b a vb va hb ha in_b in_a)

pub differences_wrapped : (b a : Range) → ContainsResults operator.Minus b a (differences b a)
differences_wrapped b a vb va hb ha in_b in_a =
    rw (unsigned_difference va vb ha hb) (differences_checked b a vb va hb ha in_b in_a)

pub differences_fit : (b a : Range) → differences b a ≢ full → AreWords ◌-ℤ◌ b a
differences_fit b a some vb va hb ha in_b in_a =
    fits_between _ _ _ some (difference_low b a vb va hb ha in_b in_a) (difference_high b a vb va hb ha in_b in_a)

-- ---- products

abbrev pub products : Range → Range → Range
products b a = hull (b.low *ℤ a.low) (b.low *ℤ a.high) (b.high *ℤ a.low) (b.high *ℤ a.high)

pub hull_made : {r : Range} {i' j' k' l' i j k l : ℤ} → r ≡ hull i' j' k' l' → i' ≡ i → j' ≡ j → k' ≡ k → l' ≡ l → r ≡ hull i j k l
hull_made is e f g h = rw (← e, ← f, ← g, ← h) is

-- the corners have each product of two between them
pub products_checked : (b a : Range) → ContainsResults operator.Multiply b a (products b a)
unfolding hull
products_checked b a vb va hb ha in_b in_a =
    let within = between_corners b.low b.high a.low a.high (signed vb) (signed va) in_b.low in_b.high in_a.low in_a.high in
    low_word_between _ _ _ within.0 within.1

pub products_wrapped : (b a : Range) → ContainsResults operator.Times b a (products b a)
products_wrapped b a = products_checked b a

pub products_fit : (b a : Range) → products b a ≢ full → AreWords ◌*ℤ◌ b a
unfolding hull
products_fit b a some vb va hb ha in_b in_a =
    let within = between_corners b.low b.high a.low a.high (signed vb) (signed va) in_b.low in_b.high in_a.low in_a.high in
    fits_between _ _ _ some within.0 within.1

-- ---- every result is a word

divided_lt : (divide : ℤ → ℤ → ℤ) (y x : ℤ) → (divided divide y x).word < 2 ^ 32
divided_lt divide y x = at (int_eq x (pos 0) || (int_eq y least_integer && int_eq x minus_one))
  where
    at : (p : Bool) → (quotient_answer (if p then None else Some (low_word (divide y x)))).word < 2 ^ 32
    at true = omega arith
    at false = low_word_lt (divide y x)

truth_lt : (b : Bool) → truth b < 2 ^ 32
truth_lt true = omega arith
truth_lt false = omega arith

applied_lt : (op : Operator) (vb va : ℕ) → vb < 2 ^ 32 → va < 2 ^ 32 → (applied op vb va).word < 2 ^ 32
applied_lt operator.Add vb va hb ha = low_word_lt (signed vb +ℤ signed va)
applied_lt operator.Subtract vb va hb ha = low_word_lt (signed vb -ℤ signed va)
applied_lt operator.Multiply vb va hb ha = low_word_lt (signed vb *ℤ signed va)
applied_lt operator.Plus vb va hb ha = low_word_lt (pos vb +ℤ pos va)
applied_lt operator.Minus vb va hb ha = low_word_lt (pos vb -ℤ pos va)
applied_lt operator.Times vb va hb ha = low_word_lt (signed vb *ℤ signed va)
applied_lt operator.Divide vb va hb ha = divided_lt int_div (signed vb) (signed va)
applied_lt operator.Remainder vb va hb ha = divided_lt int_rem (signed vb) (signed va)
applied_lt operator.BitAnd vb va hb ha = let less = and_le_r vb va in omega arith
applied_lt operator.BitOr vb va hb ha = or_lt 32 vb va hb ha
applied_lt operator.BitXor vb va hb ha = xor_lt 32 vb va hb ha
applied_lt operator.ShiftLeft vb va hb ha = low_word_lt (pos (vb * 2 ^ (subscript 32 va).word))
applied_lt operator.ShiftRight vb va hb ha = let less = div-le_self vb (2 ^ (subscript 32 va).word) in omega arith
applied_lt operator.Equal vb va hb ha = truth_lt (vb == va)
applied_lt operator.Greater vb va hb ha = truth_lt (int_lt (signed va) (signed vb))

pub full_contains_results : (op : Operator) (b a : Range) → ContainsResults op b a full
full_contains_results op b a vb va hb ha in_b in_a = full_contains (applied op vb va).word (applied_lt op vb va hb ha)

-- ---- quotients and remainders

divided_positive : (divide : ℤ → ℤ → ℤ) (y : ℤ) (d : ℕ) → 0 < d → (divided divide y (pos d)).word ≡ low_word (divide y (pos d))
divided_positive divide y d some =
    let no_zero : int_eq (pos d) (pos 0) ≡ false = grind (arith, nat_tests) in
    rw no_zero (at (int_eq y least_integer))
  where
    at : (p : Bool) → (quotient_answer (if p && false then None else Some (low_word (divide y (pos d))))).word ≡ low_word (divide y (pos d))
    at true = refl
    at false = refl

-- a whole number that is a word's, in a range
number_contained : (low high z : ℤ) → overflows z ≡ false → low ≤ℤ z → z ≤ℤ high → Contains (from_to low high) (low_word z)
number_contained low high z fits above below =
    let is = signed_low_word z fits in
    record { low = rw is above; high = rw is below }

natural_contained : (low high : ℤ) (n : ℕ) → n < 2 ^ 31 → low ≤ℤ pos n → pos n ≤ℤ high → Contains (from_to low high) n
natural_contained low high n small above below =
    let is : signed n ≡ pos n = signed_low n small in
    record { low = rw is above; high = rw is below }

-- one divisor above 0
one_divisor : {P : Type 0} (a : Range) (x : ℕ) → x < 2 ^ 32 → Contains a x → a.low ≡ a.high → pos 1 ≤ℤ a.low →
    ((d : ℕ) → 0 < d → d < 2 ^ 31 → a.low ≡ pos d → signed x ≡ pos d → P) → P
one_divisor a x hx in_a same some go =
    let above = in_a.low in
    let below = in_a.high in
    let small = signed_below x hx in
    let is : signed x ≡ pos x = signed_natural x hx (omega (arith, ints)) in
    go x (omega (arith, ints)) (omega (arith, ints)) (omega (arith, ints)) is

quotient_small : (z : ℤ) (d : ℕ) → 0 < d → least_integer ≤ℤ z → z ≤ℤ greatest_integer → overflows (int_div z (pos d)) ≡ false
quotient_small (pos n) d some low high =
    let le = div-le_self n d in
    grind (arith, ints, nat_tests)
quotient_small (negsuc n) d some low high =
    let le = div-le_self (suc n) d in
    grind (arith, ints, nat_tests)

remainder_small : (z : ℤ) (d : ℕ) → 0 < d → d < 2 ^ 31 → overflows (int_rem z (pos d)) ≡ false
remainder_small z d some few =
    let low = remainder_low z d some in
    let high = remainder_high z d some in
    grind (arith, ints, nat_tests)

pub quotients_contained : (b a : Range) → a.low ≡ a.high → pos 1 ≤ℤ a.low → ContainsResults operator.Divide b a (from_to (int_div b.low a.low) (int_div b.high a.low))
quotients_contained b a same above vb va hb ha in_b in_a =
    one_divisor a va ha in_a same above λ d some few a_is va_is.
    let small = quotient_small (signed vb) d some (signed_above vb hb) (signed_below vb hb) in
    rw (va_is, a_is, divided_positive int_div (signed vb) d some)
    (number_contained _ _ (int_div (signed vb) (pos d)) small (quotient_up b.low (signed vb) d some in_b.low) (quotient_up (signed vb) b.high d some in_b.high))

-- of a number from 0 up
pub remainders_above : (b a : Range) → a.low ≡ a.high → pos 1 ≤ℤ a.low → pos 0 ≤ℤ b.low → ContainsResults operator.Remainder b a (from_to (pos 0) (a.low -ℤ pos 1))
remainders_above b a same above sign vb va hb ha in_b in_a =
    one_divisor a va ha in_a same above λ d some few a_is va_is.
    let least = in_b.low in
    rw (va_is, a_is, divided_positive int_rem (signed vb) d some)
    (number_contained _ _ (int_rem (signed vb) (pos d)) (remainder_small (signed vb) d some few) (remainder_sign (signed vb) d (omega (arith, ints))) (remainder_high (signed vb) d some))

-- of any number
pub remainders_either : (b a : Range) → a.low ≡ a.high → pos 1 ≤ℤ a.low → ContainsResults operator.Remainder b a (from_to (pos 1 -ℤ a.low) (a.low -ℤ pos 1))
remainders_either b a same above vb va hb ha in_b in_a =
    one_divisor a va ha in_a same above λ d some few a_is va_is.
    rw (va_is, a_is, divided_positive int_rem (signed vb) d some)
    (number_contained _ _ (int_rem (signed vb) (pos d)) (remainder_small (signed vb) d some few) (remainder_low (signed vb) d some) (remainder_high (signed vb) d some))

-- ---- conjunctions

-- no more than the right operand, where that is never below 0
pub conjunctions_right : (b a : Range) → pos 0 ≤ℤ a.low → ContainsResults operator.BitAnd b a (from_to (pos 0) a.high)
conjunctions_right b a sign vb va hb ha in_b in_a =
    let above = in_a.low in
    let below = in_a.high in
    let less = and_le_r vb va in
    let small = signed_below va ha in
    let is = signed_natural va ha (omega (arith, ints)) in
    natural_contained (pos 0) a.high (bit_and vb va) (omega (arith, ints)) (omega (arith, ints)) (omega (arith, ints))

-- nor than the left one
pub conjunctions_left : (b a : Range) → pos 0 ≤ℤ b.low → ContainsResults operator.BitAnd b a (from_to (pos 0) b.high)
conjunctions_left b a sign vb va hb ha in_b in_a =
    let above = in_b.low in
    let below = in_b.high in
    let less = and_le_l vb va in
    let small = signed_below vb hb in
    let is = signed_natural vb hb (omega (arith, ints)) in
    natural_contained (pos 0) b.high (bit_and vb va) (omega (arith, ints)) (omega (arith, ints)) (omega (arith, ints))

pub conjunctions_both : (b a : Range) → pos 0 ≤ℤ b.low → pos 0 ≤ℤ a.low → ContainsResults operator.BitAnd b a (from_to (pos 0) (int_min b.high a.high))
conjunctions_both b a sign_b sign_a vb va hb ha in_b in_a =
    let left = conjunctions_left b a sign_b vb va hb ha in_b in_a in
    let right = conjunctions_right b a sign_a vb va hb ha in_b in_a in
    let low = left.low in
    let under_b = left.high in
    let under_a = right.high in
    record { low = low; high = omega (arith, ints, clamps) }

-- ---- shifts

subscript_word : (x : ℕ) → x < 32 → (subscript 32 x).word ≡ x
subscript_word x few = let test : nat_lt x 32 ≡ true = grind (arith, nat_tests) in rw test refl

power_up : (j k : ℕ) → j ≤ k → 2 ^ j ≤ 2 ^ k
power_up j k h = pow-le-pow_right (omega arith) h

-- up by one count, a number that is never below 0
pub shifted_up : (b a : Range) (count : ℕ) → a.low ≡ a.high → a.low ≡ pos count → count < 32 → pos 0 ≤ℤ b.low →
    ContainsResults operator.ShiftLeft b a (between (b.low *ℤ pos (2 ^ count)) (b.high *ℤ pos (2 ^ count)))
shifted_up b a count same count_is few sign vb va hb ha in_b in_a =
    let above = in_a.low in
    let below = in_a.high in
    let least = in_b.low in
    let most = in_b.high in
    let va_is : va ≡ count = natural_signed va count ha (omega (arith, ints)) in
    let vb_is : signed vb ≡ pos vb = signed_natural vb hb (omega (arith, ints)) in
    let low = mul_up b.low (pos vb) (2 ^ count) (omega (arith, ints)) in
    let high = mul_up (pos vb) b.high (2 ^ count) (omega (arith, ints)) in
    rw (va_is, subscript_word count few) (low_word_between _ _ (pos vb *ℤ pos (2 ^ count)) low high)

-- down by counts from one to another
record AreCounts (a : Range) (va : ℕ) (low high : ℕ) : Type 0 where
  above : low ≤ va
  below : va ≤ high
  few : va < 32

counts_are : (a : Range) (va low high : ℕ) → va < 2 ^ 32 → Contains a va → a.low ≡ pos low → a.high ≡ pos high → high < 32 → AreCounts a va low high
counts_are a va low high ha in_a low_is high_is few =
    let above = in_a.low in
    let below = in_a.high in
    let is = signed_natural va ha (omega (arith, ints)) in
    record { above = omega (arith, ints); below = omega (arith, ints); few = omega (arith, ints) }

down_between : (low high : ℤ) (v w j k : ℕ) → j ≤ w → w ≤ k → pos 0 ≤ℤ low → low ≤ℤ pos v → pos v ≤ℤ high →
    (int_shr low k ≤ℤ pos (v / 2 ^ w)) × (pos (v / 2 ^ w) ≤ℤ int_shr high j)
down_between (pos m) (pos n) v w j k above below sign at_least at_most =
    let least = div_more m v (2 ^ w) (2 ^ k) (pow_pos w) (power_up w k below) (omega (arith, ints)) in
    let most = div_more v n (2 ^ j) (2 ^ w) (pow_pos j) (power_up j w above) (omega (arith, ints)) in
    (omega (arith, ints), omega (arith, ints))
down_between (negsuc m) high v w j k above below sign at_least at_most = absurd (omega (arith, ints))
down_between (pos m) (negsuc n) v w j k above below sign at_least at_most = absurd (omega (arith, ints))

pub shifted_down : (b a : Range) (low high : ℕ) → a.low ≡ pos low → a.high ≡ pos high → high < 32 → pos 0 ≤ℤ b.low →
    ContainsResults operator.ShiftRight b a (from_to (int_shr b.low high) (int_shr b.high low))
shifted_down b a low high low_is high_is few sign vb va hb ha in_b in_a =
    let counts = counts_are a va low high ha in_a low_is high_is few in
    let least = in_b.low in
    let most = in_b.high in
    let vb_is = signed_natural vb hb (omega (arith, ints)) in
    let small = signed_below vb hb in
    let le = div-le_self vb (2 ^ va) in
    let within = down_between b.low b.high vb va low high counts.above counts.below sign (omega (arith, ints)) (omega (arith, ints)) in
    rw (subscript_word va counts.few) (natural_contained _ _ (vb / 2 ^ va) (omega (arith, ints)) within.0 within.1)

-- any number, by more than 0
pub shifted_down_some : (b a : Range) (low high : ℕ) → a.low ≡ pos low → a.high ≡ pos high → high < 32 → 0 < low →
    ContainsResults operator.ShiftRight b a (between (pos 0) (pos ((2 ^ 32 - 1) / 2 ^ low)))
shifted_down_some b a low high low_is high_is few some vb va hb ha in_b in_a =
    let counts = counts_are a va low high ha in_a low_is high_is few in
    let most = div_more vb (2 ^ 32 - 1) (2 ^ low) (2 ^ va) (pow_pos low) (power_up low va counts.above) (omega arith) in
    let le = div-le_self vb (2 ^ va) in
    let whole : (vb / 2 ^ va) % 2 ^ 32 ≡ vb / 2 ^ va = omega arith in
    rw (subscript_word va counts.few, ← whole)
    (low_word_between (pos 0) (pos ((2 ^ 32 - 1) / 2 ^ low)) (pos (vb / 2 ^ va)) (omega (arith, ints)) (omega (arith, ints)))
