-- What instructions on numbers make of a state that fits: arithmetic, shifts, comparisons.
use Rattle.std.proofs.Common.{◌≡◌, ℕ, suc, ◌+◌, ◌-◌, ◌*◌, ◌/◌, ◌^◌, ◌<◌, ◌≤◌, Bool, true, false, ◌&&◌, ◌||◌, not}
use Rattle.std.proofs.Common.{nat_lt, nat_le, if◌then◌else◌, ℤ, pos, negsuc, ◌+ℤ◌, ◌-ℤ◌, ◌*ℤ◌, ◌≤ℤ◌, Option, Some, None}
use Rattle.std.proofs.Common.{Ok, refl, sym, ap, ◌∙◌, arith, pow_pos, pow-add, mul-le-mul_left}
use Rattle.std.specs.Prelude.{int_le, int_lt, int_div, int_rem, bit_and, bit_or, bit_xor}
use Rattle.std.specs.Ordering.{int_eq}
use Rattle.std.specs.Option.{option_and_then}
use Rattle.std.proofs.lemmas.Int.{ints, clamps}
use Rattle.std.proofs.lemmas.Bool.Decides.{nat_tests, Decides-int_eq}
use Rattle.std.proofs.lemmas.Bool.{and_parts}
use Rattle.std.proofs.Math.Nat.{div-le_self, pow-le-pow_right}
use Rattle.std.proofs.lemmas.Nat.{and_le_l, and_le_r, or_lt, xor_lt, div_below}
use Rattle.tp_words.specs.Words.{signed, low_word, complement}
use Rattle.tp_decode.specs.declared.instr.Instr.{Instr}
use Rattle.tp_decode.specs.declared.instr.Instr.TheVariants.{Adc, Eqc, Diff, Add, Prod, Gt, Sub, Csub0, Rem, Div, BitNot, BitXor, Shr, Shl, BitAnd, BitOr, Sum, Mul}
use Rattle.tp_image.specs.Image.{ImageValue}
use Rattle.tp_flow.specs.declared.edge.Edge.{Edge}
use Rattle.tp_step.specs.Maybe.{only_if, ◌>>◌ as ◌>>?◌}
use Rattle.tp_words.specs.Numbers.{overflows, truth, least_integer, greatest_integer, minus_one}
use Rattle.tp_step.specs.State.{State as Machine, replace_pair as machine_replace_pair}
use Rattle.tp_step.specs.Effects.{effect, divided, is_shift_count as machine_shift_count}
use Rattle.tp_state.specs.declared.kind.Kind.{Kind}
use Rattle.tp_state.specs.declared.kind.Kind.TheVariants as kind
use Rattle.tp_state.specs.declared.state.State.{State}
use Rattle.tp_state.specs.declared.fault.StateCode.TheVariants.{S10}
use Rattle.tp_state.specs.Kinds.{full, range, at_ends}
use Rattle.tp_state.specs.Answer.{◌>>=◌, ◌>>◌, unless}
use Rattle.tp_state.specs.Rules.{replace_pair, power, rule, one_number, two_numbers, sum_of, difference, product}
use Rattle.tp_state.specs.Rules.{is_positive, quotients, remainders, conjunctions, shifted_up, shifted_down}
use Rattle.tp_state.specs.Rules.{truth_value, are_shift_counts}
use Rattle.tp_state.specs.Fits.{InRange, KindFits, FitsAmong}
use Rattle.tp_state.proofs.Passing.{through, bound, held, past_is}
use Rattle.tp_state.proofs.Products.{between_corners, mul_up, div_more, quotient_up, remainder_low, remainder_high, remainder_sign}
use Rattle.tp_state.proofs.WordLemmas.{low_word_lt, signed_low_word, unsigned_sum, unsigned_difference, signed_low, signed_natural, signed_complement, signed_above, signed_below}
use Rattle.tp_state.proofs.KindLemmas.{full_fits, within_fits, range_fits, hull_fits, number_is, two_numbers_are}
use Rattle.tp_state.proofs.Makes.{Makes, registers_made, operated, replaced, both_there}

-- ---- results at the ends of ranges

sum_fits : (image : ImageValue) (a b : ℤ × ℤ) (x y : ℕ) → InRange a.0 a.1 x → InRange b.0 b.1 y → KindFits image (at_ends sum_of b a) (Some (low_word (signed y +ℤ signed x)))
sum_fits image a b x y in_a in_b =
    let a_low = in_a.above in
    let a_high = in_a.below in
    let b_low = in_b.above in
    let b_high = in_b.below in
    hull_fits image _ _ _ _ (signed y +ℤ signed x) (omega (arith, ints, clamps)) (omega (arith, ints, clamps))

difference_fits : (image : ImageValue) (a b : ℤ × ℤ) (x y : ℕ) → InRange a.0 a.1 x → InRange b.0 b.1 y → KindFits image (at_ends difference b a) (Some (low_word (signed y -ℤ signed x)))
difference_fits image a b x y in_a in_b =
    let a_low = in_a.above in
    let a_high = in_a.below in
    let b_low = in_b.above in
    let b_high = in_b.below in
    hull_fits image _ _ _ _ (signed y -ℤ signed x) (omega (arith, ints, clamps)) (omega (arith, ints, clamps))

truth_fits : (image : ImageValue) (b : Bool) → KindFits image truth_value (Some (truth b))
truth_fits image true = within_fits image (pos 0) (pos 1) 1 (omega arith) (omega (arith, ints)) (omega (arith, ints))
truth_fits image false = within_fits image (pos 0) (pos 1) 0 (omega arith) (omega (arith, ints)) (omega (arith, ints))

product_fits : (image : ImageValue) (a b : ℤ × ℤ) (x y : ℕ) → InRange a.0 a.1 x → InRange b.0 b.1 y → KindFits image (at_ends product b a) (Some (low_word (signed y *ℤ signed x)))
product_fits image a b x y in_a in_b =
    let c = between_corners b.0 b.1 a.0 a.1 (signed y) (signed x) in_b.above in_b.below in_a.above in_a.below in
    hull_fits image _ _ _ _ (signed y *ℤ signed x) c.0 c.1

-- a whole number that is a word's, in a range
number_fits : (image : ImageValue) (low high z : ℤ) → overflows z ≡ false → low ≤ℤ z → z ≤ℤ high → KindFits image (kind.Int low high) (Some (low_word z))
number_fits image low high z fits above below =
    let is = signed_low_word z fits in
    within_fits image low high (low_word z) (low_word_lt z) (rw is above) (rw is below)

natural_fits : (image : ImageValue) (low high : ℤ) (n : ℕ) → n < 2 ^ 31 → low ≤ℤ pos n → pos n ≤ℤ high → KindFits image (kind.Int low high) (Some n)
natural_fits image low high n small above below =
    let is : signed n ≡ pos n = signed_low n small in
    within_fits image low high n (omega arith) (rw is above) (rw is below)

-- ---- quotients and remainders

refuses : ℤ → ℤ → Bool
refuses b a = int_eq a (pos 0) || (int_eq b least_integer && int_eq a minus_one)

divided_word : (ℤ → ℤ → ℤ) → ℤ → ℤ → ℕ
divided_word divide b a = if refuses b a then 0 else low_word (divide b a)

divided_error : ℤ → ℤ → Bool → Bool
divided_error b a error = if refuses b a then true else error

divided_is : (divide : ℤ → ℤ → ℤ) (b a : ℤ) (s : Machine) → divided divide b a s ≡ machine_replace_pair (divided_word divide b a) (record s { error = divided_error b a s.error })
unfolding refuses divided_word divided_error
divided_is divide b a s = by_test (int_eq a (pos 0) || (int_eq b least_integer && int_eq a minus_one))
  where
    by_test : (c : Bool) → (if c then machine_replace_pair 0 (record s { error = true }) else machine_replace_pair
        (low_word (divide b a)) s) ≡ machine_replace_pair (if c then 0 else low_word (divide b a))
        (record s { error = if c then true else s.error })
    by_test true = refl
    by_test false = refl

divided_lt : (divide : ℤ → ℤ → ℤ) (b a : ℤ) → divided_word divide b a < 2 ^ 32
unfolding divided_word
divided_lt divide b a = by_test (refuses b a)
  where
    by_test : (c : Bool) → (if c then 0 else low_word (divide b a)) < 2 ^ 32
    by_test true = omega arith
    by_test false = low_word_lt (divide b a)

divided_positive : (divide : ℤ → ℤ → ℤ) (b : ℤ) (d : ℕ) → 0 < d → divided_word divide b (pos d) ≡ low_word (divide b (pos d))
unfolding refuses divided_word
divided_positive divide b d some =
    let no_zero : int_eq (pos d) (pos 0) ≡ false = grind (arith, nat_tests) in
    rw no_zero (by_test (int_eq b least_integer))
  where
    by_test : (c : Bool) → (if c && false then 0 else low_word (divide b (pos d))) ≡ low_word (divide b (pos d))
    by_test true = refl
    by_test false = refl

pub from_zero : (z : ℤ) → int_le (pos 0) z ≡ true → pos 0 ≤ℤ z
from_zero z e = grind (arith, ints, nat_tests)

-- one divisor above 0
one_divisor : {P : Type 0} (a : ℤ × ℤ) (x : ℕ) → InRange a.0 a.1 x → int_eq a.0 a.1 ≡ true → int_lt (pos 0) a.0 ≡ true →
    ((d : ℕ) → 0 < d → d < 2 ^ 31 → a.0 ≡ pos d → a.1 ≡ pos d → signed x ≡ pos d → P) → P
one_divisor a x in_a same positive go =
    let same' : a.0 ≡ a.1 = (Decides-int_eq a.0 a.1).0 same in
    let above = in_a.above in
    let below = in_a.below in
    let more : pos 1 ≤ℤ a.0 = positive_is a.0 positive in
    let small = signed_below x in_a.word in
    let is : signed x ≡ pos x = signed_natural x in_a.word (omega (arith, ints)) in
    go x (omega (arith, ints)) (omega (arith, ints)) (omega (arith, ints)) (omega (arith, ints)) is
  where
    positive_is : (z : ℤ) → int_lt (pos 0) z ≡ true → pos 1 ≤ℤ z
    positive_is z e = grind (arith, ints, nat_tests)

quotient_small : (y : ℕ) (d : ℕ) → y < 2 ^ 32 → 0 < d → overflows (int_div (signed y) (pos d)) ≡ false
quotient_small y d word some =
    let above = signed_above y word in
    let below = signed_below y word in
    small (signed y) d some above below
  where
    small : (z : ℤ) (d : ℕ) → 0 < d → least_integer ≤ℤ z → z ≤ℤ greatest_integer → overflows (int_div z (pos d)) ≡ false
    small (pos a) d some low high =
        let le = div-le_self a d in
        grind (arith, ints, nat_tests)
    small (negsuc a) d some low high =
        let le = div-le_self (suc a) d in
        grind (arith, ints, nat_tests)

remainder_small : (z : ℤ) (d : ℕ) → 0 < d → d < 2 ^ 31 → overflows (int_rem z (pos d)) ≡ false
remainder_small z d some few =
    let low = remainder_low z d some in
    let high = remainder_high z d some in
    grind (arith, ints, nat_tests)

quotient_fits : (image : ImageValue) (a b : ℤ × ℤ) (x y : ℕ) → InRange a.0 a.1 x → InRange b.0 b.1 y → KindFits image (quotients b a) (Some (divided_word int_div (signed y) (signed x)))
quotient_fits image a b x y in_a in_b = by_test (is_positive a) refl
  where
    by_test : (c : Bool) → is_positive a ≡ c → KindFits image (if c then kind.Int (int_div b.0 a.0) (int_div b.1 a.0) else full) (Some (divided_word int_div (signed y) (signed x)))
    by_test false is = full_fits image _ (divided_lt int_div (signed y) (signed x))
    by_test true is =
        let parts = and_parts (int_eq a.0 a.1) (int_lt (pos 0) a.0) is in
        one_divisor a x in_a parts.0 parts.1 λ d some few a_is a_is' x_is.
        rw (x_is, a_is, divided_positive int_div (signed y) d some)
        (number_fits image _ _ (int_div (signed y) (pos d)) (quotient_small y d in_b.word some) (quotient_up b.0 (signed y) d some in_b.above) (quotient_up (signed y) b.1 d some in_b.below))

remainder_fits : (image : ImageValue) (a b : ℤ × ℤ) (x y : ℕ) → InRange a.0 a.1 x → InRange b.0 b.1 y → KindFits image (remainders b a) (Some (divided_word int_rem (signed y) (signed x)))
remainder_fits image a b x y in_a in_b = by_test (is_positive a) refl (int_le (pos 0) b.0) refl
  where
    by_test : (c : Bool) → is_positive a ≡ c → (p : Bool) → int_le (pos 0) b.0 ≡ p
        → KindFits image (if not c then full else if p then kind.Int (pos 0) (a.0 -ℤ pos 1) else kind.Int (pos 1 -ℤ a.0) (a.0 -ℤ pos 1)) (Some (divided_word int_rem (signed y) (signed x)))
    by_test false is p is' = full_fits image _ (divided_lt int_rem (signed y) (signed x))
    by_test true is true is' =
        let parts = and_parts (int_eq a.0 a.1) (int_lt (pos 0) a.0) is in
        let low = from_zero b.0 is' in
        let above = in_b.above in
        one_divisor a x in_a parts.0 parts.1 λ d some few a_is a_is' x_is.
        rw (x_is, a_is, divided_positive int_rem (signed y) d some)
        (number_fits image _ _ (int_rem (signed y) (pos d)) (remainder_small (signed y) d some few) (remainder_sign (signed y) d (omega (arith, ints))) (remainder_high (signed y) d some))
    by_test true is false is' =
        let parts = and_parts (int_eq a.0 a.1) (int_lt (pos 0) a.0) is in
        one_divisor a x in_a parts.0 parts.1 λ d some few a_is a_is' x_is.
        rw (x_is, a_is, divided_positive int_rem (signed y) d some)
        (number_fits image _ _ (int_rem (signed y) (pos d)) (remainder_small (signed y) d some few) (remainder_low (signed y) d some) (remainder_high (signed y) d some))

-- ---- bits

complement_fits : (image : ImageValue) (a : ℤ × ℤ) (x : ℕ) → InRange a.0 a.1 x → KindFits image (kind.Int (negsuc 0 -ℤ a.1) (negsuc 0 -ℤ a.0)) (Some (complement x))
complement_fits image a x in_a =
    let word = in_a.word in
    let above = in_a.above in
    let below = in_a.below in
    let is : signed (complement x) ≡ negsuc 0 -ℤ signed x = signed_complement x word in
    within_fits image _ _ (complement x) (omega arith) (rw is (omega (arith, ints))) (rw is (omega (arith, ints)))

-- an operand that is never below 0 bounds the result
conjunction_fits : (image : ImageValue) (a b : ℤ × ℤ) (x y : ℕ) → InRange a.0 a.1 x → InRange b.0 b.1 y → KindFits image (conjunctions b a) (Some (bit_and y x))
conjunction_fits image a b x y in_a in_b = by_test (int_le (pos 0) a.0) refl (int_le (pos 0) b.0) refl (int_lt b.1 a.1) refl
  where
    by_x : bit_and y x ≤ x
    by_x = and_le_r y x

    by_y : bit_and y x ≤ y
    by_y = and_le_l y x

    first : pos 0 ≤ℤ a.0 → (bit_and y x < 2 ^ 31) × (pos (bit_and y x) ≤ℤ a.1)
    first low =
        let above = in_a.above in
        let below = in_a.below in
        let less = by_x in
        let small = signed_below x in_a.word in
        let is = signed_natural x in_a.word (omega (arith, ints)) in
        (omega (arith, ints), omega (arith, ints))

    second : pos 0 ≤ℤ b.0 → (bit_and y x < 2 ^ 31) × (pos (bit_and y x) ≤ℤ b.1)
    second low =
        let above = in_b.above in
        let below = in_b.below in
        let less = by_y in
        let small = signed_below y in_b.word in
        let is = signed_natural y in_b.word (omega (arith, ints)) in
        (omega (arith, ints), omega (arith, ints))

    by_test : (p : Bool) → int_le (pos 0) a.0 ≡ p → (q : Bool) → int_le (pos 0) b.0 ≡ q → (r : Bool) → int_lt b.1 a.1 ≡ r
        → KindFits image (if p then kind.Int (pos 0) (if q && r then b.1 else a.1) else if q then kind.Int (pos 0) b.1 else full) (Some (bit_and y x))
    by_test true is true is' true is'' =
        let it = second (from_zero b.0 is') in
        natural_fits image (pos 0) b.1 (bit_and y x) it.0 (omega (arith, ints)) it.1
    by_test true is true is' false is'' =
        let it = first (from_zero a.0 is) in
        natural_fits image (pos 0) a.1 (bit_and y x) it.0 (omega (arith, ints)) it.1
    by_test true is false is' r is'' =
        let it = first (from_zero a.0 is) in
        natural_fits image (pos 0) a.1 (bit_and y x) it.0 (omega (arith, ints)) it.1
    by_test false is true is' r is'' =
        let it = second (from_zero b.0 is') in
        natural_fits image (pos 0) b.1 (bit_and y x) it.0 (omega (arith, ints)) it.1
    by_test false is false is' r is'' =
        let less = by_x in
        let word = in_a.word in
        full_fits image (bit_and y x) (omega arith)

-- ---- shifts

-- counts from 0 to 31
record AreCounts (a : ℤ × ℤ) (x : ℕ) : Type 0 where
  low : ℕ
  high : ℕ
  low_is : a.0 ≡ pos low
  high_is : a.1 ≡ pos high
  above : low ≤ x
  below : x ≤ high
  most : high ≤ 31

counts_are : (a : ℤ × ℤ) (x : ℕ) → InRange a.0 a.1 x → are_shift_counts a ≡ true → AreCounts a x
counts_are (pos low, pos high) x in_a e =
    let above = in_a.above in
    let below = in_a.below in
    let is = signed_natural x in_a.word (omega (arith, ints)) in
    let most : high ≤ 31 = high_at_most low high e in
    record { low = low; high = high; low_is = refl; high_is = refl; above = omega (arith, ints); below = omega (arith, ints); most = most }
  where
    high_at_most : (low high : ℕ) → are_shift_counts (pos low, pos high) ≡ true → high ≤ 31
    high_at_most low high e = grind (arith, ints, nat_tests)
counts_are (negsuc low, high) x in_a e = absurd (not_below low high e)
  where
    not_below : (low : ℕ) (high : ℤ) → are_shift_counts (negsuc low, high) ≡ true → ⊥
    not_below low high e = cc
counts_are (pos low, negsuc high) x in_a e = absurd (not_below low high e)
  where
    not_below : (low high : ℕ) → are_shift_counts (pos low, negsuc high) ≡ true → ⊥
    not_below low high e = grind (arith, ints, nat_tests)

shift_test : (a : ℤ × ℤ) (x : ℕ) → AreCounts a x → nat_lt x 32 ≡ true
shift_test a x c =
    let below = c.below in
    let most = c.most in
    grind (arith, nat_tests)

power_up : (j k : ℕ) → j ≤ k → 2 ^ j ≤ 2 ^ k
power_up j k h = pow-le-pow_right (omega arith) h

down_bounds : (x y low high : ℕ) (b : ℤ × ℤ) → low ≤ x → x ≤ high → pos 0 ≤ℤ b.0 → b.0 ≤ℤ pos y → pos y ≤ℤ b.1 →
    (int_div b.0 (pos (2 ^ high)) ≤ℤ pos (y / 2 ^ x)) × (pos (y / 2 ^ x) ≤ℤ int_div b.1 (pos (2 ^ low)))
down_bounds x y low high (pos m, pos n) above below zero_low at_least at_most =
    let least = div_more m y (2 ^ x) (2 ^ high) (pow_pos x) (power_up x high below) (omega (arith, ints)) in
    let most = div_more y n (2 ^ low) (2 ^ x) (pow_pos low) (power_up low x above) (omega (arith, ints)) in
    (omega (arith, ints), omega (arith, ints))
down_bounds x y low high (negsuc m, n) above below zero_low at_least at_most = absurd (omega (arith, ints))
down_bounds x y low high (pos m, negsuc n) above below zero_low at_least at_most = absurd (omega (arith, ints))

shifted_down_fits : (image : ImageValue) (a b : ℤ × ℤ) (x y : ℕ) → AreCounts a x → InRange b.0 b.1 y → KindFits image (shifted_down b a) (Some (y / 2 ^ x))
shifted_down_fits image a b x y c in_b = by_test (int_le (pos 0) b.0) refl (int_le (pos 1) a.0) refl
  where
    less : y / 2 ^ x ≤ y
    less = div-le_self y (2 ^ x)

    small_high : (low : ℕ) → 1 ≤ low → low ≤ x → low ≤ 31 → y / 2 ^ x < 2 ^ (32 - low)
    small_high low some above most =
        let same : 32 ≡ (32 - low) + low = omega arith in
        let whole : 2 ^ 32 ≡ 2 ^ (32 - low) * 2 ^ low = ap (λ k. 2 ^ k) same ∙ pow-add 2 (32 - low) low in
        let up = mul-le-mul_left (2 ^ (32 - low)) (power_up low x above) in
        let word = in_b.word in
        div_below y (2 ^ x) (2 ^ (32 - low)) (pow_pos x) (omega arith)

    by_test : (p : Bool) → int_le (pos 0) b.0 ≡ p → (q : Bool) → int_le (pos 1) a.0 ≡ q
        → KindFits image (if p then kind.Int (int_div b.0 (power a.1)) (int_div b.1 (power a.0)) else if q then kind.Int (pos 0) (power (pos 32 -ℤ a.0) -ℤ pos 1) else full) (Some (y / 2 ^ x))
    by_test true is q is' =
        let zero_low = from_zero b.0 is in
        let above = in_b.above in
        let below = in_b.below in
        let y_is = signed_natural y in_b.word (omega (arith, ints)) in
        let small = signed_below y in_b.word in
        let le = less in
        let bounds = down_bounds x y c.low c.high b c.above c.below zero_low (omega (arith, ints)) (omega (arith, ints)) in
        rw (c.low_is, c.high_is) (natural_fits image _ _ (y / 2 ^ x) (omega (arith, ints)) bounds.0 bounds.1)
    by_test false is true is' =
        let some : 1 ≤ c.low = one_up c.low (ap (int_le (pos 1)) (sym c.low_is) ∙ is') in
        let under = small_high c.low some c.above (omega (arith, c.above, c.below, c.most)) in
        let at_most : 2 ^ (32 - c.low) ≤ 2 ^ 31 = power_up (32 - c.low) 31 (omega arith) in
        let difference_is : pos 32 -ℤ pos c.low ≡ pos (32 - c.low) = omega (arith, ints, c.above, c.below, c.most) in
        rw (c.low_is, difference_is) (natural_fits image (pos 0) (pos (2 ^ (32 - c.low)) -ℤ pos 1) (y / 2 ^ x) (omega arith) (omega (arith, ints)) (omega (arith, ints)))
      where
        one_up : (n : ℕ) → int_le (pos 1) (pos n) ≡ true → 1 ≤ n
        one_up n e = grind (arith, nat_tests)
    by_test false is false is' =
        let word = in_b.word in
        let le = less in
        full_fits image (y / 2 ^ x) (omega arith)

shifted_up_fits : (image : ImageValue) (a b : ℤ × ℤ) (x y : ℕ) → AreCounts a x → InRange b.0 b.1 y → KindFits image (shifted_up b a) (Some (low_word (pos (y * 2 ^ x))))
shifted_up_fits image a b x y c in_b = by_test (int_eq a.0 a.1 && int_le (pos 0) b.0) refl
  where
    by_test : (p : Bool) → (int_eq a.0 a.1 && int_le (pos 0) b.0) ≡ p → KindFits image (if p then range (b.0 *ℤ power a.0) (b.1 *ℤ power a.0) else full) (Some (low_word (pos (y * 2 ^ x))))
    by_test false is = full_fits image (low_word (pos (y * 2 ^ x))) (low_word_lt (pos (y * 2 ^ x)))
    by_test true is =
        let parts = and_parts (int_eq a.0 a.1) (int_le (pos 0) b.0) is in
        let same : a.0 ≡ a.1 = (Decides-int_eq a.0 a.1).0 parts.0 in
        let low_is = c.low_is in
        let high_is = c.high_is in
        let low = c.above in
        let high = c.below in
        let x_is : c.low ≡ x = omega (arith, ints) in
        let zero_low = from_zero b.0 parts.1 in
        let above = in_b.above in
        let below = in_b.below in
        let y_is = signed_natural y in_b.word (omega (arith, ints)) in
        let least = mul_up b.0 (pos y) (2 ^ x) (omega (arith, ints)) in
        let most = mul_up (pos y) b.1 (2 ^ x) (omega (arith, ints)) in
        rw (low_is, x_is) (range_fits image (b.0 *ℤ pos (2 ^ x)) (b.1 *ℤ pos (2 ^ x)) (pos y *ℤ pos (2 ^ x)) least most)

-- ---- instructions

module _ (image : ImageValue) (around : ℕ → Bool) (next : ℕ) (t : State) (s : Machine) (f : FitsAmong image around next t s) (at : ℕ) (e : Edge) (t' : State) where
  pub adc_makes : (n : ℤ) → rule image at next (Adc n) e t ≡ Ok t' → Makes image around None next (Adc n) t' s
  unfolding rule effect
  adc_makes n ok =
      replaced image around next t s f (Adc n) t' (λ a. range (a.0 +ℤ n) (a.1 +ℤ n)) (λ x. low_word (signed x +ℤ n)) (λ x. s.error || overflows (signed x +ℤ n)) refl ok λ a x in_a.
      let low = in_a.above in
      let high = in_a.below in
      range_fits image _ _ (signed x +ℤ n) (omega (arith, ints)) (omega (arith, ints))

  pub eqc_makes : (n : ℤ) → rule image at next (Eqc n) e t ≡ Ok t' → Makes image around None next (Eqc n) t' s
  unfolding rule effect
  eqc_makes n ok = replaced image around next t s f (Eqc n) t' (λ a. truth_value) (λ x. truth (int_eq (signed x) n))
      (λ x. s.error) refl (bound (one_number t) _ t' ok) λ a x in_a. truth_fits image (int_eq (signed x) n)

  pub add_makes : rule image at next Add e t ≡ Ok t' → Makes image around None next Add t' s
  unfolding rule effect
  add_makes ok = operated image around next t s f Add t' (at_ends sum_of) (λ y x. low_word (signed y +ℤ signed x))
      (λ y x. s.error || overflows (signed y +ℤ signed x)) _ refl (λ y x. refl) ok (sum_fits image)

  pub sub_makes : rule image at next Sub e t ≡ Ok t' → Makes image around None next Sub t' s
  unfolding rule effect
  sub_makes ok = operated image around next t s f Sub t' (at_ends difference) (λ y x. low_word (signed y -ℤ signed x))
      (λ y x. s.error || overflows (signed y -ℤ signed x)) _ refl (λ y x. refl) ok (difference_fits image)

  pub sum_makes : rule image at next Sum e t ≡ Ok t' → Makes image around None next Sum t' s
  unfolding rule effect
  sum_makes ok = operated image around next t s f Sum t' (at_ends sum_of) (λ y x. low_word (pos y +ℤ pos x)) (λ y x. s.error) _ refl (λ y x. refl) ok λ a b x y in_a in_b.
      rw (unsigned_sum x y in_a.word in_b.word) (sum_fits image a b x y in_a in_b)

  pub diff_makes : rule image at next Diff e t ≡ Ok t' → Makes image around None next Diff t' s
  unfolding rule effect
  diff_makes ok = operated image around next t s f Diff t' (at_ends difference) (λ y x. low_word (pos y -ℤ pos x)) (λ y x. s.error) _ refl (λ y x. refl) ok λ a b x y in_a in_b.
      rw (unsigned_difference x y in_a.word in_b.word) (difference_fits image a b x y in_a in_b)

  pub gt_makes : rule image at next Gt e t ≡ Ok t' → Makes image around None next Gt t' s
  unfolding rule effect
  gt_makes ok = operated image around next t s f Gt t' (λ b a. truth_value)
      (λ y x. truth (int_lt (signed x) (signed y))) (λ y x. s.error) _ refl (λ y x. refl) (bound (two_numbers t) _ t' ok)
      λ a b x y in_a in_b.
      truth_fits image (int_lt (signed x) (signed y))

  pub mul_makes : rule image at next Mul e t ≡ Ok t' → Makes image around None next Mul t' s
  unfolding rule effect
  mul_makes ok = operated image around next t s f Mul t' (at_ends product) (λ y x. low_word (signed y *ℤ signed x))
      (λ y x. s.error || overflows (signed y *ℤ signed x)) _ refl (λ y x. refl) ok (product_fits image)

  pub prod_makes : rule image at next Prod e t ≡ Ok t' → Makes image around None next Prod t' s
  unfolding rule effect
  prod_makes ok = operated image around next t s f Prod t' (at_ends product) (λ y x. low_word (signed y *ℤ signed x)) (λ y x. s.error) _ refl (λ y x. refl) ok (product_fits image)

  pub div_makes : rule image at next Div e t ≡ Ok t' → Makes image around None next Div t' s
  unfolding rule effect
  div_makes ok = operated image around next t s f Div t' quotients (λ y x. divided_word int_div (signed y) (signed x))
      (λ y x. divided_error (signed y) (signed x) s.error) _ refl (λ y x. divided_is int_div (signed y) (signed x) s) ok
      (quotient_fits image)

  pub rem_makes : rule image at next Rem e t ≡ Ok t' → Makes image around None next Rem t' s
  unfolding rule effect
  rem_makes ok = operated image around next t s f Rem t' remainders (λ y x. divided_word int_rem (signed y) (signed x))
      (λ y x. divided_error (signed y) (signed x) s.error) _ refl (λ y x. divided_is int_rem (signed y) (signed x) s) ok
      (remainder_fits image)

  pub not_makes : rule image at next BitNot e t ≡ Ok t' → Makes image around None next BitNot t' s
  unfolding rule effect
  not_makes ok = replaced image around next t s f BitNot t' (λ a. kind.Int (negsuc 0 -ℤ a.1) (negsuc 0 -ℤ a.0)) (λ x. complement x) (λ x. s.error) refl ok (complement_fits image)

  pub and_makes : rule image at next BitAnd e t ≡ Ok t' → Makes image around None next BitAnd t' s
  unfolding rule effect
  and_makes ok = operated image around next t s f BitAnd t' conjunctions (λ y x. bit_and y x) (λ y x. s.error) _ refl (λ y x. refl) ok (conjunction_fits image)

  pub or_makes : rule image at next BitOr e t ≡ Ok t' → Makes image around None next BitOr t' s
  unfolding rule effect
  or_makes ok = operated image around next t s f BitOr t' (λ b a. full) (λ y x. bit_or y x) (λ y x. s.error) _ refl (λ y x. refl) (bound (two_numbers t) _ t' ok) λ a b x y in_a in_b.
      full_fits image _ (or_lt 32 y x in_b.word in_a.word)

  pub xor_makes : rule image at next BitXor e t ≡ Ok t' → Makes image around None next BitXor t' s
  unfolding rule effect
  xor_makes ok = operated image around next t s f BitXor t' (λ b a. full) (λ y x. bit_xor y x) (λ y x. s.error) _ refl (λ y x. refl) (bound (two_numbers t) _ t' ok) λ a b x y in_a in_b.
      full_fits image _ (xor_lt 32 y x in_b.word in_a.word)

  pub csub0_makes : rule image at next Csub0 e t ≡ Ok t' → Makes image around None next Csub0 t' s
  unfolding rule effect
  csub0_makes ok =
      past_is (two_numbers t) _ t' ok λ p p_is ok.
      two_numbers_are image t p p_is λ a_is b_is.
      number_is image t.a s.areg p.0 a_is f.registers.a λ x x_is in_a.
      number_is image t.b s.breg p.1 b_is f.registers.b λ y y_is in_b.
      registers_made image around next t s f Csub0 t' t.b t.c kind.Undef s.breg s.creg None (s.error || nat_le x y)
      (both_there (λ b a. record s { areg = s.breg; breg = s.creg; creg = None; error = s.error || nat_le a b }) s.areg s.breg x y x_is y_is) ok f.registers.b f.registers.c tt

  -- the count is from 0 to 31
  shifted : (instr : Instr) (k : ℤ × ℤ → ℤ × ℤ → Kind) (w : ℕ → ℕ → ℕ)
      → effect image instr s ≡ option_and_then (λ a. option_and_then (λ b. only_if (machine_shift_count a) >>? Some (machine_replace_pair (w b a) s)) s.breg) s.areg
      → (two_numbers t >>= (λ p. unless S10 (are_shift_counts p.0) >> Ok (replace_pair (k p.1 p.0) t))) ≡ Ok t'
      → ((a b : ℤ × ℤ) (x y : ℕ) → AreCounts a x → InRange b.0 b.1 y → KindFits image (k b a) (Some (w y x)))
      → Makes image around None next instr t' s
  shifted instr k w effect_is ok fits =
      through (two_numbers t) _ t' ok λ p p_is ok.
      held S10 (are_shift_counts p.0) _ t' ok λ counts ok.
      two_numbers_are image t p p_is λ a_is b_is.
      number_is image t.a s.areg p.0 a_is f.registers.a λ x x_is in_a.
      number_is image t.b s.breg p.1 b_is f.registers.b λ y y_is in_b.
      let c = counts_are p.0 x in_a counts in
      registers_made image around next t s f instr t' (k p.1 p.0) t.c kind.Undef (Some (w y x)) s.creg None s.error
      (effect_is ∙ shift_there w s.areg s.breg x y x_is y_is (shift_test p.0 x c)) ok (fits p.0 p.1 x y c in_b) f.registers.c tt
    where
      shift_there : (w : ℕ → ℕ → ℕ) (ra rb : Option ℕ) (a b : ℕ) → ra ≡ Some a → rb ≡ Some b → nat_lt a 32 ≡ true
          → option_and_then (λ a. option_and_then (λ b. only_if (machine_shift_count a) >>? Some (machine_replace_pair (w b a) s)) rb) ra ≡ Some (machine_replace_pair (w b a) s)
      shift_there w ra rb a b is its test = rw (is, its, test)

  pub shr_makes : rule image at next Shr e t ≡ Ok t' → Makes image around None next Shr t' s
  unfolding rule effect
  shr_makes ok = shifted Shr shifted_down (λ y x. y / 2 ^ x) refl ok (shifted_down_fits image)

  pub shl_makes : rule image at next Shl e t ≡ Ok t' → Makes image around None next Shl t' s
  unfolding rule effect
  shl_makes ok = shifted Shl shifted_up (λ y x. low_word (pos (y * 2 ^ x))) refl ok (shifted_up_fits image)
