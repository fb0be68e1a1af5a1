-- What operations give from narrower ranges is narrower.
use Rattle.std.proofs.Common.{◌≡◌, ℕ, zero, suc, ◌+◌, ◌-◌, ◌*◌, ◌/◌, ◌^◌, ◌<◌, ◌≤◌, Bool, true, false, ◌&&◌, not}
use Rattle.std.proofs.Common.{if◌then◌else◌, IsTrue, ℤ, pos, negsuc, ◌-ℤ◌, ◌*ℤ◌, ◌≤ℤ◌, int_le, FitsSigned, w32, refl}
use Rattle.std.proofs.Common.{sym, ap, ◌∙◌, subst, arith, pow_pos, pow-add}
use Rattle.std.specs.Prelude.{int_lt, int_div}
use Rattle.std.specs.Ordering.{int_eq}
use Rattle.std.proofs.lemmas.Int.{ints, quot_fits}
use Rattle.std.proofs.lemmas.Bool.{and_parts}
use Rattle.std.proofs.lemmas.Bool.Decides.{nat_tests, Decides-int_eq}
use Rattle.std.proofs.Math.Nat.{pow-le-pow_right, div-le_self}
use Rattle.std.proofs.lemmas.Nat.{div_below}
use Rattle.tp_words.specs.Numbers.{least_integer, greatest_integer}
use Rattle.tp_state.specs.declared.kind.Kind.TheVariants as kind
use Rattle.tp_state.specs.Kinds.{full, range}
use Rattle.tp_state.specs.Order.{kind_below}
use Rattle.tp_state.specs.Rules.{is_positive, quotients, remainders, conjunctions, shifted_up, shifted_down, power, count_of, is_shift_count, are_shift_counts}
use Rattle.tp_state.proofs.Products.{mul_up, quotient_up, div_more}
use Rattle.tp_state.proofs.OrderLemmas.{kind_below-self}
use Rattle.tp_rule_laws.proofs.Ranges.{IsWithin, full_self, ints_below, fits_full, range_below, range_in_full}

word_fits : (z : ℤ) → least_integer ≤ℤ z → z ≤ℤ greatest_integer → FitsSigned w32 z
word_fits z h g = grind (arith, ints)

fits_least : (z : ℤ) → FitsSigned w32 z → least_integer ≤ℤ z
fits_least z f = grind (arith, ints)

fits_greatest : (z : ℤ) → FitsSigned w32 z → z ≤ℤ greatest_integer
fits_greatest z f = grind (arith, ints)

pub at_least_zero : (z : ℤ) → int_le (pos 0) z ≡ true → pos 0 ≤ℤ z
at_least_zero z e = grind (arith, ints, nat_tests)

below_zero : (z : ℤ) → int_le (pos 0) z ≡ false → z ≤ℤ negsuc 0
below_zero z e = grind (arith, ints, nat_tests)

at_least_one : (z : ℤ) → int_le (pos 1) z ≡ true → pos 1 ≤ℤ z
at_least_one z e = grind (arith, ints, nat_tests)

below_one : (z : ℤ) → int_le (pos 1) z ≡ false → z ≤ℤ pos 0
below_one z e = grind (arith, ints, nat_tests)

pub above_zero : (z : ℤ) → int_lt (pos 0) z ≡ true → pos 1 ≤ℤ z
above_zero z e = grind (arith, ints, nat_tests)

is_less : (y z : ℤ) → int_lt y z ≡ true → y ≤ℤ z
is_less y z e = grind (arith, ints, nat_tests)

not_less : (y z : ℤ) → int_lt y z ≡ false → z ≤ℤ y
not_less y z e = grind (arith, ints, nat_tests)

-- ---- one divisor above 0

one_positive : {P : Type 0} (low high : ℤ) → is_positive (low, high) ≡ true → ((k : ℕ) → low ≡ pos (suc k) → high ≡ pos (suc k) → P) → P
one_positive (pos zero) high e go = let parts = and_parts (int_eq (pos 0) high) (int_lt (pos 0) (pos 0)) e in let some = above_zero (pos 0) parts.1 in absurd (omega (arith, ints))
one_positive (pos (suc k)) high e go = let parts = and_parts (int_eq (pos (suc k)) high) (int_lt (pos 0) (pos (suc k))) e in go k refl (sym ((Decides-int_eq (pos (suc k)) high).0 parts.0))
one_positive (negsuc k) high e go = let parts = and_parts (int_eq (negsuc k) high) (int_lt (pos 0) (negsuc k)) e in let some = above_zero (negsuc k) parts.1 in absurd (omega (arith, ints))

positive_is : (k : ℕ) → is_positive (pos (suc k), pos (suc k)) ≡ true
positive_is k = grind (arith, ints, nat_tests)

-- a range within one positive number is that number
narrow_positive : {P : Type 0} (a c : ℤ × ℤ) → IsWithin a c → is_positive c ≡ true → ((k : ℕ) → a ≡ (pos (suc k), pos (suc k)) → c ≡ (pos (suc k), pos (suc k)) → P) → P
narrow_positive (a0, a1) (c0, c1) w e go = one_positive c0 c1 e λ k low high.
    let wl = w.low in let wo = w.ordered in let wh = w.high in
    let x : a0 ≡ pos (suc k) = omega (arith, ints) in
    let y : a1 ≡ pos (suc k) = omega (arith, ints) in
    go k (rw (x, y) refl) (rw (low, high) refl)

-- ---- quotients

quotients_full : (b a d : ℤ × ℤ) → IsWithin b d → IsTrue (kind_below (quotients b a) full)
quotients_full b (a0, a1) d w = by_test (is_positive (a0, a1)) refl
  where
    by_test : (p : Bool) → is_positive (a0, a1) ≡ p → IsTrue (kind_below (if p then kind.Int (int_div b.0 a0) (int_div b.1 a0) else full) full)
    by_test false e = full_self
    by_test true e = one_positive a0 a1 e λ k low high.
        let wl = w.least in let wo = w.ordered in let wg = w.greatest in
        let first = quot_fits w32 b.0 a0 (word_fits b.0 wl (omega (arith, ints))) (omega (arith, ints)) in
        let last = quot_fits w32 b.1 a0 (word_fits b.1 (omega (arith, ints)) wg) (omega (arith, ints)) in
        fits_full _ _ (fits_least _ first) (fits_greatest _ last)

pub quotients_below : (b a d c : ℤ × ℤ) → IsWithin b d → IsWithin a c → IsTrue (kind_below (quotients b a) (quotients d c))
quotients_below b a d c in_b in_a = by_test (is_positive c) refl
  where
    upper : (p : Bool) → is_positive c ≡ p → quotients d c ≡ (if p then kind.Int (int_div d.0 c.0) (int_div d.1 c.0) else full)
    upper p e = rw e refl

    by_test : (p : Bool) → is_positive c ≡ p → IsTrue (kind_below (quotients b a) (quotients d c))
    by_test false e = rw (upper false e) (quotients_full b a d in_b)
    by_test true e = narrow_positive a c in_a e λ k low high.
        let yes : is_positive a ≡ true = ap is_positive low ∙ positive_is k in
        let lower : quotients b a ≡ kind.Int (int_div b.0 (pos (suc k))) (int_div b.1 (pos (suc k))) = rw (yes, low) refl in
        let above : quotients d c ≡ kind.Int (int_div d.0 (pos (suc k))) (int_div d.1 (pos (suc k))) = upper true e ∙ rw high refl in
        rw (lower, above) (ints_below _ _ _ _ (quotient_up d.0 b.0 (suc k) (omega arith) in_b.low) (quotient_up b.1 d.1 (suc k) (omega arith) in_b.high))

-- ---- remainders

remainders_of : (b a : ℤ × ℤ) (p q : Bool) → is_positive a ≡ p → int_le (pos 0) b.0 ≡ q →
    remainders b a ≡ (if not p then full else if q then kind.Int (pos 0) (a.0 -ℤ pos 1) else kind.Int (pos 1 -ℤ a.0)
    (a.0 -ℤ pos 1))
remainders_of b a p q e f = rw (e, f) refl

pub remainders_below : (b a d c : ℤ × ℤ) → IsWithin b d → IsWithin a c → IsTrue (kind_below (remainders b a) (remainders d c))
remainders_below b a d c in_b in_a = by_test (is_positive c) refl (is_positive a) refl (int_le (pos 0) d.0) refl (int_le (pos 0) b.0) refl
  where
    by_test : (p : Bool) → is_positive c ≡ p → (o : Bool) → is_positive a ≡ o → (q : Bool) → int_le (pos 0) d.0 ≡ q →
        (r : Bool) → int_le (pos 0) b.0 ≡ r → IsTrue (kind_below (remainders b a) (remainders d c))
    by_test false e false f q g r h = rw (remainders_of d c false q e g, remainders_of b a false r f h) full_self
    by_test false e true f q g true h = one_positive a.0 a.1 f λ k low high. let wo = in_a.ordered in let wg = in_a.greatest in
        rw (remainders_of d c false q e g, remainders_of b a true true f h) (fits_full (pos 0) (a.0 -ℤ pos 1) (omega (arith, ints)) (omega (arith, ints)))
    by_test false e true f q g false h = one_positive a.0 a.1 f λ k low high. let wo = in_a.ordered in let wg = in_a.greatest in
        rw (remainders_of d c false q e g, remainders_of b a true false f h) (fits_full (pos 1 -ℤ a.0) (a.0 -ℤ pos 1) (omega (arith, ints)) (omega (arith, ints)))
    by_test true e false f q g r h = narrow_positive a c in_a e λ k low high. let no : true ≡ false = sym (ap is_positive low ∙ positive_is k) ∙ f in absurd cc
    by_test true e true f true g true h = narrow_positive a c in_a e λ k low high.
        rw (remainders_of d c true true e g, remainders_of b a true true f h, low, high) (kind_below-self (kind.Int (pos 0) (pos (suc k) -ℤ pos 1)))
    by_test true e true f true g false h =
        let some = at_least_zero d.0 g in let none = below_zero b.0 h in let wl = in_b.low in absurd (omega (arith, ints))
    by_test true e true f false g true h = narrow_positive a c in_a e λ k low high.
        rw (remainders_of d c true false e g, remainders_of b a true true f h, low, high)
        (ints_below (pos 0) (pos (suc k) -ℤ pos 1) (pos 1 -ℤ pos (suc k)) (pos (suc k) -ℤ pos 1) (omega (arith, ints))
        (omega (arith, ints)))
    by_test true e true f false g false h = narrow_positive a c in_a e λ k low high.
        rw (remainders_of d c true false e g, remainders_of b a true false f h, low, high) (kind_below-self (kind.Int (pos 1 -ℤ pos (suc k)) (pos (suc k) -ℤ pos 1)))

-- ---- conjunctions

high_of : (b a : ℤ × ℤ) → ℤ
high_of b a = if int_le (pos 0) b.0 && int_lt b.1 a.1 then b.1 else a.1

conjunctions_of : (b a : ℤ × ℤ) (p q : Bool) → int_le (pos 0) a.0 ≡ p → int_le (pos 0) b.0 ≡ q →
    conjunctions b a ≡ (if p then kind.Int (pos 0) (high_of b a) else if q then kind.Int (pos 0) b.1 else full)
unfolding high_of
conjunctions_of b a p q e f = rw (e, f) refl

high_first : (b a : ℤ × ℤ) → high_of b a ≤ℤ a.1
unfolding high_of
high_first b a = by_test (int_le (pos 0) b.0) (int_lt b.1 a.1) refl
  where
    by_test : (p q : Bool) → int_lt b.1 a.1 ≡ q → (if p && q then b.1 else a.1) ≤ℤ a.1
    by_test true true e = is_less b.1 a.1 e
    by_test true false e = omega (arith, ints)
    by_test false q e = omega (arith, ints)

high_second : (b a : ℤ × ℤ) → int_le (pos 0) b.0 ≡ true → high_of b a ≤ℤ b.1
unfolding high_of
high_second b a some = rw some (by_test (int_lt b.1 a.1) refl)
  where
    by_test : (q : Bool) → int_lt b.1 a.1 ≡ q → (if true && q then b.1 else a.1) ≤ℤ b.1
    by_test true e = omega (arith, ints)
    by_test false e = not_less b.1 a.1 e

high_is : (d c : ℤ × ℤ) (p : Bool) → int_le (pos 0) d.0 ≡ p → (q : Bool) → int_lt d.1 c.1 ≡ q → high_of d c ≡ (if p && q then d.1 else c.1)
unfolding high_of
high_is d c p e q f = rw (e, f) refl

high_below : (b a d c : ℤ × ℤ) → IsWithin b d → IsWithin a c → high_of b a ≤ℤ high_of d c
high_below b a d c in_b in_a = by_test (int_le (pos 0) d.0) refl (int_lt d.1 c.1) refl
  where
    first : high_of b a ≤ℤ c.1
    first = let h = high_first b a in let w = in_a.high in omega (arith, ints)

    by_test : (p : Bool) → int_le (pos 0) d.0 ≡ p → (q : Bool) → int_lt d.1 c.1 ≡ q → high_of b a ≤ℤ high_of d c
    by_test true e true f =
        let some = at_least_zero d.0 e in let wl = in_b.low in
        let also : int_le (pos 0) b.0 ≡ true = grind (arith, ints, nat_tests) in
        let h = high_second b a also in let w = in_b.high in
        rw (high_is d c true e true f) (omega (arith, ints))
    by_test true e false f = rw (high_is d c true e false f) first
    by_test false e q f = rw (high_is d c false e q f) first

pub conjunctions_below : (b a d c : ℤ × ℤ) → IsWithin b d → IsWithin a c → IsTrue (kind_below (conjunctions b a) (conjunctions d c))
conjunctions_below b a d c in_b in_a = by_test (int_le (pos 0) c.0) refl (int_le (pos 0) a.0) refl (int_le (pos 0) d.0) refl (int_le (pos 0) b.0) refl
  where
    high_word : high_of b a ≤ℤ greatest_integer
    high_word = let h = high_first b a in let w = in_a.greatest in omega (arith, ints)

    nought : pos 0 ≤ℤ pos 0
    nought = omega (arith, ints)

    zero_word : least_integer ≤ℤ pos 0
    zero_word = omega (arith, ints)

    by_test : (p : Bool) → int_le (pos 0) c.0 ≡ p → (o : Bool) → int_le (pos 0) a.0 ≡ o → (q : Bool) →
        int_le (pos 0) d.0 ≡ q → (r : Bool) → int_le (pos 0) b.0 ≡ r →
        IsTrue (kind_below (conjunctions b a) (conjunctions d c))
    by_test true e true f q g r h = rw (conjunctions_of d c true q e g, conjunctions_of b a true r f h) (ints_below _ _ _ _ nought (high_below b a d c in_b in_a))
    by_test true e false f q g r h = let x = at_least_zero c.0 e in let y = below_zero a.0 f in let w = in_a.low in absurd (omega (arith, ints))
    by_test false e o f true g false h = let x = at_least_zero d.0 g in let y = below_zero b.0 h in let w = in_b.low in absurd (omega (arith, ints))
    by_test false e true f true g true h =
        let s = high_second b a h in let w = in_b.high in
        rw (conjunctions_of d c false true e g, conjunctions_of b a true true f h) (ints_below (pos 0) (high_of b a) (pos 0) d.1 nought (omega (arith, ints)))
    by_test false e false f true g true h =
        rw (conjunctions_of d c false true e g, conjunctions_of b a false true f h) (ints_below _ _ _ _ nought in_b.high)
    by_test false e true f false g r h = rw (conjunctions_of d c false false e g, conjunctions_of b a true r f h) (fits_full _ _ zero_word high_word)
    by_test false e false f false g true h = rw (conjunctions_of d c false false e g, conjunctions_of b a false true f h) (fits_full _ _ zero_word in_b.greatest)
    by_test false e false f false g false h = rw (conjunctions_of d c false false e g, conjunctions_of b a false false f h) full_self

-- ---- complements

pub complements_below : (a c : ℤ × ℤ) → IsWithin a c → IsTrue (kind_below (kind.Int (negsuc 0 -ℤ a.1) (negsuc 0 -ℤ a.0)) (kind.Int (negsuc 0 -ℤ c.1) (negsuc 0 -ℤ c.0)))
complements_below a c w = let l = w.low in let h = w.high in ints_below (negsuc 0 -ℤ a.1) (negsuc 0 -ℤ a.0) (negsuc 0 -ℤ c.1) (negsuc 0 -ℤ c.0) (omega (arith, ints)) (omega (arith, ints))

-- ---- shifts

pub shifted_up_below : (b a d c : ℤ × ℤ) → IsWithin b d → IsWithin a c → IsTrue (kind_below (shifted_up b a) (shifted_up d c))
shifted_up_below b a d c in_b in_a = by_test (int_eq c.0 c.1 && int_le (pos 0) d.0) refl (int_eq a.0 a.1 && int_le (pos 0) b.0) refl
  where
    made : (b a : ℤ × ℤ) (p : Bool) → (int_eq a.0 a.1 && int_le (pos 0) b.0) ≡ p → shifted_up b a ≡ (if p then range (b.0 *ℤ power a.0) (b.1 *ℤ power a.0) else full)
    made b a p e = rw e refl

    by_test : (p : Bool) → (int_eq c.0 c.1 && int_le (pos 0) d.0) ≡ p → (q : Bool) → (int_eq a.0 a.1 && int_le (pos 0) b.0) ≡ q → IsTrue (kind_below (shifted_up b a) (shifted_up d c))
    by_test false e false f = rw (made d c false e, made b a false f) full_self
    by_test false e true f = rw (made d c false e, made b a true f) (range_in_full _ _)
    by_test true e q f =
        let parts = and_parts (int_eq c.0 c.1) (int_le (pos 0) d.0) e in
        let one : c.0 ≡ c.1 = (Decides-int_eq c.0 c.1).0 parts.0 in
        let some = at_least_zero d.0 parts.1 in
        let wl = in_a.low in let wo = in_a.ordered in let wh = in_a.high in
        let bl = in_b.low in let bo = in_b.ordered in let bh = in_b.high in
        let same : a.0 ≡ c.0 = omega (arith, ints) in
        let also : a.1 ≡ c.0 = omega (arith, ints) in
        let yes : (int_eq a.0 a.1 && int_le (pos 0) b.0) ≡ true = both (a.0) (a.1) (b.0) (same ∙ sym also) (omega (arith, ints)) in
        let lower : shifted_up b a ≡ range (b.0 *ℤ power c.0) (b.1 *ℤ power c.0) = made b a true yes ∙ ap (λ z. range (b.0 *ℤ power z) (b.1 *ℤ power z)) same in
        rw (made d c true e, lower) (range_below _ _ _ _ (mul_up d.0 b.0 (2 ^ count_of c.0) bl) (mul_up b.0 b.1 (2 ^ count_of c.0) bo) (mul_up b.1 d.1 (2 ^ count_of c.0) bh))
      where
        both : (x y z : ℤ) → x ≡ y → pos 0 ≤ℤ z → (int_eq x y && int_le (pos 0) z) ≡ true
        both x y z e h = grind (arith, ints, nat_tests)

-- a quotient below a power
quotient_less : (x m n : ℕ) → x < 2 ^ 31 → n ≤ m → n ≤ 31 → x / 2 ^ m < 2 ^ (32 - n)
quotient_less x m n small up few =
    let narrower : 2 ^ n ≤ 2 ^ m = pow-le-pow_right (omega arith) up in
    let less : x / 2 ^ m ≤ x / 2 ^ n = div_more x x (2 ^ n) (2 ^ m) (pow_pos n) narrower (omega arith) in
    let all : 2 ^ (32 - n) * 2 ^ n ≡ 2 ^ 32 = all_bits n few in
    let under : x / 2 ^ n < 2 ^ (32 - n) = div_below x (2 ^ n) (2 ^ (32 - n)) (pow_pos n) (omega arith) in
    omega arith
  where
    all_bits : (n : ℕ) → n ≤ 31 → 2 ^ (32 - n) * 2 ^ n ≡ 2 ^ 32
    all_bits n few = sym (pow-add 2 (32 - n) n) ∙ ap (λ k. 2 ^ k) (let e : 32 - n + n ≡ 32 = omega arith in e)

-- a count is a number from 0 to 31
count_is : {P : Type 0} (z : ℤ) → is_shift_count z ≡ true → ((n : ℕ) → z ≡ pos n → n ≤ 31 → P) → P
count_is (pos n) e go = go n refl (let parts = and_parts (int_le (pos 0) (pos n)) (int_le (pos n) (pos 31)) e in let few = parts.1 in grind (arith, ints, nat_tests))
count_is (negsuc n) e go = absurd (grind (arith, ints, nat_tests))

natural_is : {P : Type 0} (z : ℤ) → pos 0 ≤ℤ z → ((n : ℕ) → z ≡ pos n → P) → P
natural_is (pos n) h go = go n refl
natural_is (negsuc n) h go = absurd (omega (arith, ints))

down_of : (b a : ℤ × ℤ) (p q : Bool) → int_le (pos 0) b.0 ≡ p → int_le (pos 1) a.0 ≡ q →
    shifted_down b a ≡ (if p then kind.Int (int_div b.0 (power a.1)) (int_div b.1 (power a.0)) else if q then kind.Int
    (pos 0) (power (pos 32 -ℤ a.0) -ℤ pos 1) else full)
down_of b a p q e f = rw (e, f) refl

rest_is : (z : ℤ) (n : ℕ) → z ≡ pos n → n ≤ 31 → power (pos 32 -ℤ z) ≡ pos (2 ^ (32 - n))
rest_is z n is few = let e : pos 32 -ℤ z ≡ pos (32 - n) = omega (arith, ints) in rw e refl

fewer_bits : (m n : ℕ) → n ≤ m → m ≤ 32 → 2 ^ (32 - m) ≤ 2 ^ (32 - n)
fewer_bits m n le most = let fewer : 32 - m ≤ 32 - n = omega arith in pow-le-pow_right (omega arith) fewer

rests_below : (x y : ℤ) (m n : ℕ) → x ≡ pos m → y ≡ pos n → n ≤ m → m ≤ 31 → (power (pos 32 -ℤ x) -ℤ pos 1) ≤ℤ (power (pos 32 -ℤ y) -ℤ pos 1)
rests_below x y m n x_is y_is le most =
    let less = fewer_bits m n le (omega arith) in
    let both : (pos (2 ^ (32 - m)) -ℤ pos 1) ≤ℤ (pos (2 ^ (32 - n)) -ℤ pos 1) = omega (arith, ints) in
    subst (λ u. (u -ℤ pos 1) ≤ℤ (power (pos 32 -ℤ y) -ℤ pos 1)) (sym (rest_is x m x_is most)) (subst (λ u. (pos (2 ^ (32 - m)) -ℤ pos 1) ≤ℤ (u -ℤ pos 1)) (sym (rest_is y n y_is (omega arith))) both)

rest_word : (z : ℤ) (n : ℕ) → z ≡ pos n → 1 ≤ n → n ≤ 31 → (power (pos 32 -ℤ z) -ℤ pos 1) ≤ℤ greatest_integer
rest_word z n is some few = rests_below z (pos 1) n 1 is refl some few

rest_above : (x : ℤ) (z : ℤ) (n : ℕ) → z ≡ pos n → n ≤ 31 → x ≤ℤ (pos (2 ^ (32 - n)) -ℤ pos 1) → x ≤ℤ (power (pos 32 -ℤ z) -ℤ pos 1)
rest_above x z n is few le = subst (λ u. x ≤ℤ (u -ℤ pos 1)) (sym (rest_is z n is few)) le

module _ (b a d c : ℤ × ℤ) (counts : are_shift_counts c ≡ true) (in_b : IsWithin b d) (in_a : IsWithin a c) where
  by_counts : {P : Type 0} → ((m0 m1 n0 n1 : ℕ) → a.0 ≡ pos m0 → a.1 ≡ pos m1 → c.0 ≡ pos n0 → c.1 ≡ pos n1 → n0 ≤ m0 → m0 ≤ m1 → m1 ≤ n1 → n1 ≤ 31 → P) → P
  by_counts go =
      let parts = and_parts (is_shift_count c.0) (is_shift_count c.1) counts in
      let al = in_a.low in let ao = in_a.ordered in let ah = in_a.high in
      count_is c.0 parts.0 λ n0 c0 few0.
      count_is c.1 parts.1 λ n1 c1 few1.
      natural_is a.0 (omega (arith, ints)) λ m0 a0.
      natural_is a.1 (omega (arith, ints)) λ m1 a1.
      go m0 m1 n0 n1 a0 a1 c0 c1 (omega (arith, ints)) (omega (arith, ints)) (omega (arith, ints)) few1

  by_numbers : {P : Type 0} → pos 0 ≤ℤ b.0 → ((x0 x1 : ℕ) → b.0 ≡ pos x0 → b.1 ≡ pos x1 → x1 < 2 ^ 31 → P) → P
  by_numbers some go =
      let o = in_b.ordered in let gr = in_b.greatest in
      natural_is b.0 some λ x0 b0.
      natural_is b.1 (omega (arith, ints)) λ x1 b1. go x0 x1 b0 b1 (omega (arith, ints))

  both_natural : pos 0 ≤ℤ d.0 → IsTrue (kind_below (kind.Int (int_div b.0 (power a.1)) (int_div b.1 (power a.0))) (kind.Int (int_div d.0 (power c.1)) (int_div d.1 (power c.0))))
  both_natural some =
      let bl = in_b.low in let bo = in_b.ordered in let bh = in_b.high in
      by_counts λ m0 m1 n0 n1 a0 a1 c0 c1 up0 up up1 few.
      by_numbers (omega (arith, ints)) λ x0 x1 b0 b1 small.
      natural_is d.0 some λ y0 d0.
      natural_is d.1 (omega (arith, ints)) λ y1 d1.
      let first : y0 / 2 ^ n1 ≤ x0 / 2 ^ m1 = div_more y0 x0 (2 ^ m1) (2 ^ n1) (pow_pos m1) (pow-le-pow_right (omega arith) up1) (omega (arith, ints)) in
      let last : x1 / 2 ^ m0 ≤ y1 / 2 ^ n0 = div_more x1 y1 (2 ^ n0) (2 ^ m0) (pow_pos n0) (pow-le-pow_right (omega arith) up0) (omega (arith, ints)) in
      rw (a0, a1, c0, c1, b0, b1, d0, d1) (ints_below (int_div (pos x0) (pos (2 ^ m1)))
      (int_div (pos x1) (pos (2 ^ m0))) (int_div (pos y0) (pos (2 ^ n1))) (int_div (pos y1) (pos (2 ^ n0)))
      (omega (arith, ints)) (omega (arith, ints)))

  natural_below : (z : ℤ) → pos 0 ≤ℤ b.0 → ((x m : ℕ) → b.1 ≡ pos x → x < 2 ^ 31 → a.0 ≡ pos m → pos (x / 2 ^ m) ≤ℤ z) →
      IsTrue (kind_below (kind.Int (int_div b.0 (power a.1)) (int_div b.1 (power a.0))) (kind.Int (pos 0) z))
  natural_below z some go =
      by_counts λ m0 m1 n0 n1 a0 a1 c0 c1 up0 up up1 few.
      by_numbers some λ x0 x1 b0 b1 small.
      let last = go x1 m0 b1 small a0 in
      rw (a0, a1, b0, b1) (ints_below (int_div (pos x0) (pos (2 ^ m1))) (int_div (pos x1) (pos (2 ^ m0))) (pos 0) z (omega (arith, ints)) (omega (arith, ints)))

  pub shifted_down_below : IsTrue (kind_below (shifted_down b a) (shifted_down d c))
  shifted_down_below = by_test (int_le (pos 0) d.0) refl (int_le (pos 1) c.0) refl (int_le (pos 0) b.0) refl (int_le (pos 1) a.0) refl
    where
      by_test : (p : Bool) → int_le (pos 0) d.0 ≡ p → (q : Bool) → int_le (pos 1) c.0 ≡ q → (o : Bool) →
          int_le (pos 0) b.0 ≡ o → (r : Bool) → int_le (pos 1) a.0 ≡ r →
          IsTrue (kind_below (shifted_down b a) (shifted_down d c))
      by_test true e q f true g r k = rw (down_of d c true q e f, down_of b a true r g k) (both_natural (at_least_zero d.0 e))
      by_test true e q f false g r k = let x = at_least_zero d.0 e in let y = below_zero b.0 g in let w = in_b.low in absurd (omega (arith, ints))
      by_test false e true f true g r k =
          by_counts λ m0 m1 n0 n1 a0 a1 c0 c1 up0 up up1 few.
          let few0 : n0 ≤ 31 = omega arith in
          rw (down_of d c false true e f, down_of b a true r g k)
          (natural_below (power (pos 32 -ℤ c.0) -ℤ pos 1) (at_least_zero b.0 g) λ x m is small at_m.
          let same : m ≡ m0 = omega (arith, ints) in
          let less = quotient_less x m n0 small (omega arith) few0 in rest_above (pos (x / 2 ^ m)) c.0 n0 c0 few0 (omega (arith, ints)))
      by_test false e true f false g true k =
          by_counts λ m0 m1 n0 n1 a0 a1 c0 c1 up0 up up1 few.
          rw (down_of d c false true e f, down_of b a false true g k)
          (ints_below (pos 0) (power (pos 32 -ℤ a.0) -ℤ pos 1) (pos 0) (power (pos 32 -ℤ c.0) -ℤ pos 1) (omega (arith, ints)) (rests_below a.0 c.0 m0 n0 a0 c0 up0 (omega arith)))
      by_test false e true f false g false k = let x = at_least_one c.0 f in let y = below_one a.0 k in let w = in_a.low in absurd (omega (arith, ints))
      by_test false e false f true g r k =
          rw (down_of d c false false e f, down_of b a true r g k)
          (by_counts λ m0 m1 n0 n1 a0 a1 c0 c1 up0 up up1 few.
          by_numbers (at_least_zero b.0 g) λ x0 x1 b0 b1 small.
          let fewer = div-le_self x1 (2 ^ m0) in
          rw (a0, a1, b0, b1) (fits_full (int_div (pos x0) (pos (2 ^ m1))) (int_div (pos x1) (pos (2 ^ m0))) (omega (arith, ints)) (omega (arith, ints))))
      by_test false e false f false g true k =
          by_counts λ m0 m1 n0 n1 a0 a1 c0 c1 up0 up up1 few.
          let some = at_least_one a.0 k in
          rw (down_of d c false false e f, down_of b a false true g k)
          (fits_full (pos 0) (power (pos 32 -ℤ a.0) -ℤ pos 1) (omega (arith, ints)) (rest_word a.0 m0 a0 (omega (arith, ints)) (omega arith)))
      by_test false e false f false g false k = rw (down_of d c false false e f, down_of b a false false g k) full_self
