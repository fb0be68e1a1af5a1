-- The arithmetic of subscripts.
use Rattle.std.proofs.Common.{◌≡◌, ◌⊎◌, inl, inr, zero, ◌+◌, ◌-◌, ◌%◌, ◌^◌, ◌≤◌, ◌<◌, ℕ, suc, ℤ, pos, negsuc, Bool, true, false, ◌||◌, refl, ap, sym, ◌∙◌, arith, w32}
use Rattle.std.specs.Prelude.{nat_le, bit_and, max, int_rem}
use Rattle.std.specs.Ordering.{int_eq}
use Rattle.std.proofs.lemmas.Int.{ints, to_z_pos}
use Rattle.std.proofs.lemmas.Bool.{cases_lt, le-ltb, lt-ltb, le-leb, lt-leb}
use Rattle.std.proofs.Math.Nat.{mod-lt, mod-eq_of_lt}
use Rattle.std.proofs.lemmas.Bool.Decides.{nat_tests, Decides-int_eq}
use Rattle.std.proofs.Math.Pow.{mod-mod-pow}
use Rattle.std.proofs.lemmas.Nat.{and_mask}
use Rattle.tpw_occam_expressions.specs.Ranges.{from_to, Contains}
use Rattle.tp_words.specs.Words.{signed}
use Rattle.tpw_occam_core.specs.declared.expression.Operator.TheVariants.{Remainder}
use Rattle.tpw_occam_core.specs.Arithmetic.{answer, pure, applied, subscript, divided}

pub subscript_below : (size i : ℕ) → i < size → subscript size i ≡ pure i
subscript_below size i h = rw (lt-ltb i size h) refl

pub reduced_below : (size i : ℕ) → i < size → size ≤ 2 ^ 31 → i % 2 ^ 31 % size ≡ i
reduced_below size i h small = let one : i % 2 ^ 31 ≡ i = omega arith in ap (λ n. n % size) one ∙ mod-eq_of_lt h

-- a remainder, also where the definition guards against a size of 0
mod-below : (n size : ℕ) → 0 < size → n % max size 1 < size
mod-below n size h = let same : max size 1 ≡ size = omega arith in rw same (mod-lt n h)

pub subscript_word_below : (size i : ℕ) → 0 < size → (subscript size i).word < size
subscript_word_below size i h = by_test (cases_lt i size)
  where
    by_test : (i < size) ⊎ (size ≤ i) → (subscript size i).word < size
    by_test (inl below) = rw (lt-ltb i size below) below
    by_test (inr above) = rw (le-ltb i size above) (mod-below (i % 2 ^ 31) size h)

-- a check, and what makes it a number below the size, are the subscript
pub subscript_checked : (size i : ℕ) → 0 < size → size ≤ 2 ^ 31 → answer (i % 2 ^ 31 % size) (nat_le size i || false) ≡ subscript size i
subscript_checked size i h small = by_test (cases_lt i size)
  where
    by_test : (i < size) ⊎ (size ≤ i) → answer (i % 2 ^ 31 % size) (nat_le size i || false) ≡ subscript size i
    by_test (inl below) = rw (lt-ltb i size below) (rw (lt-leb size i below) (ap (λ n. answer n false) (reduced_below size i below small)))
    by_test (inr above) = rw (le-ltb i size above) (rw (le-leb size i above) (ap (λ d. answer (i % 2 ^ 31 % d) true) (omega arith)))

int_eq_false : (x y : ℤ) → (x ≡ y → ⊥) → int_eq x y ≡ false
int_eq_false x y differ = by_test (int_eq x y) refl
  where
    by_test : (b : Bool) → int_eq x y ≡ b → int_eq x y ≡ false
    by_test true e = absurd (differ ((Decides-int_eq x y).0 e))
    by_test false e = e

unlike : (i : ℕ) (k : ℕ) → pos i ≡ negsuc k → ⊥
unlike i k e = cc

positive_differs : (d : ℕ) → pos (suc d) ≡ pos 0 → ⊥
positive_differs d e = omega (arith, ints)

pub remainder_answer : (i size : ℕ) → i < 2 ^ 31 → 0 < size → size ≤ 2 ^ 31 → applied Remainder i size ≡ pure (i % size)
remainder_answer i size h positive small =
    ap (λ z. divided int_rem z (signed size)) (to_z_pos w32 i h) ∙ by_size (cases_lt size (2 ^ 31))
  where
    by_number : (d : ℕ) → 0 < d → d < 2 ^ 31 → divided int_rem (pos i) (pos d) ≡ pure (i % d)
    by_number zero h small = absurd (omega (arith, h))
    by_number (suc d) h small =
        let less : i % suc d < suc d = mod-lt i (omega arith) in
        let low : (i % suc d) % 2 ^ 32 ≡ i % suc d = omega (arith, less) in
        rw (int_eq_false (pos (suc d)) (pos 0) (positive_differs d)) (rw (int_eq_false (pos i) (negsuc (2 ^ 31 - 1)) (unlike i _)) (ap pure low))

    by_least : divided int_rem (pos i) (negsuc (2 ^ 31 - 1)) ≡ pure (i % 2 ^ 31)
    by_least = rw (int_eq_false (pos i) (negsuc (2 ^ 31 - 1)) (unlike i _)) (ap pure (omega arith))

    by_size : (size < 2 ^ 31) ⊎ (2 ^ 31 ≤ size) → divided int_rem (pos i) (signed size) ≡ pure (i % size)
    by_size (inl less) = ap (λ z. divided int_rem (pos i) z) (to_z_pos w32 size less) ∙ by_number size positive less
    by_size (inr least) = let is : size ≡ 2 ^ 31 = omega arith in
        ap (λ n. divided int_rem (pos i) (signed n)) is ∙ by_least ∙ ap (λ n. pure (i % n)) (sym is)

-- the low bits of a word are what is left of it by a power of two, its sign or not
pub mask_answer : (i size exponent : ℕ) → size ≡ 2 ^ exponent → exponent < 32 → bit_and i (size - 1) ≡ i % 2 ^ 31 % size
mask_answer i size exponent is small =
    let digits : (31 - exponent) + exponent ≡ 31 = omega arith in
    rw is (and_mask i exponent ∙ sym (mod-mod-pow i (31 - exponent) exponent) ∙ ap (λ d. i % 2 ^ d % 2 ^ exponent) digits)

pub byte_small : (i : ℕ) → i < 2 ^ 32 → Contains (from_to (pos 0) (pos 255)) i → i < 256
byte_small i h in_range = let low = in_range.low in let high = in_range.high in grind (arith, ints, nat_tests)
