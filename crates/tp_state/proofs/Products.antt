-- Products and quotients of signed numbers, and their order.
use Rattle.std.proofs.Common.{ℕ, suc, ◌/◌, ◌%◌, ◌<◌, ◌≤◌, ℤ, pos, negsuc, ◌*ℤ◌, ◌-ℤ◌, ◌≤ℤ◌, arith, mul-le-mul_right, mul-le-mul_left}
use Rattle.std.proofs.lemmas.Int.{ints, clamps}
use Rattle.std.specs.Int.{int_min, int_max}
use Rattle.std.specs.Prelude.{int_div, int_rem}
use Rattle.std.proofs.lemmas.Nat.{le-div}
use Rattle.std.proofs.Math.Nat.{div-mul-le_self}
use lib.IntN.{*ℤ_comm}

-- a factor from 0 up keeps the order
pub mul_up : (a x : ℤ) (k : ℕ) → a ≤ℤ x → (a *ℤ pos k) ≤ℤ (x *ℤ pos k)
mul_up (pos a) (pos x) k h =
    let le : a ≤ x = omega (arith, ints) in
    let more = mul-le-mul_right k le in
    omega (arith, ints)
mul_up (pos a) (negsuc x) k h = absurd (omega (arith, ints))
mul_up (negsuc a) (pos x) k h = omega (arith, ints)
mul_up (negsuc a) (negsuc x) k h =
    let le : suc x ≤ suc a = omega (arith, ints) in
    let more = mul-le-mul_right k le in
    omega (arith, ints)

-- and one below 0 turns it
mul_down : (a x : ℤ) (k : ℕ) → a ≤ℤ x → (x *ℤ negsuc k) ≤ℤ (a *ℤ negsuc k)
mul_down (pos a) (pos x) k h =
    let le : a ≤ x = omega (arith, ints) in
    let more = mul-le-mul_right (suc k) le in
    omega (arith, ints)
mul_down (pos a) (negsuc x) k h = absurd (omega (arith, ints))
mul_down (negsuc a) (pos x) k h = omega (arith, ints)
mul_down (negsuc a) (negsuc x) k h =
    let le : suc x ≤ suc a = omega (arith, ints) in
    let more = mul-le-mul_right (suc k) le in
    omega (arith, ints)

-- a product in one factor lies between the products at its ends
between_ends : (a b x y : ℤ) → a ≤ℤ x → x ≤ℤ b → (int_min (a *ℤ y) (b *ℤ y) ≤ℤ (x *ℤ y)) × ((x *ℤ y) ≤ℤ int_max (a *ℤ y) (b *ℤ y))
between_ends a b x (pos k) low high =
    let l = mul_up a x k low in
    let h = mul_up x b k high in
    (omega (arith, ints, clamps), omega (arith, ints, clamps))
between_ends a b x (negsuc k) low high =
    let l = mul_down a x k low in
    let h = mul_down x b k high in
    (omega (arith, ints, clamps), omega (arith, ints, clamps))

-- a product lies between the products at the corners
pub between_corners : (a b c d x y : ℤ) → a ≤ℤ x → x ≤ℤ b → c ≤ℤ y → y ≤ℤ d →
    (int_min (int_min (a *ℤ c) (a *ℤ d)) (int_min (b *ℤ c) (b *ℤ d)) ≤ℤ (x *ℤ y)) ×
    ((x *ℤ y) ≤ℤ int_max (int_max (a *ℤ c) (a *ℤ d)) (int_max (b *ℤ c) (b *ℤ d)))
between_corners a b c d x y al xl cl yl =
    let outer = between_ends a b x y al xl in
    let at_a = turned c d y a cl yl in
    let at_b = turned c d y b cl yl in
    (omega (arith, ints, clamps), omega (arith, ints, clamps))
  where
    turned : (c d y a : ℤ) → c ≤ℤ y → y ≤ℤ d → (int_min (a *ℤ c) (a *ℤ d) ≤ℤ (a *ℤ y)) × ((a *ℤ y) ≤ℤ int_max (a *ℤ c) (a *ℤ d))
    turned c d y a low high = rw (*ℤ_comm a c, *ℤ_comm a d, *ℤ_comm a y) (between_ends c d y a low high)

-- ---- quotients

-- of a greater number by a lesser one
pub div_more : (m n j k : ℕ) → 0 < j → j ≤ k → m ≤ n → m / k ≤ n / j
div_more m n j k some less le =
    let part = div-mul-le_self m k in
    let fewer = mul-le-mul_left (m / k) less in
    le-div (m / k) n j some (omega arith)

pub quotient_up : (a x : ℤ) (d : ℕ) → 0 < d → a ≤ℤ x → int_div a (pos d) ≤ℤ int_div x (pos d)
quotient_up (pos a) (pos x) d some h =
    let le : a ≤ x = omega (arith, ints) in
    let more = div_more a x d d some (omega arith) le in
    omega (arith, ints)
quotient_up (pos a) (negsuc x) d some h = absurd (omega (arith, ints))
quotient_up (negsuc a) (pos x) d some h = omega (arith, ints)
quotient_up (negsuc a) (negsuc x) d some h =
    let le : suc x ≤ suc a = omega (arith, ints) in
    let more = div_more (suc x) (suc a) d d some (omega arith) le in
    omega (arith, ints)

-- ---- remainders

pub remainder_low : (a : ℤ) (d : ℕ) → 0 < d → (pos 1 -ℤ pos d) ≤ℤ int_rem a (pos d)
remainder_low (pos a) d some = let lt : a % d < d = omega arith in omega (arith, ints)
remainder_low (negsuc a) d some = let lt : suc a % d < d = omega arith in omega (arith, ints)

pub remainder_high : (a : ℤ) (d : ℕ) → 0 < d → int_rem a (pos d) ≤ℤ (pos d -ℤ pos 1)
remainder_high (pos a) d some = let lt : a % d < d = omega arith in omega (arith, ints)
remainder_high (negsuc a) d some = let lt : suc a % d < d = omega arith in omega (arith, ints)

pub remainder_sign : (a : ℤ) (d : ℕ) → pos 0 ≤ℤ a → pos 0 ≤ℤ int_rem a (pos d)
remainder_sign (pos a) d h = omega (arith, ints)
remainder_sign (negsuc a) d h = absurd (omega (arith, ints))
