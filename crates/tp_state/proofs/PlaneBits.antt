-- Bits of numbers, as tests.
use Rattle.std.proofs.Common.{◌≡◌, ◌⊎◌, inl, inr, ℕ, ◌+◌, ◌-◌, ◌*◌, ◌^◌, ◌<◌, ◌≤◌, ◌==◌, nat_lt, nat_le, Bool, true}
use Rattle.std.proofs.Common.{false, not, ◌&&◌, ◌||◌, bit_and, bit_or, bit_xor, min, max, w64, refl, sym, ap, ◌∙◌}
use Rattle.std.proofs.Common.{arith, ◌%◌}
use Rattle.std.proofs.lemmas.Bool.{cases_lt}
use Rattle.std.proofs.lemmas.Bool.Decides.{nat_tests}
use Rattle.std.proofs.lemmas.Nat.Bits.{bit_at-lt, bit_at_or, bit_at_and, bit_at_xor, bit_at_ones, bit_at_ones_above}
use Rattle.std.proofs.lemmas.Nat.Bits.{bit_at-pow_same, bit_at-pow_other, bit_at-zero, bit_at-trailing_zeros}
use Rattle.std.proofs.lemmas.Nat.Bits.{same_from_bits}
use Rattle.std.specs.Int.{bit_at, trailing_zeros}
use Rattle.tp_state.specs.Planes.{is_set}

-- exactly one of both
abbrev pub one_of : Bool → Bool → Bool
one_of true b = not b
one_of false b = b

below_two : (n : ℕ) → n < 2 → (n ≡ 0) ⊎ (n ≡ 1)
below_two n h = by_place (cases_lt n 1)
  where
    by_place : (n < 1) ⊎ (1 ≤ n) → (n ≡ 0) ⊎ (n ≡ 1)
    by_place (inl lt) = inl (omega (arith, lt))
    by_place (inr ge) = inr (omega (arith, ge, h))

pub bit_ways : (n j : ℕ) → (bit_at n j ≡ 0) ⊎ (bit_at n j ≡ 1)
bit_ways n j = below_two (bit_at n j) (bit_at-lt n j)

larger : (x y : ℕ) → (x ≡ 0) ⊎ (x ≡ 1) → (y ≡ 0) ⊎ (y ≡ 1) → (max x y == 1) ≡ ((x == 1) || (y == 1))
larger x y (inl p) (inl q) = rw (p, q) refl
larger x y (inl p) (inr q) = rw (p, q) refl
larger x y (inr p) (inl q) = rw (p, q) refl
larger x y (inr p) (inr q) = rw (p, q) refl

smaller : (x y : ℕ) → (x ≡ 0) ⊎ (x ≡ 1) → (y ≡ 0) ⊎ (y ≡ 1) → (min x y == 1) ≡ ((x == 1) && (y == 1))
smaller x y (inl p) (inl q) = rw (p, q) refl
smaller x y (inl p) (inr q) = rw (p, q) refl
smaller x y (inr p) (inl q) = rw (p, q) refl
smaller x y (inr p) (inr q) = rw (p, q) refl

odd : (x y : ℕ) → (x ≡ 0) ⊎ (x ≡ 1) → (y ≡ 0) ⊎ (y ≡ 1) → ((x + y) % 2 == 1) ≡ one_of (x == 1) (y == 1)
odd x y (inl p) (inl q) = rw (p, q) refl
odd x y (inl p) (inr q) = rw (p, q) refl
odd x y (inr p) (inl q) = rw (p, q) refl
odd x y (inr p) (inr q) = rw (p, q) refl

pub set-or : (a b j : ℕ) → is_set (bit_or a b) j ≡ (is_set a j || is_set b j)
set-or a b j = ap (λ n. n == 1) (bit_at_or a b j) ∙ larger (bit_at a j) (bit_at b j) (bit_ways a j) (bit_ways b j)

pub set-and : (a b j : ℕ) → is_set (bit_and a b) j ≡ (is_set a j && is_set b j)
set-and a b j = ap (λ n. n == 1) (bit_at_and a b j) ∙ smaller (bit_at a j) (bit_at b j) (bit_ways a j) (bit_ways b j)

pub set-xor : (a b j : ℕ) → is_set (bit_xor a b) j ≡ one_of (is_set a j) (is_set b j)
set-xor a b j = ap (λ n. n == 1) (bit_at_xor a b j) ∙ odd (bit_at a j) (bit_at b j) (bit_ways a j) (bit_ways b j)

-- ---- masks

pub set_ones : (k j : ℕ) → is_set (2 ^ k - 1) j ≡ nat_lt j k
set_ones k j = by_place (cases_lt j k)
  where
    by_place : (j < k) ⊎ (k ≤ j) → is_set (2 ^ k - 1) j ≡ nat_lt j k
    by_place (inl lt) =
        let yes : nat_lt j k ≡ true = grind (arith, nat_tests) in
        ap (λ n. n == 1) (bit_at_ones k j lt) ∙ sym yes
    by_place (inr ge) =
        let no : nat_lt j k ≡ false = grind (arith, nat_tests) in
        ap (λ n. n == 1) (bit_at_ones_above k j ge) ∙ sym no

pub set_one_same : (k : ℕ) → is_set (2 ^ k) k ≡ true
set_one_same k = ap (λ n. n == 1) (bit_at-pow_same k)

pub set_one_other : (k j : ℕ) → (j ≡ k → ⊥) → is_set (2 ^ k) j ≡ false
set_one_other k j other = ap (λ n. n == 1) (bit_at-pow_other k j other)

one_of_tests : (x end w j : ℕ) → x ≤ end → j < 64 → one_of (nat_lt j (min (end - 64 * w) 64)) (nat_lt j (min (x - 64 * w) 64)) ≡ (nat_le x (64 * w + j) && nat_lt (64 * w + j) end)
one_of_tests x end w j order lt = by_place (cases_lt (64 * w + j) x) (cases_lt (64 * w + j) end)
  where
    by_place : (64 * w + j < x) ⊎ (x ≤ 64 * w + j) → (64 * w + j < end) ⊎ (end ≤ 64 * w + j) →
        one_of (nat_lt j (min (end - 64 * w) 64)) (nat_lt j (min (x - 64 * w) 64)) ≡
        (nat_le x (64 * w + j) && nat_lt (64 * w + j) end)
    by_place (inl before) (inl under) =
        let a : nat_lt j (min (end - 64 * w) 64) ≡ true = grind (arith, nat_tests) in
        let b : nat_lt j (min (x - 64 * w) 64) ≡ true = grind (arith, nat_tests) in
        let c : nat_le x (64 * w + j) ≡ false = grind (arith, nat_tests) in
        rw (a, b, c) refl
    by_place (inl before) (inr past) = absurd (omega (arith, before, past, order))
    by_place (inr from) (inl under) =
        let a : nat_lt j (min (end - 64 * w) 64) ≡ true = grind (arith, nat_tests) in
        let b : nat_lt j (min (x - 64 * w) 64) ≡ false = grind (arith, nat_tests) in
        let c : nat_le x (64 * w + j) ≡ true = grind (arith, nat_tests) in
        let d : nat_lt (64 * w + j) end ≡ true = grind (arith, nat_tests) in
        rw (a, b, c, d) refl
    by_place (inr from) (inr past) =
        let a : nat_lt j (min (end - 64 * w) 64) ≡ false = grind (arith, nat_tests) in
        let b : nat_lt j (min (x - 64 * w) 64) ≡ false = grind (arith, nat_tests) in
        let c : nat_le x (64 * w + j) ≡ true = grind (arith, nat_tests) in
        let d : nat_lt (64 * w + j) end ≡ false = grind (arith, nat_tests) in
        rw (a, b, c, d) refl

pub set_within : (x end w j a b : ℕ) → a ≡ min (end - 64 * w) 64 → b ≡ min (x - 64 * w) 64 → x ≤ end → j < 64 →
    is_set (bit_xor (2 ^ a - 1) (2 ^ b - 1)) j ≡ (nat_le x (64 * w + j) && nat_lt (64 * w + j) end)
set_within x end w j a b e f order lt = rw (e, f) (set-xor (2 ^ min (end - 64 * w) 64 - 1) (2 ^ min (x - 64 * w) 64 - 1)
    j ∙ rw (set_ones (min (end - 64 * w) 64) j, set_ones (min (x - 64 * w) 64) j) (one_of_tests x end w j order lt))

-- ---- whether any is set

pub none_set : (j : ℕ) → is_set 0 j ≡ false
none_set j = ap (λ n. n == 1) (bit_at-zero j)

pub some_set : (n : ℕ) → 0 < n → n < 2 ^ 64 → (j : ℕ) × (j < 64) × (is_set n j ≡ true)
some_set n some small =
    let found = bit_at-trailing_zeros w64 n some small in
    (trailing_zeros w64 n, found.0, ap (λ m. m == 1) found.1)

-- numbers of which no bit differs are equal
pub xor_none : (a b : ℕ) → bit_xor a b ≡ 0 → a ≡ b
xor_none a b none = same_from_bits a b (λ i. same i (bit_ways a i) (bit_ways b i) (sym (bit_at_xor a b i) ∙ ap (λ n. bit_at n i) none ∙ bit_at-zero i))
  where
    same : (i : ℕ) → (bit_at a i ≡ 0) ⊎ (bit_at a i ≡ 1) → (bit_at b i ≡ 0) ⊎ (bit_at b i ≡ 1) → (bit_at a i + bit_at b i) % 2 ≡ 0 → bit_at a i ≡ bit_at b i
    same i (inl p) (inl q) e = p ∙ sym q
    same i (inr p) (inr q) e = p ∙ sym q
    same i (inl p) (inr q) e = absurd (omega (arith, p, q, e))
    same i (inr p) (inl q) e = absurd (omega (arith, p, q, e))
