-- Where a text may be cut
use Rattle.std.proofs.Common.{◌≡◌, ◌∙◌, sym, subst, refl, ℕ, zero, suc, ◌+◌, ◌-◌, ◌<◌, ◌≤◌, ◌^◌, Bool, true, false, List, [], ◌∷◌, length, drop, get_or, arith}
use Rattle.std.proofs.Common.{nat_lt, length-drop}
use Rattle.std.specs.Prelude.{if◌then◌else◌, ◌==◌}
use Rattle.std.specs.Str.{IsUtf8, IsCharBoundary}
use Rattle.std.proofs.lemmas.Grind.{common_steps}
use Rattle.std.proofs.lemmas.Bool.Decides.{nat_tests}
use Rattle.std.proofs.lemmas.Str.{IsCharBoundary-start, IsCharBoundary-after_ascii, IsCharBoundary-before_ascii, IsCharBoundary-from_rest, IsUtf8-drop}
use Rattle.tpw_occam_lexing.specs.declared.bytes.Class.{Class}
use Rattle.tpw_occam_lexing.specs.declared.bytes.Class.TheVariants as class
use Rattle.tpw_occam_lexing.specs.Bytes.{has, run, IsNarrow, IsMarked}
use Rattle.tpw_occam_lexing.specs.Lexemes.{is_int, begins}

-- ---- numbers

test_big : (n : ℕ) → 2 ^ 31 ≤ n → nat_lt n (2 ^ 31) ≡ false
test_big n h = grind (arith, nat_tests)

pub big : (n : ℕ) (digits : List ℕ) → 2 ^ 31 ≤ n → is_int n digits ≡ false
big n [] h = test_big n h
big n (c ∷ more) h = rw (test_big n h) refl

-- ---- runs

narrow_word : (c : ℕ) → has class.Word c ≡ true → c < 128
unfolding has
narrow_word c h = grind (arith, nat_tests)

narrow_digit : (c : ℕ) → has class.Digit c ≡ true → c < 128
unfolding has
narrow_digit c h = grind (arith, nat_tests)

narrow_hexadecimal : (c : ℕ) → has class.Hexadecimal c ≡ true → c < 128
unfolding has
narrow_hexadecimal c h = grind (arith, nat_tests)

narrow : (kind : Class) (c : ℕ) → IsNarrow kind → has kind c ≡ true → c < 128
narrow class.Word c is h = narrow_word c h
narrow class.Digit c is h = narrow_digit c h
narrow class.Hexadecimal c is h = narrow_hexadecimal c h
narrow other c is h = absurd is

first_of_run : (b : Bool) (n i : ℕ) → i < (if b then 1 + n else 0) → (b ≡ true) × (i < 1 + n)
first_of_run true n i h = (refl, h)
first_of_run false n i h = absurd (omega arith)

within_run : (kind : Class) (bytes : List ℕ) (i : ℕ) → i < run kind bytes → has kind (get_or bytes i 0) ≡ true
within_run kind [] i h = absurd (omega arith)
within_run kind (c ∷ more) zero h = (first_of_run (has kind c) (run kind more) zero h).0
within_run kind (c ∷ more) (suc i) h =
    let next = first_of_run (has kind c) (run kind more) (suc i) h in within_run kind more i (omega (arith, next.1))

run_or_none : (b : Bool) (n k : ℕ) → n ≤ k → (if b then 1 + n else 0) ≤ suc k
run_or_none true n k h = omega arith
run_or_none false n k h = omega arith

pub run_fits : (kind : Class) (bytes : List ℕ) → run kind bytes ≤ length bytes
run_fits kind [] = omega arith
run_fits kind (c ∷ more) = run_or_none (has kind c) (run kind more) (length more) (run_fits kind more)

cut_at : (kind : Class) (bytes : List ℕ) (n : ℕ) → IsNarrow kind → IsUtf8 bytes → run kind bytes ≡ n → IsCharBoundary bytes n
cut_at kind bytes zero is utf8 e = IsCharBoundary-start bytes utf8
cut_at kind bytes (suc k) is utf8 e =
    let fits = run_fits kind bytes in
    let same : k + 1 ≡ suc k = omega arith in
    subst (λ n. IsCharBoundary bytes n) same
    (IsCharBoundary-after_ascii bytes k utf8 (omega arith) (narrow kind (get_or bytes k 0) is (within_run kind bytes k (omega arith))))

-- a text may be cut behind a run
pub run_cut : (kind : Class) (bytes : List ℕ) → IsNarrow kind → IsUtf8 bytes → IsCharBoundary bytes (run kind bytes)
run_cut kind bytes is utf8 = cut_at kind bytes (run kind bytes) is utf8 refl

-- ---- behind the first byte

pub first_cut : (bytes : List ℕ) → IsUtf8 bytes → IsMarked bytes → IsCharBoundary bytes 1
first_cut bytes utf8 is =
    let same : 0 + 1 ≡ 1 = omega arith in
    subst (λ n. IsCharBoundary bytes n) same (IsCharBoundary-after_ascii bytes 0 utf8 is.0 is.1)

pub tail_utf8 : (bytes : List ℕ) → IsUtf8 bytes → IsMarked bytes → IsUtf8 (drop 1 bytes)
tail_utf8 bytes utf8 is = IsUtf8-drop bytes 1 utf8 (first_cut bytes utf8 is)

pub digits_cut : (bytes : List ℕ) → IsUtf8 bytes → IsMarked bytes → IsCharBoundary bytes (1 + run class.Hexadecimal (drop 1 bytes))
digits_cut bytes utf8 is =
    IsCharBoundary-from_rest bytes 1 (run class.Hexadecimal (drop 1 bytes)) (omega (arith, is.0))
    (run_cut class.Hexadecimal (drop 1 bytes) tt (tail_utf8 bytes utf8 is))

-- behind a quote that stands behind a quote and this many bytes
pub quotes_cut : (bytes : List ℕ) (n : ℕ) → IsUtf8 bytes → IsMarked bytes → n < length (drop 1 bytes) → get_or (drop 1 bytes) n 0 < 128
    → IsCharBoundary bytes (n + 2)
quotes_cut bytes n utf8 is lt narrow =
    let same : 1 + (n + 1) ≡ n + 2 = omega arith in
    subst (λ k. IsCharBoundary bytes k) same
    (IsCharBoundary-from_rest bytes 1 (n + 1) (omega (arith, is.0))
    (IsCharBoundary-after_ascii (drop 1 bytes) n (tail_utf8 bytes utf8 is) lt narrow))

-- behind bytes of which the last is ASCII
pub ascii_cut : (bytes : List ℕ) (n : ℕ) → IsUtf8 bytes → 0 < n → n ≤ length bytes → get_or bytes (n - 1) 0 < 128 → IsCharBoundary bytes n
ascii_cut bytes n utf8 some fits narrow =
    let same : n - 1 + 1 ≡ n = omega arith in
    subst (λ k. IsCharBoundary bytes k) same (IsCharBoundary-after_ascii bytes (n - 1) utf8 (omega arith) narrow)

first_narrow : (c : ℕ) → (c == 39) ≡ true → c < 128
first_narrow c h = grind (arith, nat_tests)

quote_front : (bytes : List ℕ) → begins 39 bytes ≡ true → (0 < length bytes) × (get_or bytes 0 0 < 128)
quote_front [] h = cc
quote_front (c ∷ more) h = (omega arith, first_narrow c h)

-- a quote stands behind this many bytes
pub quote_behind : (bytes : List ℕ) (n : ℕ) → begins 39 (drop n bytes) ≡ true → (n < length bytes) × (get_or bytes n 0 < 128)
quote_behind bytes n h =
    let front = quote_front (drop n bytes) h in
    let there : get_or (drop n bytes) 0 0 ≡ get_or bytes n 0 = grind (arith, common_steps) in
    (omega (arith, front.0, length-drop n bytes), omega (arith, front.1, there))
