-- What digits write.
use Rattle.std.proofs.Common.{◌≡◌, ℕ, ◌<◌, ◌≤◌, ◌^◌, ◌&&◌, nat_eq, nat_lt, Bool, true, false, if◌then◌else◌, List, []}
use Rattle.std.proofs.Common.{◌∷◌, length, Some, None, Result, Ok, Err, IsUtf8, IsAscii, refl, ap, zero, suc, arith}
use Rattle.std.specs.List.{list_all, starts_with}
use Rattle.std.specs.Char.{digit_value, is_digit}
use Rattle.std.specs.Result.{result_ok, OkIff}
use Rattle.std.specs.Str.Parse.{AllDigits, IsNumeral, digits_value, without_leading_plus, ParsesUnsigned}
use Rattle.std.proofs.lemmas.Bool.Decides.{nat_tests}
use Rattle.std.proofs.lemmas.Str.{IsUtf8-from_ascii}
use Rattle.tpw_text.specs.Numbers.{are_digits, digits_said}
use Rattle.tpw_text.proofs.Tokens.{both_true}

-- digits, as a test and as a list of facts
to_digits : (radix : ℕ) (ds : List ℕ) → list_all (λ b. is_digit b radix) ds ≡ true → AllDigits radix ds
to_digits radix [] all = tt
to_digits radix (b ∷ ds) all =
    let both = both_true (is_digit b radix) (list_all (λ d. is_digit d radix) ds) all in
    let here : digit_value b < radix = grind (both.0, arith, nat_tests) in
    (here, to_digits radix ds both.1)

from_digits : (radix : ℕ) (ds : List ℕ) → AllDigits radix ds → list_all (λ b. is_digit b radix) ds ≡ true
from_digits radix [] all = refl
from_digits radix (b ∷ ds) all =
    let here : is_digit b radix ≡ true = grind (all.0, arith, nat_tests) in
    rw (here, from_digits radix ds all.1) refl

-- a digit of a radix up to 16 is ASCII
is_small : (radix b : ℕ) → radix ≤ 16 → digit_value b < radix → b < 128
is_small radix b few h = grind (arith, nat_tests)

are_ascii : (radix : ℕ) (ds : List ℕ) → radix ≤ 16 → AllDigits radix ds → IsAscii ds
are_ascii radix [] few all i = omega arith
are_ascii radix (b ∷ ds) few all zero = is_small radix b few all.0
are_ascii radix (b ∷ ds) few all (suc i) = are_ascii radix ds few all.1 i

-- where a word is no UTF-8 text, it has no digits alone
pub no_text : (radix : ℕ) (ds : List ℕ) → radix ≤ 16 → (IsUtf8 ds → ⊥) → None ≡ digits_said radix ds
unfolding digits_said
no_text radix ds few not = by (list_all (λ b. is_digit b radix) ds) refl
  where
    by : (t : Bool) → list_all (λ b. is_digit b radix) ds ≡ t → None ≡ (if nat_lt 0 (length ds) && t && nat_lt (digits_value radix ds) (2 ^ 32) then Some (digits_value radix ds) else None)
    by true all = absurd (not (IsUtf8-from_ascii ds (are_ascii radix ds few (to_digits radix ds all))))
    by false all = grind (arith, nat_tests)

-- nothing is dropped where no plus stands first
no_plus : (ds : List ℕ) → starts_with nat_eq ds (43 ∷ []) ≡ false → without_leading_plus ds ≡ ds
no_plus [] h = refl
no_plus (b ∷ ds) h = grind (h, arith, nat_tests)

-- what is read of digits, as a number
read_said : {E : Type 0} (radix : ℕ) (ds : List ℕ) (r : Result ℕ E) → OkIff r (IsNumeral radix ds × (digits_value radix ds < 2 ^ 32)) (digits_value radix ds)
    → result_ok r ≡ digits_said radix ds
unfolding digits_said
read_said radix ds (Ok n) h =
    let some : nat_lt 0 (length ds) ≡ true = grind (h.0.0.0, arith, nat_tests) in
    let small : nat_lt (digits_value radix ds) (2 ^ 32) ≡ true = grind (h.0.1, arith, nat_tests) in
    rw (some, from_digits radix ds h.0.0.1, small, h.1) refl
read_said radix ds (Err e) h = by (are_digits radix ds && nat_lt (digits_value radix ds) (2 ^ 32)) refl
  where
    by : (t : Bool) → (are_digits radix ds && nat_lt (digits_value radix ds) (2 ^ 32)) ≡ t → None ≡ (if t then Some (digits_value radix ds) else None)
    by false e = refl
    by true e =
        let outer = both_true (are_digits radix ds) (nat_lt (digits_value radix ds) (2 ^ 32)) e in
        let inner = both_true (nat_lt 0 (length ds)) (list_all (λ b. is_digit b radix) ds) outer.0 in
        let some : 0 < length ds = grind (inner.0, arith, nat_tests) in
        let small : digits_value radix ds < 2 ^ 32 = grind (outer.1, arith, nat_tests) in
        absurd (h ((some, to_digits radix ds inner.1), small))

pub text_said : {E : Type 0} (radix : ℕ) (ds text : List ℕ) (r : Result ℕ E) → text ≡ ds → starts_with nat_eq ds (43 ∷ []) ≡ false → ParsesUnsigned 32 radix text r
    → result_ok r ≡ digits_said radix ds
text_said radix ds text r same plus parsed = read_said radix ds r (rw (same, no_plus ds plus) at parsed)

-- what a numeral says
pub numeral_said : (radix : ℕ) (ds : List ℕ) (n : ℕ) → IsNumeral radix ds → digits_value radix ds ≡ n → n < 2 ^ 32 → digits_said radix ds ≡ Some n
unfolding digits_said
numeral_said radix ds n numeral value small =
    let some : nat_lt 0 (length ds) ≡ true = grind (numeral.0, arith, nat_tests) in
    let fits : nat_lt (digits_value radix ds) (2 ^ 32) ≡ true = grind (value, small, arith, nat_tests) in
    rw (some, from_digits radix ds numeral.1, fits) (ap Some value)
