-- Numbers are read as they are written.
use Rattle.std.proofs.Common.{◌≡◌, ℕ, suc, ◌<◌, ◌^◌, nat_eq, nat_le, ℤ, pos, negsuc, Bool, true, false, if◌then◌else◌, List, [], ◌∷◌, codes, Some, refl, ap, ◌∙◌, arith}
use Rattle.std.specs.List.{starts_with}
use Rattle.std.specs.Int.{w32, cast_signed}
use Rattle.std.specs.Char.{digit_value}
use Rattle.std.specs.Fmt.{decimal, signed_decimal}
use Rattle.std.specs.Option.{option_map, option_and_then}
use Rattle.std.specs.Str.Parse.{IsNumeral, digits_value}
use Rattle.std.specs.Int.RustNames.{FitsSigned}
use Rattle.std.proofs.lemmas.Fmt.{decimal_is_IsNumeral}
use Rattle.std.proofs.lemmas.Int.{ints}
use Rattle.std.proofs.lemmas.Bool.Decides.{nat_tests}
use Rattle.tpw_text.specs.Numbers.{natural_said, signed_said, negative}
use Rattle.tpw_text.proofs.Digits.{numeral_said}
use Rattle.tpw_text_laws.proofs.Tests.{and_false}

-- a digit of ten is none of # - x
is_no_sharp : (b : ℕ) → digit_value b < 10 → nat_eq 35 b ≡ false
is_no_sharp b h = grind (arith, nat_tests)

is_no_minus : (b : ℕ) → digit_value b < 10 → nat_eq 45 b ≡ false
is_no_minus b h = grind (arith, nat_tests)

is_no_x : (b : ℕ) → digit_value b < 10 → nat_eq 120 b ≡ false
is_no_x b h = grind (arith, nat_tests)

third : {A : Type 0} (p q : Bool) (x y z : A) → p ≡ false → q ≡ false → (if p then x else if q then y else z) ≡ z
third false false x y z e e' = refl
third true q x y z e e' = absurd (cc)
third false true x y z e e' = absurd (cc)

second : {A : Type 0} (p : Bool) (x y : A) → p ≡ false → (if p then x else y) ≡ y
second false x y e = refl
second true x y e = absurd (cc)

no_sharp : (ds : List ℕ) → IsNumeral 10 ds → starts_with nat_eq ds (codes "#") ≡ false
no_sharp [] numeral = refl
no_sharp (b ∷ ds) numeral = rw (is_no_sharp b numeral.1.0) refl

no_minus : (ds : List ℕ) → IsNumeral 10 ds → starts_with nat_eq ds (codes "-") ≡ false
no_minus [] numeral = refl
no_minus (b ∷ ds) numeral = rw (is_no_minus b numeral.1.0) refl

no_hexadecimal : (ds : List ℕ) → IsNumeral 10 ds → starts_with nat_eq ds (codes "0x") ≡ false
no_hexadecimal [] numeral = refl
no_hexadecimal (b ∷ []) numeral = and_false (nat_eq 48 b)
no_hexadecimal (b ∷ c ∷ ds) numeral = rw (is_no_x c numeral.1.1.0) (and_false (nat_eq 48 b))

-- digits in decimal are read as a natural number
read_digits : (ds : List ℕ) (n : ℕ) → IsNumeral 10 ds → digits_value 10 ds ≡ n → n < 2 ^ 32 → natural_said ds ≡ Some n
unfolding natural_said
read_digits ds n numeral value small =
    third _ _ _ _ _ (no_sharp ds numeral) (no_hexadecimal ds numeral) ∙ numeral_said 10 ds n numeral value small

pub natural_back : (n : ℕ) → n < 2 ^ 32 → natural_said (decimal n) ≡ Some n
natural_back n small =
    let is = decimal_is_IsNumeral n (omega arith) in
    read_digits (decimal n) n is.0 is.1 small

cast_back : (n : ℕ) → n < 2 ^ 31 → cast_signed w32 n ≡ pos n
cast_back n small = omega (arith, ints)

negative_back : (n : ℕ) → n < 2 ^ 31 → negative (suc n) ≡ Some (negsuc n)
negative_back n small =
    let fits : nat_le (suc n) (2 ^ 31) ≡ true = grind (arith, nat_tests) in
    rw fits refl

pub signed_back : (z : ℤ) → FitsSigned w32 z → signed_said (signed_decimal z) ≡ Some z
unfolding signed_said
signed_back (pos n) fits =
    let small : n < 2 ^ 31 = omega (arith, ints, fits) in
    let is = decimal_is_IsNumeral n (omega arith) in
    second _ _ _ (no_minus (decimal n) is.0) ∙ ap (option_map (cast_signed w32)) (natural_back n (omega arith)) ∙ ap Some (cast_back n small)
signed_back (negsuc n) fits =
    let small : n < 2 ^ 31 = omega (arith, ints, fits) in
    ap (option_and_then negative) (natural_back (suc n) (omega arith)) ∙ negative_back n small
