-- The numbers of a statement are read as they are written.
use Rattle.std.proofs.Common.{◌≡◌, ℕ, ◌+◌, ◌*◌, ◌<◌, ◌≤◌, ◌/◌, ◌%◌, ◌^◌, nat_le, true, false, ℤ, pos, negsuc, List, [], ◌∷◌, Some, Ok, refl, ap, sym, ◌∙◌, subst, arith}
use Rattle.std.specs.List.{list_all}
use Rattle.std.specs.Int.{w32, cast_signed, cast_unsigned}
use Rattle.std.specs.Int.RustNames.{FitsSigned}
use Rattle.std.specs.Char.{digit_value, is_ascii_digit}
use Rattle.std.specs.Option.{option_map, ok_or}
use Rattle.std.specs.Fmt.{decimal, signed_decimal, digits, digit_glyph}
use Rattle.std.specs.Str.Parse.{IsNumeral, digits_value}
use Rattle.std.proofs.lemmas.Fmt.{decimal_is_IsNumeral, digits_is_IsNumeral, hex_byte}
use Rattle.std.proofs.lemmas.Int.{ints, of_z-to_z}
use Rattle.std.proofs.lemmas.Int.Digits.{digits_value_push}
use Rattle.std.proofs.lemmas.Bool.Decides.{nat_tests}
use Rattle.tpw_text.specs.declared.words.Word.{Word}
use Rattle.tpw_text.specs.declared.fault.TextFault.TheVariants.{NoNumber}
use Rattle.tpw_text.specs.Faults.{fault_at, then_read}
use Rattle.tpw_text.specs.Numbers.{natural_said, signed_said, begins_number}
use Rattle.tpw_text.specs.Statements.{number_read, count_read, within}
use Rattle.tpw_text.specs.Written.{byte_text}
use Rattle.tpw_text.proofs.Digits.{numeral_said}
use Rattle.tpw_text_laws.proofs.ReadNumbers.{signed_back}
use Rattle.tpw_text_laws.proofs.Bytes.{is_inner, glyph_is_inner}

-- a word that writes a number
pub number_is : (w : Word) (z : ℤ) → signed_said w.text.now ≡ Some z → number_read w ≡ Ok z
unfolding number_read
number_is w z is = ap (λ o. ok_or o (fault_at w NoNumber)) is

pub signed_is : (w : Word) (z : ℤ) → w.text.now ≡ signed_decimal z → FitsSigned w32 z → number_read w ≡ Ok z
signed_is w z is fits = number_is w z (ap signed_said is ∙ signed_back z fits)

unsigned_is : (n : ℕ) → n < 2 ^ 32 → cast_unsigned w32 (pos n) ≡ n
unsigned_is n small = omega (arith, ints)

is_within : (w : Word) (most n : ℕ) → n ≤ most → within w most n ≡ Ok n
is_within w most n few =
    let le : nat_le n most ≡ true = grind (arith, nat_tests) in
    rw le refl

count_of : (w : Word) (most n : ℕ) (z : ℤ) → signed_said w.text.now ≡ Some z → cast_unsigned w32 z ≡ n → n ≤ most → count_read most w ≡ Ok n
unfolding count_read
count_of w most n z is cast few =
    ap (λ r. then_read r (λ m. within w most (cast_unsigned w32 m))) (number_is w z is) ∙ ap (within w most) cast ∙ is_within w most n few

pub count_is : (w : Word) (most n : ℕ) → w.text.now ≡ decimal n → n ≤ most → n < 2 ^ 31 → count_read most w ≡ Ok n
count_is w most n is few small =
    let fits : FitsSigned w32 (pos n) = omega (arith, ints) in
    count_of w most n (pos n) (ap signed_said is ∙ signed_back (pos n) fits) (unsigned_is n (omega arith)) few

-- a number begins as one
numeral_begins : (ds : List ℕ) → IsNumeral 10 ds → begins_number ds ≡ true
numeral_begins [] numeral = absurd (omega (arith, numeral.0))
numeral_begins (b ∷ ds) numeral =
    let here : is_ascii_digit b ≡ true = grind (numeral.1.0, arith, nat_tests) in
    rw here refl

pub begins_decimal : (n : ℕ) → n < 2 ^ 32 → begins_number (decimal n) ≡ true
begins_decimal n small = numeral_begins (decimal n) (decimal_is_IsNumeral n (omega arith)).0

pub begins_signed : (z : ℤ) → FitsSigned w32 z → begins_number (signed_decimal z) ≡ true
begins_signed (pos n) fits = begins_decimal n (omega (arith, ints, fits))
begins_signed (negsuc n) fits = refl

-- hexadecimal digits
hexadecimal : (ds : List ℕ) (n : ℕ) → IsNumeral 16 ds → digits_value 16 ds ≡ n → n < 2 ^ 32 → signed_said (35 ∷ ds) ≡ Some (cast_signed w32 n)
unfolding signed_said natural_said
hexadecimal ds n numeral value small = ap (option_map (cast_signed w32)) (numeral_said 16 ds n numeral value small)

pub hexadecimal_is : (w : Word) (n : ℕ) → w.text.now ≡ 35 ∷ digits 16 false n → n < 2 ^ 32 → number_read w ≡ Ok (cast_signed w32 n)
hexadecimal_is w n is small =
    let numeral = digits_is_IsNumeral 16 false (omega arith) (omega arith) n (omega arith) in
    number_is w (cast_signed w32 n) (ap signed_said is ∙ hexadecimal (digits 16 false n) n numeral.0 numeral.1 small)

glyph_value : (d : ℕ) → d < 16 → digit_value (digit_glyph false d) ≡ d
glyph_value d h = grind (arith, nat_tests)

glyphs : ℕ → List ℕ
glyphs n = digit_glyph false (n / 16) ∷ digit_glyph false (n % 16) ∷ []

glyphs_value : (a b : ℕ) → digits_value 16 (a ∷ b ∷ []) ≡ digit_value a * 16 + digit_value b
glyphs_value a b =
    let one : digits_value 16 (a ∷ []) ≡ digit_value a = digits_value_push 16 [] a ∙ omega arith in
    digits_value_push 16 (a ∷ []) b ∙ ap (λ n. n * 16 + digit_value b) one

glyphs_numeral : (n : ℕ) → n < 256 → IsNumeral 16 (glyphs n) × (digits_value 16 (glyphs n) ≡ n)
unfolding glyphs
glyphs_numeral n h =
    let high : digit_value (digit_glyph false (n / 16)) ≡ n / 16 = glyph_value (n / 16) (omega arith) in
    let low : digit_value (digit_glyph false (n % 16)) ≡ n % 16 = glyph_value (n % 16) (omega arith) in
    let few : digit_value (digit_glyph false (n / 16)) < 16 = omega arith in
    let few' : digit_value (digit_glyph false (n % 16)) < 16 = omega arith in
    ((omega arith, (few, (few', tt))), glyphs_value (digit_glyph false (n / 16)) (digit_glyph false (n % 16)) ∙ omega arith)

byte_glyphs : (n : ℕ) → n < 256 → byte_text n ≡ glyphs n
unfolding glyphs
byte_glyphs n h = hex_byte false n h

byte_numeral : (n : ℕ) → n < 256 → IsNumeral 16 (byte_text n) × (digits_value 16 (byte_text n) ≡ n)
byte_numeral n h = subst (λ (ds : List ℕ). IsNumeral 16 ds × (digits_value 16 ds ≡ n)) (sym (byte_glyphs n h)) (glyphs_numeral n h)

pub byte_is : (w : Word) (n : ℕ) → w.text.now ≡ 35 ∷ byte_text n → n < 256 → count_read 255 w ≡ Ok n
byte_is w n is small =
    let numeral = byte_numeral n small in
    count_of w 255 n (cast_signed w32 n) (ap signed_said is ∙ hexadecimal (byte_text n) n numeral.0 numeral.1 (omega arith)) (of_z-to_z w32 n (omega arith)) (omega arith)

glyphs_inner : (n : ℕ) → n < 256 → list_all is_inner (glyphs n) ≡ true
unfolding glyphs
glyphs_inner n h = rw (glyph_is_inner (n / 16) (omega arith), glyph_is_inner (n % 16) (omega arith)) refl

pub byte_inner : (n : ℕ) → n < 256 → list_all is_inner (byte_text n) ≡ true
byte_inner n h = ap (list_all is_inner) (byte_glyphs n h) ∙ glyphs_inner n h
