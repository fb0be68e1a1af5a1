-- The bytes of what is written.
use Rattle.std.proofs.Common.{◌≡◌, ℕ, zero, suc, ◌<◌, ◌≤◌, ◌/◌, ◌%◌, ◌==◌, ◌&&◌, not, Bool, true, false, if◌then◌else◌, ℤ, pos, negsuc, List, [], ◌∷◌, ◌++◌, length, refl, ap, arith}
use Rattle.std.specs.List.{list_all}
use Rattle.std.specs.Fmt.{decimal, signed_decimal, digits, digits_onto, digit_glyph}
use Rattle.std.proofs.lemmas.Bool.Decides.{nat_tests}
use Rattle.tp_decode.specs.declared.instr.Instr.{Instr}
use Rattle.tp_decode.specs.declared.instr.Instr.TheVariants.{Jump}
use Rattle.tp_decode.specs.Table.{entry}
use Rattle.tpw_text.specs.Words.{is_plain, begins, before_comment}
use Rattle.tpw_text.proofs.Tokens.{both_true}
use Rattle.tpw_text_laws.proofs.Tests.{not_true}

-- a byte of a word that begins no comment
abbrev pub is_inner : ℕ → Bool
is_inner b = is_plain b && (not (b == 59) && not (b == 45))

abbrev pub is_minus : ℕ → Bool
is_minus b = b == 45

pub glyph_is_inner : (d : ℕ) → d < 16 → is_inner (digit_glyph false d) ≡ true
unfolding is_plain
glyph_is_inner d h = grind (arith, nat_tests)

either : {A : Type 0} (P : A → Type 0) (t : Bool) (x y : A) → P x → P y → P (if t then x else y)
either P true x y p q = p
either P false x y p q = q

onto_inner : (k base n : ℕ) (acc : List ℕ) → 0 < base → base ≤ 16 → list_all is_inner acc ≡ true → list_all is_inner (digits_onto k base false n acc) ≡ true
onto_inner zero base n acc some few all = all
onto_inner (suc k) base n acc some few all =
    let more : list_all is_inner (digit_glyph false (n % base) ∷ acc) ≡ true = rw (glyph_is_inner (n % base) (omega arith)) all in
    either (λ ds. list_all is_inner ds ≡ true) (n / base == 0) (digit_glyph false (n % base) ∷ acc) (digits_onto k base false (n / base) (digit_glyph false (n % base) ∷ acc))
    more (onto_inner k base (n / base) (digit_glyph false (n % base) ∷ acc) some few more)

onto_some : (k base n : ℕ) (acc : List ℕ) → 0 < length acc → 0 < length (digits_onto k base false n acc)
onto_some zero base n acc some = some
onto_some (suc k) base n acc some =
    either (λ ds. 0 < length ds) (n / base == 0) (digit_glyph false (n % base) ∷ acc) (digits_onto k base false (n / base) (digit_glyph false (n % base) ∷ acc))
    (omega arith) (onto_some k base (n / base) (digit_glyph false (n % base) ∷ acc) (omega arith))

onto_more : (k base n : ℕ) → 0 < length (digits_onto (suc k) base false n [])
onto_more k base n =
    either (λ ds. 0 < length ds) (n / base == 0) (digit_glyph false (n % base) ∷ []) (digits_onto k base false (n / base) (digit_glyph false (n % base) ∷ []))
    (omega arith) (onto_some k base (n / base) (digit_glyph false (n % base) ∷ []) (omega arith))

pub digits_inner : (base n : ℕ) → 0 < base → base ≤ 16 → list_all is_inner (digits base false n) ≡ true
unfolding digits
digits_inner base n some few = onto_inner 64 base n [] some few refl

pub digits_some : (base n : ℕ) → 0 < length (digits base false n)
unfolding digits
digits_some base n = onto_more 63 base n

-- a word of plain bytes in which no comment begins
pub record IsWord (w : List ℕ) : Type 0 where
  pub plain : list_all is_plain w ≡ true
  pub some : 0 < length w
  pub safe : (rest : List ℕ) → begins is_minus rest ≡ false → before_comment (w ++ rest) ≡ w ++ before_comment rest

inner_plain : (w : List ℕ) → list_all is_inner w ≡ true → list_all is_plain w ≡ true
inner_plain [] all = refl
inner_plain (b ∷ w) all =
    let both = both_true (is_inner b) (list_all is_inner w) all in
    let here = both_true (is_plain b) (not (b == 59) && not (b == 45)) both.0 in
    rw (here.0, inner_plain w both.1) refl

inner_safe : (w rest : List ℕ) → list_all is_inner w ≡ true → before_comment (w ++ rest) ≡ w ++ before_comment rest
unfolding before_comment
inner_safe [] rest all = refl
inner_safe (b ∷ w) rest all =
    let both = both_true (is_inner b) (list_all is_inner w) all in
    let here = both_true (is_plain b) (not (b == 59) && not (b == 45)) both.0 in
    let marks = both_true (not (b == 59)) (not (b == 45)) here.1 in
    rw (not_true (b == 59) marks.0, not_true (b == 45) marks.1) (ap (λ bs. b ∷ bs) (inner_safe w rest both.1))

no_minus : (w rest : List ℕ) → list_all is_inner w ≡ true → begins is_minus rest ≡ false → begins is_minus (w ++ rest) ≡ false
no_minus [] rest all none = none
no_minus (b ∷ w) rest all none =
    let both = both_true (is_inner b) (list_all is_inner w) all in
    let here = both_true (is_plain b) (not (b == 59) && not (b == 45)) both.0 in
    not_true (b == 45) (both_true (not (b == 59)) (not (b == 45)) here.1).1

pub inner_word : (w : List ℕ) → list_all is_inner w ≡ true → 0 < length w → IsWord w
inner_word w all some = record { plain = inner_plain w all; some = some; safe = λ rest none. inner_safe w rest all }

after_minus : (w rest : List ℕ) → list_all is_inner w ≡ true → begins is_minus rest ≡ false → before_comment (45 ∷ (w ++ rest)) ≡ 45 ∷ (w ++ before_comment rest)
unfolding before_comment
after_minus w rest all none = rw (no_minus w rest all none) (ap (λ bs. 45 ∷ bs) (inner_safe w rest all))

minus_plain : (w : List ℕ) → list_all is_plain w ≡ true → list_all is_plain (45 ∷ w) ≡ true
unfolding is_plain
minus_plain w all = all

pub minus_word : (w : List ℕ) → list_all is_inner w ≡ true → IsWord (45 ∷ w)
minus_word w all = record {
  plain = minus_plain w (inner_plain w all);
  some = omega arith;
  safe = λ rest none. after_minus w rest all none;
}

-- numbers
pub decimal_word : (n : ℕ) → IsWord (decimal n)
decimal_word n = inner_word (decimal n) (digits_inner 10 n (omega arith) (omega arith)) (digits_some 10 n)

pub signed_word : (z : ℤ) → IsWord (signed_decimal z)
signed_word (pos n) = decimal_word n
signed_word (negsuc n) = minus_word (decimal (suc n)) (digits_inner 10 (suc n) (omega arith) (omega arith))

-- behind # or L
behind_inner : (b : ℕ) (w : List ℕ) → is_inner b ≡ true → list_all is_inner w ≡ true → IsWord (b ∷ w)
behind_inner b w here all = inner_word (b ∷ w) (rw here all) (omega arith)

pub label_word : (n : ℕ) → IsWord (76 ∷ decimal n)
unfolding is_plain
label_word n = behind_inner 76 (decimal n) refl (digits_inner 10 n (omega arith) (omega arith))

pub hexadecimal_word : (w : List ℕ) → list_all is_inner w ≡ true → IsWord (35 ∷ w)
unfolding is_plain
hexadecimal_word w all = behind_inner 35 w refl all

-- a word as it stands
abbrev pub is_literal : List ℕ → Bool
is_literal [] = false
is_literal (b ∷ w) = list_all is_inner (b ∷ w)

pub literal_word : (w : List ℕ) → is_literal w ≡ true → IsWord w
literal_word [] e = cc
literal_word (b ∷ w) e = inner_word (b ∷ w) e (omega arith)

pub name_word : (i : Instr) → IsWord (entry i).name
unfolding is_plain
name_word i = literal_word (entry i).name (by i)
  where
    by : (i : Instr) → is_literal (entry i).name ≡ true
    by (Jump n) = refl
    by i = refl
