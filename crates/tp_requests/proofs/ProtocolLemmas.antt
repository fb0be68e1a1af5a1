-- What the protocol's names and digits are spelled with.
use Rattle.std.proofs.Common.{◌≡◌, ℕ, suc, ◌<◌, nat_eq, nat_le, true, false, ◌&&◌, All, List, [], ◌∷◌, length, Some, Result, Ok, Err, inl, inr, refl, ap, sym, ◌∙◌, subst, arith}
use Rattle.std.specs.List.{list_all, list_any, Contains}
use Rattle.std.proofs.lemmas.Bool.{and_parts, and_from, or_cases, le-leb, leb-true, eqb-true, agree_below_at}
use Rattle.std.proofs.lemmas.Bool.Decides.{nat_tests}
use Rattle.std.proofs.lemmas.List.Elements.{All-contains, All-weaker, All-head, All-rest}
use Rattle.std.proofs.lemmas.List.Sums.{AllPass-from_list_all, list_all-from_AllPass}
use Rattle.std.proofs.lemmas.Option.{same_Some}
use Rattle.hex.specs.Hex.{decode_of, encode_lower, lower_digits}
use Rattle.hex.specs.declared.error.FromHexError.{FromHexError}
use Rattle.hex.proofs.HexLemmas.{decode_of-ok, decode_of-encode_lower, length-encode_with}
use Rattle.tp_requests.specs.Fields.{bytes_if_ok, hex_bytes}
use Rattle.tp_requests.specs.Parts.{IsWithout}
use Rattle.tp_requests.specs.Reading.{space, is_name_byte, is_name}
use Rattle.tp_requests.specs.Protocol.{name_characters, IsName, AreDigitsFor, MayBeSpelled}

-- ---- the characters of a name are the bytes that pass the test

passes : (b : ℕ) → Contains name_characters b → is_name_byte b ≡ true
passes b among =
    All-contains (λ c. is_name_byte c ≡ true) name_characters b (AllPass-from_list_all is_name_byte name_characters refl) among

found : (characters : List ℕ) (b : ℕ) → list_any (λ c. nat_eq c b) characters ≡ true → Contains characters b
found [] b is = cc
found (c ∷ characters) b is =
    elim (or_cases (nat_eq c b) (list_any (λ c. nat_eq c b) characters) is) [
      | inl here ↦ (0, omega arith, eqb-true c b here)
      | inr behind ↦
          let rest = found characters b behind in
          (suc rest.0, omega (arith, rest.1), rest.2)
    ]

name_byte_below : (b : ℕ) → is_name_byte b ≡ true → b < 123
name_byte_below b is = grind (arith, nat_tests)

among_characters : (b : ℕ) → is_name_byte b ≡ true → Contains name_characters b
among_characters b is =
    let below = name_byte_below b is in
    found name_characters b (sym (agree_below_at is_name_byte (λ b. list_any (λ c. nat_eq c b) name_characters) 123 b refl below) ∙ is)

pub name_passes : (name : List ℕ) → IsName name → is_name name ≡ true
name_passes name is =
    let lengths = and_from (nat_le 1 (length name)) (nat_le (length name) 16) (le-leb 1 (length name) is.some) (le-leb (length name) 16 is.most) in
    let bytes = All-weaker (λ b. Contains name_characters b) (λ b. is_name_byte b ≡ true) passes name is.characters in
    and_from (nat_le 1 (length name) && nat_le (length name) 16) (list_all is_name_byte name) lengths (list_all-from_AllPass is_name_byte name bytes)

pub passed_is_name : (name : List ℕ) → is_name name ≡ true → IsName name
passed_is_name name is =
    let parts = and_parts (nat_le 1 (length name) && nat_le (length name) 16) (list_all is_name_byte name) is in
    let lengths = and_parts (nat_le 1 (length name)) (nat_le (length name) 16) parts.0 in
    record {
      some = leb-true 1 (length name) lengths.0;
      most = leb-true (length name) 16 lengths.1;
      characters = All-weaker (λ b. is_name_byte b ≡ true) (λ b. Contains name_characters b) among_characters name (AllPass-from_list_all is_name_byte name parts.1);
    }

-- ---- digits

pub digits_read : (digits bytes : List ℕ) → AreDigitsFor digits bytes → hex_bytes digits ≡ Some bytes
digits_read [] bytes are = absurd (omega (arith, are.some))
digits_read (digit ∷ digits) bytes are = ap bytes_if_ok are.spell

pub read_are_digits : (digits bytes : List ℕ) → hex_bytes digits ≡ Some bytes → AreDigitsFor digits bytes
read_are_digits [] bytes read = cc
read_are_digits (digit ∷ digits) bytes read = by_result (decode_of (digit ∷ digits)) refl read
  where
    by_result : (r : Result (List ℕ) FromHexError) → decode_of (digit ∷ digits) ≡ r → bytes_if_ok r ≡ Some bytes → AreDigitsFor (digit ∷ digits) bytes
    by_result (Ok decoded) is read =
        let same : decoded ≡ bytes = same_Some decoded bytes read in
        let even = (decode_of-ok (digit ∷ digits) decoded is).0 in
        record {
          some = omega (arith, even);
          spell = subst (λ (xs : List ℕ). decode_of (digit ∷ digits) ≡ Ok xs) same is;
        }
    by_result (Err e) is read = cc

pub lower_are_digits : (bytes : List ℕ) → MayBeSpelled bytes → AreDigitsFor (encode_lower bytes) bytes
lower_are_digits bytes may =
    let twice = length-encode_with lower_digits bytes in
    record {
      some = omega (arith, twice, may.some);
      spell = decode_of-encode_lower bytes may.small;
    }

pub spelled_by_digits : (digits bytes : List ℕ) → AreDigitsFor digits bytes → MayBeSpelled bytes
spelled_by_digits digits bytes are =
    let ok = decode_of-ok digits bytes are.spell in
    record {
      some = omega (arith, are.some, ok.2);
      small = ok.3;
    }

-- ---- a name has no space

no_space : (b : ℕ) → is_name_byte b ≡ true → nat_eq b space ≡ false
no_space b is = grind (arith, nat_tests)

pub name_without_space : (name : List ℕ) → IsName name → IsWithout space name
name_without_space name is = without name (All-weaker (λ b. Contains name_characters b) (λ b. nat_eq b space ≡ false) apart name is.characters)
  where
    apart : (b : ℕ) → Contains name_characters b → nat_eq b space ≡ false
    apart b among = no_space b (passes b among)

    without : (name : List ℕ) → All (λ b. nat_eq b space ≡ false) name → IsWithout space name
    without [] all = tt
    without (b ∷ name) all = (All-head (λ b. nat_eq b space ≡ false) b name all, without name (All-rest (λ b. nat_eq b space ≡ false) b name (b ∷ name) refl all))
