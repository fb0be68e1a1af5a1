-- Which digits spell bytes, and how many.
use Rattle.std.proofs.Common.{◌≡◌, ℕ, zero, suc, nat_eq, nat_lt, ◌<◌, ◌*◌, ◌/◌, ◌%◌, true, false, List, [], ◌∷◌, length}
use Rattle.std.proofs.Common.{unwrap_or, is_some, Option, Some, None, Result, Ok, Err, refl, ap, sym, ◌∙◌, arith}
use Rattle.std.specs.Prelude.{IsTrue}
use Rattle.std.proofs.lemmas.Bool.Decides.{nat_tests}
use Rattle.std.specs.List.{list_all}
use Rattle.std.proofs.lemmas.List.Sums.{AllPass-from_list_all, list_all-from_AllPass}
use Rattle.hex.specs.Hex.{IsBytes, decode_of, decode_sized, is_hex_digit}
use Rattle.hex.specs.declared.error.FromHexError.{FromHexError}
use Rattle.hex.proofs.HexLemmas.{decode_of-ok, decode_of-odd, decode_of-digits, decode_sized-twice}
use Rattle.tp_requests.specs.Fields.{bytes_if_ok, hex_bytes}

-- ---- digits that spell nothing

pub none_of_empty : (digits : List ℕ) → true ≡ nat_eq (length digits) 0 → None ≡ hex_bytes digits
none_of_empty [] e = refl
none_of_empty (digit ∷ digits) e = absurd (grind (arith, nat_tests, e))

pub none_of_odd : (digits : List ℕ) → length digits % 2 ≡ 1 → None ≡ hex_bytes digits
none_of_odd [] odd = absurd (omega (arith, odd))
none_of_odd (digit ∷ digits) odd = sym (ap bytes_if_ok (decode_of-odd (digit ∷ digits) odd))

pub none_of_other : (digits : List ℕ) → list_all is_hex_digit digits ≡ false → None ≡ hex_bytes digits
none_of_other [] other = refl
none_of_other (digit ∷ digits) other = by_result (decode_of (digit ∷ digits)) refl
  where
    by_result : (r : Result (List ℕ) FromHexError) → decode_of (digit ∷ digits) ≡ r → None ≡ bytes_if_ok r
    by_result (Ok bytes) is = cc (sym other ∙ list_all-from_AllPass is_hex_digit (digit ∷ digits) (decode_of-ok (digit ∷ digits) bytes is).1)
    by_result (Err e) is = refl

-- ---- digits that spell bytes

pub some_of_digits : (digits : List ℕ) → false ≡ nat_eq (length digits) 0 → ¬ (length digits % 2 ≡ 1) → list_all is_hex_digit digits ≡ true → IsTrue (is_some (hex_bytes digits))
some_of_digits [] some even all = cc
some_of_digits (digit ∷ digits) some even all =
    let r = decode_of-digits (digit ∷ digits) (omega (arith, even)) (AllPass-from_list_all is_hex_digit (digit ∷ digits) all) in
    ap (λ o. is_some (bytes_if_ok o)) r.1

-- what is there is known by its value
pub some_value : (o : Option (List ℕ)) → IsTrue (is_some o) → Some (unwrap_or o []) ≡ o
some_value None there = cc
some_value (Some bytes) there = refl

-- what digits that spell bytes decode to: half as many bytes
pub decoded : (digits : List ℕ) → IsTrue (is_some (hex_bytes digits)) → (decode_of digits ≡ Ok (unwrap_or (hex_bytes digits) [])) × (length digits ≡ 2 * length (unwrap_or (hex_bytes digits) []))
decoded [] spells = cc
decoded (digit ∷ digits) spells = by_result (decode_of (digit ∷ digits)) refl spells
  where
    by_result : (r : Result (List ℕ) FromHexError) → decode_of (digit ∷ digits) ≡ r → IsTrue (is_some (bytes_if_ok r))
        → (decode_of (digit ∷ digits) ≡ Ok (unwrap_or (bytes_if_ok r) [])) × (suc (length digits) ≡ 2 * length (unwrap_or (bytes_if_ok r) []))
    by_result (Ok bytes) is spells = (is, (decode_of-ok (digit ∷ digits) bytes is).2)
    by_result (Err e) is spells = cc

pub count_of : (digits : List ℕ) → IsTrue (is_some (hex_bytes digits)) → length digits / 2 ≡ length (unwrap_or (hex_bytes digits) [])
count_of digits spells =
    let twice = (decoded digits spells).1 in
    omega (arith, twice)

pub decoded_whole : (digits : List ℕ) (n : ℕ) → IsTrue (is_some (hex_bytes digits)) → n ≡ length (unwrap_or (hex_bytes digits) []) → decode_sized digits n ≡ Ok (unwrap_or (hex_bytes digits) [])
decoded_whole digits n spells count =
    let all = decoded digits spells in
    decode_sized-twice digits n (all.1 ∙ ap (λ m. 2 * m) (sym count)) ∙ all.0

-- ---- what is spelled are bytes

all_below : (bytes : List ℕ) → IsBytes bytes → list_all (λ b. nat_lt b 256) bytes ≡ true
all_below [] fits = refl
all_below (b ∷ bytes) fits =
    let first : b < 256 = fits zero in
    let test : nat_lt b 256 ≡ true = grind (arith, nat_tests, first) in
    rw test (all_below bytes (λ i. fits (suc i)))

pub spelled_are_bytes : (digits : List ℕ) → list_all (λ b. nat_lt b 256) (unwrap_or (hex_bytes digits) []) ≡ true
spelled_are_bytes [] = refl
spelled_are_bytes (digit ∷ digits) = by_result (decode_of (digit ∷ digits)) refl
  where
    by_result : (r : Result (List ℕ) FromHexError) → decode_of (digit ∷ digits) ≡ r → list_all (λ b. nat_lt b 256) (unwrap_or (bytes_if_ok r) []) ≡ true
    by_result (Ok bytes) is = all_below bytes (decode_of-ok (digit ∷ digits) bytes is).3
    by_result (Err e) is = refl
