-- Fields that say numbers, one after another.
use Rattle.std.proofs.Common.{◌≡◌, ◌∙◌, ◌<◌, ◌+◌, ℕ, zero, suc, List, [], ◌∷◌, ◌++◌, length, map, drop, get_or, Option, Some, None, Result, Ok, Err, ℤ, ap, sym, refl, append_assoc, add-one, arith}
use Rattle.std.specs.Option.{option_map, option_and_then}
use Rattle.std.specs.Result.{IsOk, OnOk}
use Rattle.tpw_runs.specs.Packets.{words_said, word_bytes, value_said}

at_place : {F : Type 0} (text : F → List ℕ) (fields : List F) (i : ℕ) (d : F) → i < length fields
    → drop i (map text fields) ≡ text (get_or fields i d) ∷ drop (suc i) (map text fields)
at_place text [] i d h = absurd (omega (arith, h))
at_place text (f ∷ fields) zero d h = refl
at_place text (f ∷ fields) (suc i) d h = at_place text fields i d (omega (arith, h))

-- what is left from a field on
left : {F : Type 0} (text : F → List ℕ) (fields : List F) (i : ℕ) (d : F) → i < length fields
    → words_said (drop i (map text fields)) ≡ words_said (text (get_or fields i d) ∷ drop (i + 1) (map text fields))
left text fields i d h =
    ap words_said (at_place text fields i d h ∙ ap (λ n. text (get_or fields i d) ∷ drop n (map text fields)) (sym (add-one i)))

abbrev behind : List (List ℕ) → ℤ → Option (List ℕ)
behind fields number = option_map (λ bytes. word_bytes number ++ bytes) (words_said fields)

pub none_said : {F : Type 0} (text : F → List ℕ) (fields : List F) (i : ℕ) (d : F) (so_far : List ℕ) → i < length fields
    → words_said (map text fields) ≡ option_map (λ rest. so_far ++ rest) (words_said (drop i (map text fields)))
    → value_said (text (get_or fields i d)) ≡ None → None ≡ words_said (map text fields)
none_said text fields i d so_far h said none =
    sym (said ∙ ap (option_map (λ rest. so_far ++ rest)) (left text fields i d h ∙ ap (option_and_then (behind (drop (i + 1) (map text fields)))) none))

joined : (xs ys : List ℕ) (o : Option (List ℕ)) → option_map (λ r. xs ++ r) (option_map (λ r. ys ++ r) o) ≡ option_map (λ r. (xs ++ ys) ++ r) o
joined xs ys None = refl
joined xs ys (Some r) = ap Some (sym (append_assoc xs ys r))

pub one_more : {F : Type 0} (text : F → List ℕ) (fields : List F) (i : ℕ) (d : F) (so_far : List ℕ) (number : ℤ) → i < length fields
    → words_said (map text fields) ≡ option_map (λ rest. so_far ++ rest) (words_said (drop i (map text fields)))
    → value_said (text (get_or fields i d)) ≡ Some number
    → words_said (map text fields) ≡ option_map (λ rest. (so_far ++ word_bytes number) ++ rest) (words_said (drop (i + 1) (map text fields)))
one_more text fields i d so_far number h said some =
    said
    ∙ ap (option_map (λ rest. so_far ++ rest)) (left text fields i d h ∙ ap (option_and_then (behind (drop (i + 1) (map text fields)))) some)
    ∙ joined so_far (word_bytes number) (words_said (drop (i + 1) (map text fields)))

pub from_ok : {A E : Type 0} (r : Result A E) (P : Type 0) → IsOk r → OnOk r P → P
from_ok (Ok a) P is p = p
from_ok (Err e) P is p = cc

pub four : (number : ℤ) → length (word_bytes number) ≡ 4
four number = refl
