-- Texts between quotes.
use Rattle.std.proofs.Common.{◌≡◌, ◌∙◌, ℕ, ◌+◌, ◌*◌, ◌==◌, nat_lt, Bool, true, false, if◌then◌else◌, Option, Some, None, List, [], ◌∷◌, drop, sym, ap}
use Rattle.tpw_occam_terms.specs.Spelling as tree
use Rattle.tpw_occam_terms.specs.Spelling.{digit, letter, front, escaped, hexadecimal, two_digits}
use Rattle.tpw_occam_meaning.specs.Literals.{Plain, Star, Hash, High, in_front, spelled_behind, text}
use Rattle.tpw_occam_meaning.specs.Maybe.{and_then, where_true}

pair_same : (p q : ℕ × List ℕ) → ◌≡◌ {A = Option (ℕ × List ℕ)} (Some p) (Some q) → p ≡ q
pair_same p q h = cc

same_front : (c byte : ℕ) (more behind : List ℕ) → ◌≡◌ {A = Option (ℕ × List ℕ)} (Some (c, more)) (Some (byte, behind))
    → in_front c (spelled_behind Plain more) ≡ in_front byte (spelled_behind Plain behind)
same_front c byte more behind h =
    let p : ◌≡◌ {A = ℕ × List ℕ} (c, more) (byte, behind) = pair_same (c, more) (byte, behind) h in
    λ i. in_front (p i).0 (spelled_behind Plain (p i).1)

module _ (byte : ℕ) (behind : List ℕ) where
  by_low : (high : ℕ) (low : Option ℕ) (more : List ℕ) → two_digits (Some high) low more ≡ Some (byte, behind)
      → and_then low (λ low. in_front (16 * high + low) (spelled_behind Plain more)) ≡ in_front byte (spelled_behind Plain behind)
  by_low high None more h = cc
  by_low high (Some low) more h = same_front (16 * high + low) byte more behind h

  by_high : (high : Option ℕ) (low : ℕ) (more : List ℕ) → two_digits high (digit low) more ≡ Some (byte, behind)
      → and_then high (λ high. spelled_behind (High high) (low ∷ more)) ≡ in_front byte (spelled_behind Plain behind)
  by_high None low more h = no_digits (digit low) h
    where
      no_digits : (low : Option ℕ) → two_digits None low more ≡ Some (byte, behind) → None ≡ in_front byte (spelled_behind Plain behind)
      no_digits None h = cc
      no_digits (Some n) h = cc
  by_high (Some high) low more h = by_low high (digit low) more h

  hash : (l : List ℕ) → hexadecimal l ≡ Some (byte, behind) → spelled_behind Hash l ≡ in_front byte (spelled_behind Plain behind)
  hash [] h = cc
  hash (high ∷ []) h = cc
  hash (high ∷ low ∷ more) h = by_high (digit high) low more h

  by_letter : (o : Option ℕ) (more : List ℕ) → tree.in_front o more ≡ Some (byte, behind)
      → and_then o (λ b. in_front b (spelled_behind Plain more)) ≡ in_front byte (spelled_behind Plain behind)
  by_letter None more h = cc
  by_letter (Some b) more h = same_front b byte more behind h

  star : (l : List ℕ) → escaped l ≡ Some (byte, behind) → spelled_behind Star l ≡ in_front byte (spelled_behind Plain behind)
  star [] h = cc
  star (c ∷ more) h = by_hash (c == 35) h
    where
      by_hash : (b : Bool) → (if b then hexadecimal more else tree.in_front (letter c) more) ≡ Some (byte, behind)
          → (if b then spelled_behind Hash more else and_then (letter c) (λ b. in_front b (spelled_behind Plain more)))
          ≡ in_front byte (spelled_behind Plain behind)
      by_hash true h = hash more h
      by_hash false h = by_letter (letter c) more h

  by_ascii : (c : ℕ) (more : List ℕ) (b : Bool) → if◌then◌else◌ {A = Option (ℕ × List ℕ)} b (Some (c, more)) None ≡ Some (byte, behind)
      → where_true b (in_front c (spelled_behind Plain more)) ≡ in_front byte (spelled_behind Plain behind)
  by_ascii c more true h = same_front c byte more behind h
  by_ascii c more false h = cc

  -- a byte that the front spells
  front_spelled : (l : List ℕ) → front l ≡ Some (byte, behind) → text l ≡ in_front byte (text behind)
  front_spelled [] h = cc
  front_spelled (c ∷ more) h = by_star (c == 42) h
    where
      by_star : (b : Bool) → (if b then escaped more else (if nat_lt c 128 then Some (c, more) else None)) ≡ Some (byte, behind)
          → (if b then spelled_behind Star more else where_true (nat_lt c 128) (in_front c (spelled_behind Plain more)))
          ≡ in_front byte (spelled_behind Plain behind)
      by_star true h = star more h
      by_star false h = by_ascii c more (nat_lt c 128) h

pub text_spelled : (l : List ℕ) (byte width : ℕ) (rest bytes all : List ℕ) → front l ≡ Some (byte, drop width l) → rest ≡ drop width l
    → text rest ≡ Some bytes → all ≡ byte ∷ bytes → text l ≡ Some all
text_spelled l byte width rest bytes all is rest-is more all-is =
    front_spelled byte (drop width l) l is ∙ (λ i. in_front byte (text (sym rest-is i))) ∙ ap (in_front byte) more ∙ ap Some (sym all-is)
