-- Bytes that are parted at the first of a kind.
use Rattle.std.proofs.Common.{◌≡◌, ℕ, suc, ◌+◌, nat_eq, Bool, true, false, cond, List, [], ◌∷◌, ◌++◌, take, drop, position, Some, None, refl, ap, sym, ◌∙◌, arith}
use Rattle.std.specs.List.{position_from}
use Rattle.std.proofs.lemmas.Bool.{eqb-true}
use Rattle.std.proofs.lemmas.Bool.Decides.{nat_tests}
use Rattle.std.proofs.lemmas.Iterator.Adapters.{position_from-zero}
use Rattle.std.proofs.lemmas.Option.{same_Some}
use Rattle.tp_requests.specs.Parts.{IsWithout}

-- a list begins with one that does not have the byte, which follows
pub record IsParted (at : ℕ) (bytes : List ℕ) (i : ℕ) : Type 0 where
  pub before : IsWithout at (take i bytes)
  pub is : bytes ≡ take i bytes ++ at ∷ drop (suc i) bytes

parted_from : (at : ℕ) (bytes : List ℕ) (n i : ℕ) → position_from (λ b. nat_eq b at) n bytes ≡ Some i
    → (j : ℕ) × (i ≡ n + j) × IsParted at bytes j
parted_from at [] n i found = cc
parted_from at (b ∷ bytes) n i found = by_test (nat_eq b at) refl found (parted_from at bytes (n + 1) i)
  where
    by_test : (t : Bool) → nat_eq b at ≡ t → cond t (Some n) (position_from (λ b. nat_eq b at) (n + 1) bytes) ≡ Some i
        → (position_from (λ b. nat_eq b at) (n + 1) bytes ≡ Some i → (j : ℕ) × (i ≡ (n + 1) + j) × IsParted at bytes j)
        → (j : ℕ) × (i ≡ n + j) × IsParted at (b ∷ bytes) j
    by_test true e found rest =
        let here : n ≡ i = same_Some n i found in
        (0, omega (arith, here), record { before = tt; is = ap (λ c. c ∷ bytes) (eqb-true b at e) })
    by_test false e found rest =
        let it = rest found in
        (suc it.0, omega (arith, it.1), record { before = (e, it.2.before); is = ap (λ l. b ∷ l) it.2.is })

without_from : (at : ℕ) (bytes : List ℕ) (n : ℕ) → position_from (λ b. nat_eq b at) n bytes ≡ None → IsWithout at bytes
without_from at [] n none = tt
without_from at (b ∷ bytes) n none = by_test (nat_eq b at) refl none (without_from at bytes (n + 1))
  where
    by_test : (t : Bool) → nat_eq b at ≡ t → cond t (Some n) (position_from (λ b. nat_eq b at) (n + 1) bytes) ≡ None
        → (position_from (λ b. nat_eq b at) (n + 1) bytes ≡ None → IsWithout at bytes) → IsWithout at (b ∷ bytes)
    by_test true e none rest = cc
    by_test false e none rest = (e, rest none)

pub parted : (at : ℕ) (bytes : List ℕ) (i : ℕ) → position (λ b. nat_eq b at) bytes ≡ Some i → IsParted at bytes i
parted at bytes i found =
    let it = parted_from at bytes 0 i (sym (position_from-zero (λ b. nat_eq b at) bytes) ∙ found) in
    let same : i ≡ it.0 = omega (arith, it.1) in
    rw same it.2

pub without : (at : ℕ) (bytes : List ℕ) → position (λ b. nat_eq b at) bytes ≡ None → IsWithout at bytes
without at bytes none = without_from at bytes 0 (sym (position_from-zero (λ b. nat_eq b at) bytes) ∙ none)

pub never_without : (at : ℕ) (before behind : List ℕ) → IsWithout at (before ++ at ∷ behind) → ⊥
never_without at [] behind none = grind (arith, nat_tests, none.0)
never_without at (b ∷ before) behind none = never_without at before behind none.1

-- bytes are parted in one way
pub same_parts : (at : ℕ) (a b c d : List ℕ) → IsWithout at a → IsWithout at c → a ++ at ∷ b ≡ c ++ at ∷ d → (a ≡ c) × (b ≡ d)
same_parts at [] b [] d none none' e = (refl, cc)
same_parts at [] b (y ∷ c) d none none' e = let same : at ≡ y = cc in absurd (grind (arith, nat_tests, none'.0, same))
same_parts at (x ∷ a) b [] d none none' e = let same : x ≡ at = cc in absurd (grind (arith, nat_tests, none.0, same))
same_parts at (x ∷ a) b (y ∷ c) d none none' e =
    let first : x ≡ y = cc in
    let rest : a ++ at ∷ b ≡ c ++ at ∷ d = cc in
    let more = same_parts at a b c d none.1 none'.1 rest in
    (ap (λ z. z ∷ a) first ∙ ap (λ l. y ∷ l) more.0, more.1)
