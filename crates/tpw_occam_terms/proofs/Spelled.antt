-- What the front of a text spells, and that a text spells one thing.
use Rattle.std.proofs.Common.{◌≡◌, ◌∙◌, sym, ap, refl, subst, ℕ, suc, ◌-◌, ◌≤◌, ◌==◌, Bool, true, false, Option, Some, None, List, [], ◌∷◌, length, drop, arith}
use Rattle.std.proofs.Common.{inl, inr, ◌⊎◌, nat_lt, length-drop}
use Rattle.std.specs.Prelude.{if◌then◌else◌}
use Rattle.tpw_occam_terms.specs.Spelling.{digit, two_digits, hexadecimal, letter, in_front, escaped, front, Spells, stops, goes_on}

none_some : {A : Type 0} (x : A) → None ≡ Some x → ⊥
none_some x h = cc

some_same : {A : Type 0} (p q : A) → Some p ≡ Some q → p ≡ q
some_same p q h = cc

some_parts : (p q : ℕ × List ℕ) → Some p ≡ Some q → (p.0 ≡ q.0) × (p.1 ≡ q.1)
some_parts p q h = let same = some_same p q h in (ap (λ (x : ℕ × List ℕ). x.0) same, ap (λ (x : ℕ × List ℕ). x.1) same)

-- a text spells one thing
pub one_thing : (spelled a b : List ℕ) → Spells spelled a → Spells spelled b → a ≡ b
one_thing spelled [] [] (stops h) (stops g) = refl
one_thing spelled [] (c ∷ cs) (stops h) (goes_on g t) = absurd (none_some _ (sym h ∙ g))
one_thing spelled (b ∷ bs) [] (goes_on h s) (stops g) = absurd (none_some _ (sym g ∙ h))
one_thing spelled (b ∷ bs) (c ∷ cs) (goes_on h s) (goes_on g t) =
    let same = some_parts _ _ (sym h ∙ g) in
    ap (λ x. x ∷ bs) same.0 ∙ ap (λ more. c ∷ more) (one_thing _ bs cs (subst (λ behind. Spells behind bs) same.1 s) t)

-- ---- what stands behind

-- a list is another but for some of its front
abbrev IsTail : List ℕ → List ℕ → Type 0
IsTail all tail = (n : ℕ) × (n ≤ length all) × (tail ≡ drop n all)

chosen : (test : Bool) (x y : Option (ℕ × List ℕ)) (p : ℕ × List ℕ) → (if test then x else y) ≡ Some p → (x ≡ Some p) ⊎ (y ≡ Some p)
chosen true x y p h = inl h
chosen false x y p h = inr h

two_behind : (x y : Option ℕ) (behind tail : List ℕ) (byte : ℕ) → two_digits x y behind ≡ Some (byte, tail) → behind ≡ tail
two_behind (Some x) (Some y) behind tail byte h = (some_parts _ _ h).1
two_behind (Some x) None behind tail byte h = cc
two_behind None y behind tail byte h = cc

letter_behind : (x : Option ℕ) (behind tail : List ℕ) (byte : ℕ) → in_front x behind ≡ Some (byte, tail) → behind ≡ tail
letter_behind (Some x) behind tail byte h = (some_parts _ _ h).1
letter_behind None behind tail byte h = cc

hexadecimal_tail : (all tail : List ℕ) (byte : ℕ) → hexadecimal all ≡ Some (byte, tail) → IsTail all tail
hexadecimal_tail [] tail byte h = absurd (none_some _ h)
hexadecimal_tail (a ∷ []) tail byte h = absurd (none_some _ h)
hexadecimal_tail (a ∷ b ∷ behind) tail byte h = (2, omega arith, sym (two_behind (digit a) (digit b) behind tail byte h))

one_more : (c : ℕ) (all tail : List ℕ) → IsTail all tail → IsTail (c ∷ all) tail
one_more c all tail is = (suc is.0, omega (arith, is.1), is.2)

escaped_tail : (all tail : List ℕ) (byte : ℕ) → escaped all ≡ Some (byte, tail) → IsTail all tail
escaped_tail [] tail byte h = absurd (none_some _ h)
escaped_tail (c ∷ behind) tail byte h = elim (chosen (c == 35) _ _ _ h) [
  | inl digits ↦ one_more c behind tail (hexadecimal_tail behind tail byte digits)
  | inr named ↦ (1, omega arith, sym (letter_behind (letter c) behind tail byte named))
]

front_tail : (all tail : List ℕ) (byte : ℕ) → front all ≡ Some (byte, tail) → IsTail all tail
front_tail [] tail byte h = absurd (none_some _ h)
front_tail (c ∷ behind) tail byte h = elim (chosen (c == 42) _ _ _ h) [
  | inl star ↦ one_more c behind tail (escaped_tail behind tail byte star)
  | inr other ↦
      elim (chosen (nat_lt c 128) (Some (c, behind)) None _ other) [
        | inl ascii ↦ (1, omega arith, sym (some_parts _ _ ascii).1)
        | inr none ↦ absurd (none_some _ none)
      ]
]

-- what stands behind is the text but for as many bytes as are missing
pub behind_front : (all tail : List ℕ) (byte : ℕ) → front all ≡ Some (byte, tail) → tail ≡ drop (length all - length tail) all
behind_front all tail byte h =
    let is = front_tail all tail byte h in
    let n = is.0 in
    let rest : length tail ≡ length all - n = ap length is.2 ∙ length-drop n all in
    let width : n ≡ length all - length tail = omega (arith, is.1, rest) in
    is.2 ∙ ap (λ k. drop k all) width
