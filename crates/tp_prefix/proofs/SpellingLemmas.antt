-- How bytes are read: prefixes one after another, and one reading of the bytes alone.
use Rattle.std.proofs.Common.{◌≡◌, ℕ, ◌+◌, Bool, true, false, ◌||◌, ◌&&◌, if◌then◌else◌, ℤ, List, [], ◌∷◌, ◌++◌, Option, Some, None, refl, ap, sym, ◌∙◌}
use Rattle.std.specs.List.{list_all}
use Rattle.std.proofs.lemmas.Option.{same_Some}
use Rattle.tp_words.specs.Words.{signed}
use Rattle.tp_prefix.specs.Spelling.{function_of, digit_of, is_pfix, is_nfix, is_prefix, shifted, shifted_complement, spelled}

-- the bytes are prefixes
abbrev pub ArePrefixes : List ℕ → Type 0
ArePrefixes bytes = list_all is_prefix bytes ≡ true

-- what Oreg holds behind a prefix
abbrev pub prefixed : ℕ → ℕ → ℕ
prefixed oreg b = if is_pfix b then shifted (oreg + digit_of b) else shifted_complement (oreg + digit_of b)

-- what is there is not missing
pub none_some : (o : Option (ℕ × ℤ)) (r : ℕ × ℤ) → o ≡ None → o ≡ Some r → ⊥
none_some None r e f = cc
none_some (Some q) r e f = cc

-- one prefix more in front
pub prefix_first : (o b c : ℕ) (rest : List ℕ) → is_prefix b ≡ true → spelled o (b ∷ c ∷ rest) ≡ spelled (prefixed o b) (c ∷ rest)
unfolding spelled
prefix_first o b c rest is = by_test (is_pfix b) refl (is_nfix b) refl is
  where
    by_test : (p : Bool) → is_pfix b ≡ p → (q : Bool) → is_nfix b ≡ q → (p || q) ≡ true → spelled o (b ∷ c ∷ rest) ≡ spelled (prefixed o b) (c ∷ rest)
    by_test true e q e' is = rw e
    by_test false e true e' is = rw (e, e')
    by_test false e false e' is = cc

-- a byte that is no prefix ends a spelling
pub last_byte : (o b : ℕ) → is_prefix b ≡ false → spelled o (b ∷ []) ≡ Some (function_of b, signed (o + digit_of b))
unfolding spelled
last_byte o b is = rw is

pub not_last : (o b c : ℕ) (rest : List ℕ) → is_prefix b ≡ false → spelled o (b ∷ c ∷ rest) ≡ None
unfolding spelled
not_last o b c rest is = by_test (is_pfix b) refl (is_nfix b) refl is
  where
    by_test : (p : Bool) → is_pfix b ≡ p → (q : Bool) → is_nfix b ≡ q → (p || q) ≡ false → spelled o (b ∷ c ∷ rest) ≡ None
    by_test true e q e' is = cc
    by_test false e true e' is = cc
    by_test false e false e' is = rw (e, e')

pub no_last : (o b : ℕ) → is_prefix b ≡ true → spelled o (b ∷ []) ≡ None
unfolding spelled
no_last o b is = rw is

-- prefixes alone spell nothing
pub prefixes_spell_none : (o : ℕ) (bytes : List ℕ) → ArePrefixes bytes → spelled o bytes ≡ None
unfolding spelled
prefixes_spell_none o [] are = refl
prefixes_spell_none o (b ∷ []) are = by_test (is_prefix b) refl are
  where
    by_test : (p : Bool) → is_prefix b ≡ p → (p && true) ≡ true → spelled o (b ∷ []) ≡ None
    by_test true e are = no_last o b e
    by_test false e are = cc
prefixes_spell_none o (b ∷ c ∷ rest) are = by_test (λ o. prefixes_spell_none o (c ∷ rest)) (is_prefix b) refl are
  where
    by_test : ((o : ℕ) → ArePrefixes (c ∷ rest) → spelled o (c ∷ rest) ≡ None) → (p : Bool) → is_prefix b ≡ p → (p && list_all is_prefix (c ∷ rest)) ≡ true → spelled o (b ∷ c ∷ rest) ≡ None
    by_test go true e are = prefix_first o b c rest e ∙ go _ are
    by_test go false e are = cc

-- no spelling begins another
pub one_reading : (o : ℕ) (a b x y : List ℕ) (r s : ℕ × ℤ) → spelled o a ≡ Some r → spelled o b ≡ Some s → a ++ x ≡ b ++ y → (a ≡ b) × (r ≡ s)
unfolding spelled
one_reading o [] b x y r s ra sb e = cc
one_reading o (c ∷ a) [] x y r s ra sb e = cc
one_reading o (c ∷ []) (d ∷ []) x y r s ra sb e =
    let heads : c ≡ d = cc in
    (rw heads, same_Some _ _ (sym ra ∙ ap (λ n. spelled o (n ∷ [])) heads ∙ sb))
one_reading o (c ∷ []) (d ∷ d' ∷ b) x y r s ra sb e = by_test (is_prefix c) refl
  where
    heads : c ≡ d
    heads = cc

    by_test : (p : Bool) → is_prefix c ≡ p → (c ∷ [] ≡ d ∷ d' ∷ b) × (r ≡ s)
    by_test true is = let none = no_last o c is in let no : None ≡ Some r = sym none ∙ ra in cc
    by_test false is = let none = not_last o d d' b (ap is_prefix (sym heads) ∙ is) in let no : None ≡ Some s = sym none ∙ sb in cc
one_reading o (c ∷ c' ∷ a) (d ∷ []) x y r s ra sb e = by_test (is_prefix c) refl
  where
    heads : c ≡ d
    heads = cc

    by_test : (p : Bool) → is_prefix c ≡ p → (c ∷ c' ∷ a ≡ d ∷ []) × (r ≡ s)
    by_test true is = let none = no_last o d (ap is_prefix (sym heads) ∙ is) in let no : None ≡ Some s = sym none ∙ sb in cc
    by_test false is = let none = not_last o c c' a is in let no : None ≡ Some r = sym none ∙ ra in cc
one_reading o (c ∷ c' ∷ a) (d ∷ d' ∷ b) x y r s ra sb e = by_test (λ o. one_reading o (c' ∷ a) (d' ∷ b) x y r s) (is_prefix c) refl
  where
    heads : c ≡ d
    heads = cc

    by_test : ((o : ℕ) → spelled o (c' ∷ a) ≡ Some r → spelled o (d' ∷ b) ≡ Some s → (c' ∷ a) ++ x ≡ (d' ∷ b) ++ y →
        (c' ∷ a ≡ d' ∷ b) × (r ≡ s)) → (p : Bool) → is_prefix c ≡ p → (c ∷ c' ∷ a ≡ d ∷ d' ∷ b) × (r ≡ s)
    by_test go true is =
        let same = go (prefixed o c) (sym (prefix_first o c c' a is) ∙ ra)
        (sym (ap (λ n. spelled o (n ∷ d' ∷ b)) heads ∙ prefix_first o d d' b (ap is_prefix (sym heads) ∙ is) ∙
        ap (λ n. spelled (prefixed o n) (d' ∷ b)) (sym heads)) ∙ ap (λ n. spelled o (n ∷ d' ∷ b)) heads ∙ sb) cc in
        (cc, same.1)
    by_test go false is = let none = not_last o c c' a is in let no : None ≡ Some r = sym none ∙ ra in cc
