-- How far from zero an operand may be that this many bytes spell, and how many bytes the canonical spelling takes of it.
use Rattle.std.proofs.Common.{◌≡◌, ◌≢◌, ℕ, zero, suc, ◌+◌, ◌-◌, ◌*◌, ◌/◌, ◌%◌, ◌^◌, ◌<◌, ◌≤◌, ◌⊎◌, inl, inr, Bool, true}
use Rattle.std.proofs.Common.{false, nat_lt, if◌then◌else◌, ℤ, pos, negsuc, List, [], ◌∷◌, ◌++◌, length, Some, None}
use Rattle.std.proofs.Common.{refl, ap, sym, ◌∙◌, arith, length-append}
use Rattle.std.proofs.lemmas.Option.{same_Some}
use Rattle.std.proofs.lemmas.Int.{ints}
use Rattle.std.proofs.lemmas.Bool.Decides.{nat_tests}
use Rattle.tp_words.specs.Words.{signed}
use Rattle.tp_prefix.specs.Spelling.{digit_of, is_pfix, is_nfix, is_prefix, shifted, shifted_complement, spelled, IsSpelling}
use Rattle.tp_prefix.specs.Canonical.{natural_spelling, canonical}
use Rattle.tp_prefix.proofs.SpellingLemmas.{last_byte}
use Rattle.tp_prefix.proofs.CanonicalLemmas.{bound, natural_length, natural_room, natural_reads, negative_reads}
use lib.Signed.{lt_z}
use mir.Val.{SFits, of_z, to_z}
use mir.Syntax.{w32}

-- from -m up to below m
abbrev pub Within : ℕ → ℤ → Type 0
Within m (pos n) = n < m
Within m (negsuc n) = n < m

-- what Oreg may hold for that: a multiple of 16
record Near (m o : ℕ) : Type 0 where
  word : o < 2 ^ 32
  multiple : o % 16 ≡ 0
  near : (o + 16 ≤ m) ⊎ (2 ^ 32 ≤ o + m)

near_shifted : (m o d : ℕ) → Near m o → d < 16 → 16 * m ≤ 2 ^ 31 → Near (16 * m) (shifted (o + d))
near_shifted m o d n h top = record {
  word = omega arith;
  multiple = omega arith;
  near = by_case n.near;
}
  where
    by_case : (o + 16 ≤ m) ⊎ (2 ^ 32 ≤ o + m) → (shifted (o + d) + 16 ≤ 16 * m) ⊎ (2 ^ 32 ≤ shifted (o + d) + 16 * m)
    by_case (inl below) = inl (omega arith)
    by_case (inr above) = inr (omega (arith, n.word))

near_complement : (m o d : ℕ) → Near m o → d < 16 → 16 * m ≤ 2 ^ 31 → Near (16 * m) (shifted_complement (o + d))
near_complement m o d n h top = record {
  word = omega (arith, ints);
  multiple = omega (arith, ints);
  near = by_case n.near;
}
  where
    by_case : (o + 16 ≤ m) ⊎ (2 ^ 32 ≤ o + m) → (shifted_complement (o + d) + 16 ≤ 16 * m) ⊎ (2 ^ 32 ≤ shifted_complement (o + d) + 16 * m)
    by_case (inl below) = inr (omega (arith, ints))
    by_case (inr above) = inl (omega (arith, ints, n.word, n.multiple))

near_signed : (m o d : ℕ) → Near m o → d < 16 → m ≤ 2 ^ 31 → Within m (signed (o + d))
near_signed m o d n h top = by_test (nat_lt (o + d) (2 ^ 31)) refl
  where
    below : o + d < 2 ^ 31 → (o + 16 ≤ m) ⊎ (2 ^ 32 ≤ o + m) → o + d < m
    below lt (inl low) = omega arith
    below lt (inr high) = omega arith

    above : 2 ^ 31 ≤ o + d → (o + 16 ≤ m) ⊎ (2 ^ 32 ≤ o + m) → 2 ^ 32 - suc (o + d) < m
    above ge (inl low) = omega arith
    above ge (inr high) = omega arith

    by_test : (p : Bool) → nat_lt (o + d) (2 ^ 31) ≡ p → Within m (if p then pos (o + d) else negsuc (2 ^ 32 - suc (o + d)))
    by_test true test = below (grind (arith, nat_tests)) n.near
    by_test false test = above (grind (arith, nat_tests)) n.near

-- m times 16, once for each byte but the first
scaled : ℕ → List ℕ → ℕ
scaled m [] = m
scaled m (b ∷ []) = m
scaled m (b ∷ c ∷ rest) = scaled (16 * m) (c ∷ rest)

scaled_ge : (m : ℕ) (bytes : List ℕ) → m ≤ scaled m bytes
unfolding scaled
scaled_ge m [] = omega arith
scaled_ge m (b ∷ []) = omega arith
scaled_ge m (b ∷ c ∷ rest) = omega (arith, scaled_ge (16 * m) (c ∷ rest))

scaled_more : (m b : ℕ) (rest : List ℕ) → scaled (16 * m) (b ∷ rest) ≡ 16 * scaled m (b ∷ rest)
unfolding scaled
scaled_more m b [] = refl
scaled_more m b (c ∷ rest) = scaled_more (16 * m) c rest

scaled_is : (b : ℕ) (rest : List ℕ) → scaled 16 (b ∷ rest) ≡ bound (length rest)
unfolding scaled bound
scaled_is b [] = refl
scaled_is b (c ∷ rest) = scaled_more 16 c rest ∙ ap (λ n. 16 * n) (scaled_is c rest)

reach : (bytes : List ℕ) (o m f : ℕ) (e : ℤ) → spelled o bytes ≡ Some (f, e) → Near m o → scaled m bytes ≤ 2 ^ 31 → Within (scaled m bytes) e
unfolding spelled scaled
reach [] o m f e is near top = cc
reach (b ∷ []) o m f e is near top = by_test (is_prefix b) refl
  where
    by_test : (p : Bool) → is_prefix b ≡ p → Within m e
    by_test true test = let no : None ≡ Some (f, e) = sym (rw test refl) ∙ is in cc
    by_test false test =
        let same : signed (o + digit_of b) ≡ e = ap (λ p. p.1) (same_Some _ _ (sym (last_byte o b test) ∙ is)) in
        rw (← same) (near_signed m o (digit_of b) near (omega arith) top)
reach (b ∷ c ∷ rest) o m f e is near top = by_test (λ o. reach (c ∷ rest) o (16 * m) f e) (is_pfix b) refl (is_nfix b) refl
  where
    roomy : 16 * m ≤ 2 ^ 31
    roomy = omega (arith, scaled_ge (16 * m) (c ∷ rest))

    by_test : ((o : ℕ) → spelled o (c ∷ rest) ≡ Some (f, e) → Near (16 * m) o → scaled (16 * m) (c ∷ rest) ≤ 2 ^ 31 →
        Within (scaled (16 * m) (c ∷ rest)) e) → (p : Bool) → is_pfix b ≡ p → (q : Bool) → is_nfix b ≡ q →
        Within (scaled (16 * m) (c ∷ rest)) e
    by_test go true is_p q is_q = go _ (sym (rw is_p refl) ∙ is) (near_shifted m o (digit_of b) near (omega arith) roomy) top
    by_test go false is_p true is_q = go _ (sym (rw (is_p, is_q) refl) ∙ is) (near_complement m o (digit_of b) near (omega arith) roomy) top
    by_test go false is_p false is_q = let no : None ≡ Some (f, e) = sym (rw (is_p, is_q) refl) ∙ is in cc

-- the number of bytes in a canonical spelling
natural_short : (n digits f e : ℕ) → e < bound n → length (natural_spelling digits f e) ≤ suc n
unfolding natural_spelling bound
natural_short n zero f e h = omega arith
natural_short zero (suc digits) f e h =
    let test : nat_lt e 16 ≡ true = grind (arith, nat_tests) in rw test (omega arith)
natural_short (suc n) (suc digits) f e h = by_test (natural_short n digits 2 (e / 16)) (nat_lt e 16) refl
  where
    by_test : (e / 16 < bound n → length (natural_spelling digits 2 (e / 16)) ≤ suc n) → (p : Bool) → nat_lt e 16 ≡ p →
        length (if nat_lt e 16 then (16 * f + e) ∷ [] else natural_spelling digits 2 (e / 16) ++ (16 * f + e % 16) ∷ []) ≤
        suc (suc n)
    by_test go true test = rw test (omega arith)
    by_test go false test = rw (test, length-append) (omega (arith, go (omega arith)))

canonical_short : (n f : ℕ) (e : ℤ) → Within (bound (suc n)) e → length (canonical f e) ≤ suc (suc n)
unfolding canonical bound
canonical_short n f (pos v) h = natural_short (suc n) 8 f v h
canonical_short n f (negsuc c) h =
    rw length-append (omega (arith, natural_short n 7 6 (c / 16) (omega arith)))

pub canonical_length : (f : ℕ) (e : ℤ) → length (canonical f e) ≤ 8
unfolding canonical
canonical_length f (pos v) = natural_length 8 f v
canonical_length f (negsuc c) = rw length-append (omega (arith, natural_length 7 6 (c / 16)))

bound_at_least : (n : ℕ) → 16 ≤ bound n
unfolding bound
bound_at_least zero = omega arith
bound_at_least (suc n) = omega (arith, bound_at_least n)

bound_grows : (n k : ℕ) → n ≤ k → bound n ≤ bound k
unfolding bound
bound_grows zero k h = bound_at_least k
bound_grows (suc n) zero h = absurd (omega arith)
bound_grows (suc n) (suc k) h = omega (arith, bound_grows n k (omega arith))

near_zero : Near 16 0
near_zero = record { word = omega arith; multiple = refl; near = inl (omega arith) }

-- no spelling is shorter than the canonical one
pub canonical_least : (bytes : List ℕ) (f : ℕ) (e : ℤ) → IsSpelling bytes f e → length (canonical f e) ≤ length bytes
unfolding spelled bound canonical
canonical_least [] f e is = let no : None ≡ Some (f, e) = is.spells in cc
canonical_least (b ∷ []) f e is = by_test (is_prefix b) refl
  where
    by_test : (p : Bool) → is_prefix b ≡ p → length (canonical f e) ≤ 1
    by_test true test = let no : None ≡ Some (f, e) = sym (rw test refl) ∙ is.spells in cc
    by_test false test =
        let same : signed (0 + digit_of b) ≡ e = ap (λ p. p.1) (same_Some _ _ (sym (last_byte 0 b test) ∙ is.spells)) in
        let digit : pos (digit_of b) ≡ signed (0 + digit_of b) = omega (arith, ints) in
        let value : pos (digit_of b) ≡ e = digit ∙ same in
        rw (← value) (natural_short 0 8 f (digit_of b) (omega arith))
canonical_least (b ∷ c ∷ rest) f e is = by_test (nat_lt (length rest) 6) refl
  where
    by_test : (p : Bool) → nat_lt (length rest) 6 ≡ p → length (canonical f e) ≤ suc (suc (length rest))
    by_test true test =
        let few : length rest ≤ 5 = grind (arith, nat_tests) in
        let top : bound (suc (length rest)) ≤ bound 6 = bound_grows (suc (length rest)) 6 (omega arith) in
        let top' : scaled 16 (b ∷ c ∷ rest) ≤ 2 ^ 31 = rw (scaled_is b (c ∷ rest)) (omega arith) in
        canonical_short (length rest) f e (rw scaled_is at (reach (b ∷ c ∷ rest) 0 16 f e is.spells near_zero top'))
    by_test false test =
        let many : 6 ≤ length rest = grind (arith, nat_tests) in
        omega (arith, canonical_length f e)

-- the two forms of the rule
pub canonical_pos : (f n : ℕ) → canonical f (pos n) ≡ natural_spelling 8 f n
unfolding canonical
canonical_pos f n = refl

pub canonical_negsuc : (f n : ℕ) → n < 2 ^ 31 → canonical f (negsuc n) ≡ natural_spelling 8 6 (n / 16) ++ (16 * f + (15 - n % 16)) ∷ []
unfolding canonical
canonical_negsuc f n h = ap (λ bytes. bytes ++ (16 * f + (15 - n % 16)) ∷ []) (sym ((natural_room 6 (n / 16) (omega arith)).1))

signed_pos : (n : ℕ) → n < 2 ^ 31 → signed n ≡ pos n
signed_pos n h = omega (arith, ints)

-- the canonical spelling is one
pub canonical_spells : (f : ℕ) (e : ℤ) → SFits w32 e → f < 16 → f ≢ 2 → f ≢ 6 → IsSpelling (canonical f e) f e
unfolding bound
canonical_spells f (pos n) fits small no_pfix no_nfix =
    let half : n < 2 ^ 31 = omega (arith, ints, fits) in
    record {
      short = canonical_length f (pos n);
      spells = ap (spelled 0) (canonical_pos f n) ∙ natural_reads 7 f n (omega arith) (omega arith) small no_pfix no_nfix ∙ ap (λ e. Some (f, e)) (signed_pos n half);
    }
canonical_spells f (negsuc n) fits small no_pfix no_nfix =
    let half : n < 2 ^ 31 = omega (arith, ints, fits) in
    record {
      short = canonical_length f (negsuc n);
      spells = negative_reads f n half small no_pfix no_nfix;
    }

-- a word below zero, by its complement
pub below_zero : (e : ℤ) (n : ℕ) → SFits w32 e → lt_z (to_z w32 (of_z w32 e)) (pos 0) ≡ true → n ≡ of_z w32 (to_z w32 (4294967295 - of_z w32 e)) → e ≡ negsuc n
below_zero e n fits below is = grind (arith, ints)

pub not_below_zero : (e : ℤ) (n : ℕ) → SFits w32 e → lt_z (to_z w32 (of_z w32 e)) (pos 0) ≡ false → n ≡ of_z w32 (to_z w32 (of_z w32 e)) → e ≡ pos n
not_below_zero e n fits above is = grind (arith, ints)
