-- Loops over the words of planes.
use Rattle.std.proofs.Common.{◌≡◌, ◌⊎◌, inl, inr, ℕ, ◌+◌, ◌*◌, ◌/◌, ◌%◌, ◌^◌, ◌<◌, ◌≤◌, nat_lt, nat_le, Bool, true}
use Rattle.std.proofs.Common.{false, not, ◌&&◌, List, length, min, slice_set, get_or, bit_and, length-set}
use Rattle.std.proofs.Common.{get_or-set_same, get_or-set_other, refl, sym, ap, ◌∙◌, arith}
use Rattle.std.proofs.lemmas.Bool.{cases_lt, cases_eq, false≢true}
use Rattle.std.proofs.lemmas.Bool.Decides.{nat_tests}
use Rattle.tp_state.specs.declared.cell.Cell.{Cell}
use Rattle.tp_state.specs.declared.planes.Bits.{Bits}
use Rattle.tp_state.specs.CellRules.{blurred}
use Rattle.tp_state.specs.Planes.{is_set, cell_of, bits_cell, with_mask, blurred_bits, no_bits, cell_in, ChangesPlanes}
use Rattle.std.proofs.lemmas.Nat.{and_le_l}
use Rattle.tp_state.proofs.PlaneBits.{set-and, none_set, some_set, set_one_same, set_one_other}
use Rattle.tp_state.proofs.PlaneCells.{set-mask_in, set-mask_out, blurred_in, blurred_out}

-- ---- a word's place

pub place : (p : ℕ) → 64 * (p / 64) + p % 64 ≡ p
place p = omega arith

pub in_word : (p : ℕ) → p % 64 < 64
in_word p = omega arith

pub cell_in-word : (values : List ℕ) (planes : List Bits) (p w : ℕ) → p / 64 ≡ w → cell_in values planes p ≡ bits_cell (get_or planes w no_bits) (p % 64) (get_or values p 0)
unfolding cell_in
cell_in-word values planes p w e = rw e refl

pub cell_in-set_same : (values : List ℕ) (planes : List Bits) (w : ℕ) (b : Bits) (p : ℕ) → w < length planes →
    p / 64 ≡ w → cell_in values (slice_set planes w b) p ≡ bits_cell b (p % 64) (get_or values p 0)
cell_in-set_same values planes w b p lt e = cell_in-word values (slice_set planes w b) p w e ∙ ap (λ c. bits_cell c (p % 64) (get_or values p 0)) (get_or-set_same planes w b no_bits lt)

pub cell_in-set_other : (values : List ℕ) (planes : List Bits) (w : ℕ) (b : Bits) (p : ℕ) → (p / 64 ≡ w → ⊥) → cell_in values (slice_set planes w b) p ≡ cell_in values planes p
cell_in-set_other values planes w b p other = cell_in-word values (slice_set planes w b) p (p / 64) refl ∙
    ap (λ c. bits_cell c (p % 64) (get_or values p 0)) (get_or-set_other planes w (p / 64) b no_bits other) ∙
    sym (cell_in-word values planes p (p / 64) refl)

-- ---- words that are changed, one after another

pub changes_none : (values : List ℕ) (old : List Bits) (f : ℕ → Cell → Cell) (x end w : ℕ) → w ≡ x / 64 → ChangesPlanes values old old f x (min end (64 * w))
changes_none values old f x end w e = record {
  long = refl;
  inside = λ i low high. absurd (omega (arith, low, high, e));
  outside = λ i out. refl;
}

pub changes_more : (values : List ℕ) (old mid : List Bits) (f : ℕ → Cell → Cell) (x end w : ℕ) (b : Bits) → ChangesPlanes values old mid f x (min end (64 * w)) → w < length mid
    → ((p : ℕ) → p / 64 ≡ w → x ≤ p → p < end → bits_cell b (p % 64) (get_or values p 0) ≡ f p (bits_cell (get_or mid w no_bits) (p % 64) (get_or values p 0)))
    → ((p : ℕ) → p / 64 ≡ w → (p < x) ⊎ (end ≤ p) → bits_cell b (p % 64) (get_or values p 0) ≡ bits_cell (get_or mid w no_bits) (p % 64) (get_or values p 0))
    → ChangesPlanes values old (slice_set mid w b) f x (min end (64 * (w + 1)))
changes_more values old mid f x end w b h room takes keeps = record {
  long = length-set mid w b ∙ h.long;
  inside = λ p low high. inside p low high (cases_eq (p / 64) w);
  outside = λ p out. outside p out (cases_eq (p / 64) w);
}
  where
    -- what the word said before is what it said at first
    before : (p : ℕ) → p / 64 ≡ w → bits_cell (get_or mid w no_bits) (p % 64) (get_or values p 0) ≡ cell_in values old p
    before p here = sym (cell_in-word values mid p w here) ∙ h.outside p (inr (omega (arith, here)))

    inside : (p : ℕ) → x ≤ p → p < min end (64 * (w + 1)) → (p / 64 ≡ w) ⊎ (p / 64 ≡ w → ⊥) → cell_in values (slice_set mid w b) p ≡ f p (cell_in values old p)
    inside p low high (inl here) = cell_in-set_same values mid w b p room here ∙ takes p here low (omega (arith, high)) ∙ ap (f p) (before p here)
    inside p low high (inr other) = cell_in-set_other values mid w b p other ∙ h.inside p low (omega (arith, high, other))

    outside : (p : ℕ) → (p < x) ⊎ (min end (64 * (w + 1)) ≤ p) → (p / 64 ≡ w) ⊎ (p / 64 ≡ w → ⊥) → cell_in values (slice_set mid w b) p ≡ cell_in values old p
    outside p (inl below) (inl here) = cell_in-set_same values mid w b p room here ∙ keeps p here (inl below) ∙ before p here
    outside p (inr above) (inl here) = cell_in-set_same values mid w b p room here ∙ keeps p here (inr (omega (arith, above, here))) ∙ before p here
    outside p (inl below) (inr other) = cell_in-set_other values mid w b p other ∙ h.outside p (inl below)
    outside p (inr above) (inr other) = cell_in-set_other values mid w b p other ∙ h.outside p (inr (omega (arith, above)))

pub changes_end : (values : List ℕ) (old new : List Bits) (f : ℕ → Cell → Cell) (x end w : ℕ) →
    ChangesPlanes values old new f x (min end (64 * w)) → end ≤ 64 * w → ChangesPlanes values old new f x end
changes_end values old new f x end w h past =
    let whole : min end (64 * w) ≡ end = omega (arith, past) in
    rw whole at h

-- ---- masks

pub is_within : (mask w x end p : ℕ) → ((j : ℕ) → j < 64 → is_set mask j ≡ (nat_le x (64 * w + j) && nat_lt (64 * w + j) end)) → p / 64 ≡ w → x ≤ p → p < end → is_set mask (p % 64) ≡ true
is_within mask w x end p h here low high =
    let back : 64 * w + p % 64 ≡ p = omega (arith, here) in
    let a : nat_le x (64 * w + p % 64) ≡ true = grind (arith, nat_tests) in
    let b : nat_lt (64 * w + p % 64) end ≡ true = grind (arith, nat_tests) in
    h (p % 64) (in_word p) ∙ rw (a, b) refl

pub is_without : (mask w x end p : ℕ) → ((j : ℕ) → j < 64 → is_set mask j ≡ (nat_le x (64 * w + j) && nat_lt (64 * w + j) end)) → p / 64 ≡ w → (p < x) ⊎ (end ≤ p) → is_set mask (p % 64) ≡ false
is_without mask w x end p h here (inl below) =
    let back : 64 * w + p % 64 ≡ p = omega (arith, here) in
    let a : nat_le x (64 * w + p % 64) ≡ false = grind (arith, nat_tests) in
    h (p % 64) (in_word p) ∙ rw a refl
is_without mask w x end p h here (inr above) =
    let back : 64 * w + p % 64 ≡ p = omega (arith, here) in
    let b : nat_lt (64 * w + p % 64) end ≡ false = grind (arith, nat_tests) in
    h (p % 64) (in_word p) ∙ rw b (never (nat_le x (64 * w + p % 64)))
  where
    never : (b : Bool) → (b && false) ≡ false
    never true = refl
    never false = refl

-- where a bit of a word's mask is set, the word that it tells of is one of those
pub found_within : (mask w x end j : ℕ) → ((j : ℕ) → j < 64 →
    is_set mask j ≡ (nat_le x (64 * w + j) && nat_lt (64 * w + j) end)) → j < 64 → is_set mask j ≡ true →
    (x ≤ 64 * w + j) × (64 * w + j < end)
found_within mask w x end j h lt on = by_tests (nat_le x (64 * w + j)) (nat_lt (64 * w + j) end) refl refl (sym (h j lt) ∙ on)
  where
    by_tests : (a b : Bool) → nat_le x (64 * w + j) ≡ a → nat_lt (64 * w + j) end ≡ b → (nat_le x (64 * w + j) && nat_lt (64 * w + j) end) ≡ true → (x ≤ 64 * w + j) × (64 * w + j < end)
    by_tests true true e f all = (grind (arith, nat_tests), grind (arith, nat_tests))
    by_tests true false e f all = absurd (false≢true (sym (rw (e, f) refl) ∙ all))
    by_tests false b e f all = absurd (false≢true (sym (rw e refl) ∙ all))

-- ---- the words that take a cell's bits, and those that may have taken something

pub put_more : (values : List ℕ) (old mid : List Bits) (first second : Bool) (x end w mask : ℕ) (b : Bits) →
    ChangesPlanes values old mid (λ i c. cell_of first second (get_or values i 0)) x (min end (64 * w)) → w < length mid
    → ((j : ℕ) → j < 64 → is_set mask j ≡ (nat_le x (64 * w + j) && nat_lt (64 * w + j) end))
    → b.first ≡ with_mask first mask (get_or mid w no_bits).first → b.second ≡ with_mask second mask (get_or mid w no_bits).second
    → ChangesPlanes values old (slice_set mid w b) (λ i c. cell_of first second (get_or values i 0)) x (min end (64 * (w + 1)))
put_more values old mid first second x end w mask b h room masks e f = changes_more values old mid (λ i c. cell_of first second (get_or values i 0)) x end w b h room takes keeps
  where
    was : Bits
    was = get_or mid w no_bits

    takes : (p : ℕ) → p / 64 ≡ w → x ≤ p → p < end → bits_cell b (p % 64) (get_or values p 0) ≡ cell_of first second (get_or values p 0)
    takes p here low high =
        let on : is_set mask (p % 64) ≡ true = is_within mask w x end p masks here low high in
        ap (λ t. cell_of t (is_set b.second (p % 64)) (get_or values p 0)) (ap (λ n. is_set n (p % 64)) e ∙ set-mask_in first mask was.first (p % 64) on)
        ∙ ap (λ t. cell_of first t (get_or values p 0)) (ap (λ n. is_set n (p % 64)) f ∙ set-mask_in second mask was.second (p % 64) on)

    keeps : (p : ℕ) → p / 64 ≡ w → (p < x) ⊎ (end ≤ p) → bits_cell b (p % 64) (get_or values p 0) ≡ bits_cell was (p % 64) (get_or values p 0)
    keeps p here out =
        let off : is_set mask (p % 64) ≡ false = is_without mask w x end p masks here out in
        ap (λ t. cell_of t (is_set b.second (p % 64)) (get_or values p 0)) (ap (λ n. is_set n (p % 64)) e ∙ set-mask_out first mask was.first (p % 64) off)
        ∙ ap (λ t. cell_of (is_set was.first (p % 64)) t (get_or values p 0)) (ap (λ n. is_set n (p % 64)) f ∙ set-mask_out second mask was.second (p % 64) off)

pub blur_more : (values : List ℕ) (old mid : List Bits) (x end w mask : ℕ) (b : Bits) → ChangesPlanes values old mid (λ i c. blurred c) x (min end (64 * w)) → w < length mid
    → ((j : ℕ) → j < 64 → is_set mask j ≡ (nat_le x (64 * w + j) && nat_lt (64 * w + j) end))
    → b ≡ blurred_bits mask (get_or mid w no_bits)
    → ChangesPlanes values old (slice_set mid w b) (λ i c. blurred c) x (min end (64 * (w + 1)))
blur_more values old mid x end w mask b h room masks e = changes_more values old mid (λ i c. blurred c) x end w b h room takes keeps
  where
    was : Bits
    was = get_or mid w no_bits

    takes : (p : ℕ) → p / 64 ≡ w → x ≤ p → p < end → bits_cell b (p % 64) (get_or values p 0) ≡ blurred (bits_cell was (p % 64) (get_or values p 0))
    takes p here low high = ap (λ c. bits_cell c (p % 64) (get_or values p 0)) e ∙ blurred_in mask was (p % 64) (get_or values p 0) (is_within mask w x end p masks here low high)

    keeps : (p : ℕ) → p / 64 ≡ w → (p < x) ⊎ (end ≤ p) → bits_cell b (p % 64) (get_or values p 0) ≡ bits_cell was (p % 64) (get_or values p 0)
    keeps p here out = ap (λ c. bits_cell c (p % 64) (get_or values p 0)) e ∙ blurred_out mask was (p % 64) (get_or values p 0) (is_without mask w x end p masks here out)

-- ---- words that are tested: n has the bits of those of which the test is false

pub not_false : (b : Bool) → not b ≡ false → b ≡ true
not_false true e = refl
not_false false e = absurd (false≢true (sym e))

pub not_true : (b : Bool) → not b ≡ true → b ≡ false
not_true true e = absurd (false≢true e)
not_true false e = refl

both_true : (a b : Bool) → (a && b) ≡ true → (a ≡ true) × (b ≡ true)
both_true true b e = (refl, e)
both_true false b e = absurd (false≢true e)

and_true : (a : Bool) → (a && true) ≡ false → a ≡ false
and_true true e = e
and_true false e = refl

pub tested_more : (word : Bits → ℕ) (test : Cell → Bool) → ((b : Bits) (j v : ℕ) → is_set (word b) j ≡ not (test (bits_cell b j v)))
    → (values : List ℕ) (planes : List Bits) (x end w mask n : ℕ) → n ≡ word (get_or planes w no_bits)
    → ((j : ℕ) → j < 64 → is_set mask j ≡ (nat_le x (64 * w + j) && nat_lt (64 * w + j) end))
    → bit_and n mask ≡ 0
    → ((i : ℕ) → x ≤ i → i < min end (64 * w) → test (cell_in values planes i) ≡ true)
    → (i : ℕ) → x ≤ i → i < min end (64 * (w + 1)) → test (cell_in values planes i) ≡ true
tested_more word test reports values planes x end w mask n e masks none h i low high = by_word (cases_eq (i / 64) w)
  where
    j : ℕ
    j = i % 64

    was : Bits
    was = get_or planes w no_bits

    here : i / 64 ≡ w → test (cell_in values planes i) ≡ true
    here at =
        let on : is_set mask (i % 64) ≡ true = is_within mask w x end i masks at low (omega (arith, high)) in
        let clear : (is_set n (i % 64) && is_set mask (i % 64)) ≡ false = sym (set-and n mask (i % 64)) ∙ ap (λ m. is_set m (i % 64)) none ∙ none_set (i % 64) in
        let off : is_set n (i % 64) ≡ false = and_true (is_set n (i % 64)) (sym (ap (λ t. is_set n (i % 64) && t) on) ∙ clear) in
        let not_so : not (test (bits_cell was (i % 64) (get_or values i 0))) ≡ false = sym (reports was (i % 64) (get_or values i 0)) ∙ ap (λ m. is_set m (i % 64)) (sym e) ∙ off in
        ap test (cell_in-word values planes i w at) ∙ not_false (test (bits_cell was (i % 64) (get_or values i 0))) not_so

    by_word : (i / 64 ≡ w) ⊎ (i / 64 ≡ w → ⊥) → test (cell_in values planes i) ≡ true
    by_word (inl at) = here at
    by_word (inr other) = h i low (omega (arith, high, other))

pub tested_found : (word : Bits → ℕ) (test : Cell → Bool) → ((b : Bits) (j v : ℕ) → is_set (word b) j ≡ not (test (bits_cell b j v)))
    → (values : List ℕ) (planes : List Bits) (x end w mask n : ℕ) → n ≡ word (get_or planes w no_bits)
    → ((j : ℕ) → j < 64 → is_set mask j ≡ (nat_le x (64 * w + j) && nat_lt (64 * w + j) end))
    → n < 2 ^ 64 → (bit_and n mask ≡ 0 → ⊥)
    → (i : ℕ) × (x ≤ i) × (i < end) × (test (cell_in values planes i) ≡ false)
tested_found word test reports values planes x end w mask n e masks small some =
    let found = some_set (bit_and n mask) (omega (arith, some)) (omega (arith, and_le_l n mask, small)) in
    at found.0 found.1 found.2
  where
    was : Bits
    was = get_or planes w no_bits

    at : (j : ℕ) → j < 64 → is_set (bit_and n mask) j ≡ true → (i : ℕ) × (x ≤ i) × (i < end) × (test (cell_in values planes i) ≡ false)
    at j lt on =
        let both = both_true (is_set n j) (is_set mask j) (sym (set-and n mask j) ∙ on) in
        let inside = found_within mask w x end j masks lt both.1 in
        let word_of : (64 * w + j) / 64 ≡ w = omega (arith, lt) in
        let bit_of : (64 * w + j) % 64 ≡ j = omega (arith, lt) in
        let not_so : not (test (bits_cell was j (get_or values (64 * w + j) 0))) ≡ true = sym (reports was j (get_or values (64 * w + j) 0)) ∙ ap (λ m. is_set m j) (sym e) ∙ both.0 in (
          64 * w + j,
          inside.0,
          inside.1,
          ap test (cell_in-word values planes (64 * w + j) w word_of ∙
              ap (λ k. bits_cell was k (get_or values (64 * w + j) 0)) bit_of) ∙
              not_true (test (bits_cell was j (get_or values (64 * w + j) 0))) not_so,
        )

-- the mask of one word
pub one_within : (x j : ℕ) → j < 64 → is_set (2 ^ (x % 64)) j ≡ (nat_le x (64 * (x / 64) + j) && nat_lt (64 * (x / 64) + j) (x + 1))
one_within x j lt = by_word (cases_eq j (x % 64)) (cases_lt (64 * (x / 64) + j) x)
  where
    never : (b : Bool) → (b && false) ≡ false
    never true = refl
    never false = refl

    by_word : (j ≡ x % 64) ⊎ (j ≡ x % 64 → ⊥) → (64 * (x / 64) + j < x) ⊎ (x ≤ 64 * (x / 64) + j) → is_set (2 ^ (x % 64)) j ≡ (nat_le x (64 * (x / 64) + j) && nat_lt (64 * (x / 64) + j) (x + 1))
    by_word (inl same) _ =
        let here : 64 * (x / 64) + j ≡ x = omega (arith, same) in
        let a : nat_le x (64 * (x / 64) + j) ≡ true = grind (arith, nat_tests) in
        let b : nat_lt (64 * (x / 64) + j) (x + 1) ≡ true = grind (arith, nat_tests) in
        ap (is_set (2 ^ (x % 64))) same ∙ set_one_same (x % 64) ∙ sym (rw (a, b) refl)
    by_word (inr other) (inl before) =
        let a : nat_le x (64 * (x / 64) + j) ≡ false = grind (arith, nat_tests) in
        set_one_other (x % 64) j other ∙ sym (rw a refl)
    by_word (inr other) (inr from) =
        let past : x + 1 ≤ 64 * (x / 64) + j = omega (arith, from, other) in
        let b : nat_lt (64 * (x / 64) + j) (x + 1) ≡ false = grind (arith, nat_tests) in
        set_one_other (x % 64) j other ∙ sym (rw b (never (nat_le x (64 * (x / 64) + j))))
