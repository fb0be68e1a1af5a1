-- States that carry symbolic machines: registers, flags, memory.
use Rattle.std.proofs.Common.{◌≡◌, ◌⊎◌, inl, inr, ℕ, zero, suc, ◌+◌, ◌-◌, ◌%◌, ◌^◌, ◌<◌, ◌≤◌, Bool, true, false, ◌&&◌, nat_le, nat_lt}
use Rattle.std.proofs.Common.{if◌then◌else◌, ℤ, pos, List, [], ◌∷◌, length, map, replicate, Option, Some, None, refl, ap, sym, subst, ◌∙◌, arith, w32}
use Rattle.std.proofs.Common.{slice_index_or}
use Rattle.std.specs.Prelude.{option_and_then, slice_index}
use Rattle.std.specs.Int.{to_le_bytes, from_le_bytes}
use Rattle.std.proofs.lemmas.Bool.{cases_lt, le-leb, eq-eqb}
use Rattle.std.proofs.lemmas.Bool.Decides.{nat_tests}
use Rattle.std.proofs.lemmas.Option.{same_Some}
use Rattle.std.proofs.lemmas.List.{length-map, get_or-map}
use Rattle.tp_image.specs.Image.{ImageValue}
use Rattle.tp_step.specs.Maybe.{◌>>=◌, ◌>>◌, only_if}
use Rattle.tp_step.specs.Memory.{Memory, with_cells, undefined, with_bytes as with_bytes_at, bytes_at as bytes_from, word_at as word_from, with_word as with_word_at}
use Rattle.tp_step.specs.State.{State}
use Rattle.tp_step.proofs.MemoryLemmas.{cell_in, cell_below, cell_above}
use Rattle.tpw_occam_symbolic.specs.declared.items.Item.{Item}
use Rattle.tpw_occam_symbolic.specs.declared.items.Item.TheVariants.{Variable, Temporary, Constant, Array, Zeros}
use Rattle.tpw_occam_symbolic.specs.Blocks.{Blocks, is_item, sort_of, number_of, with_bytes, bytes_at, word_at, with_word}
use Rattle.tpw_occam_symbolic.specs.Symbolic.{Machine, Contents}
use Rattle.tpw_occam_symbolic.specs.MatchStates.{Site, base_of, LiesIn, IsHeld, Agrees, MatchStates}

-- ---- what may be missing

-- where both have an outcome, the second carries the first
pub record Carries (site : Site) (o : Option Machine) (p : Option State) : Type 0 where
  pub carries : (m : Machine) (s : State) → o ≡ Some m → p ≡ Some s → MatchStates site m s

pub both_carry : (site : Site) (m : Machine) (s : State) → MatchStates site m s → Carries site (Some m) (Some s)
both_carry site m s is = record {
  carries = λ n t e f. subst (λ x. MatchStates site x t) (same_Some _ _ e) (subst (MatchStates site m) (same_Some _ _ f) is);
}

pub none_carries : (site : Site) (o : Option Machine) → Carries site o None
none_carries site o = record { carries = λ m s e f. absurd cc }

pub none_carried : (site : Site) (o : Option State) → Carries site None o
none_carried site o = record { carries = λ m s e f. absurd cc }

pub bind_machine : (site : Site) {A : Type 0} (o : Option A) (f : A → Option Machine) (p : Option State)
    → ((x : A) → o ≡ Some x → Carries site (f x) p) → Carries site (option_and_then f o) p
bind_machine site None f p go = none_carried site p
bind_machine site (Some x) f p go = go x refl

pub when_machine : (site : Site) (b : Bool) (o : Option Machine) (p : Option State) → (b ≡ true → Carries site o p)
    → Carries site (only_if b >> o) p
when_machine site false o p go = none_carried site p
when_machine site true o p go = go refl

pub bind_state : (site : Site) {A : Type 0} (m : Option Machine) (o : Option A) (f : A → Option State)
    → ((x : A) → o ≡ Some x → Carries site m (f x)) → Carries site m (option_and_then f o)
bind_state site m None f go = none_carries site m
bind_state site m (Some x) f go = go x refl

pub when_state : (site : Site) (m : Option Machine) (b : Bool) (o : Option State) → (b ≡ true → Carries site m o)
    → Carries site m (only_if b >> o)
when_state site m false o go = none_carries site m
when_state site m true o go = go refl

-- ---- registers and flags

pub with_registers : (site : Site) (m : Machine) (s : State) (x y z : Contents) (a b c : Option ℕ)
    → MatchStates site m s → IsHeld site x a → IsHeld site y b → IsHeld site z c
    → MatchStates site (record m { areg = x; breg = y; creg = z }) (record s { areg = a; breg = b; creg = c })
with_registers site m s x y z a b c is held_a held_b held_c = record {
  code = is.code;
  sizes = is.sizes;
  place = is.place;
  oreg = is.oreg;
  wptr = is.wptr;
  areg = held_a;
  breg = held_b;
  creg = held_c;
  memory = is.memory;
  error = is.error;
  stopped = is.stopped;
  to_come = is.to_come;
  sent = is.sent;
  traced = is.traced;
}

pub with_error : (site : Site) (m : Machine) (s : State) (flag other : Bool) → MatchStates site m s → other ≡ flag
    → MatchStates site (record m { error = flag }) (record s { error = other })
with_error site m s flag other is same = record {
  code = is.code;
  sizes = is.sizes;
  place = is.place;
  oreg = is.oreg;
  wptr = is.wptr;
  areg = is.areg;
  breg = is.breg;
  creg = is.creg;
  memory = is.memory;
  error = same;
  stopped = is.stopped;
  to_come = is.to_come;
  sent = is.sent;
  traced = is.traced;
}

pub with_memory : (site : Site) (m : Machine) (s : State) (blocks : Blocks) (memory : Memory) → MatchStates site m s
    → Agrees site blocks memory → MatchStates site (record m { blocks = blocks }) (record s { memory = memory })
with_memory site m s blocks memory is agrees = record {
  code = is.code;
  sizes = is.sizes;
  place = is.place;
  oreg = is.oreg;
  wptr = is.wptr;
  areg = is.areg;
  breg = is.breg;
  creg = is.creg;
  memory = agrees;
  error = is.error;
  stopped = is.stopped;
  to_come = is.to_come;
  sent = is.sent;
  traced = is.traced;
}

pub with_place : (site : Site) (m : Machine) (s : State) (place : ℕ) (iptr : ℤ) → MatchStates site m s
    → iptr ≡ pos (slice_index site.addresses place)
    → MatchStates site (record m { place = place }) (record s { iptr = iptr })
with_place site m s place iptr is there = record {
  code = is.code;
  sizes = is.sizes;
  place = there;
  oreg = is.oreg;
  wptr = is.wptr;
  areg = is.areg;
  breg = is.breg;
  creg = is.creg;
  memory = is.memory;
  error = is.error;
  stopped = is.stopped;
  to_come = is.to_come;
  sent = is.sent;
  traced = is.traced;
}

-- ---- items

pub is_item-self : (i : Item) → is_item i i ≡ true
is_item-self i = rw (eq-eqb (sort_of i) (sort_of i) refl) (eq-eqb (number_of i) (number_of i) refl)

pub same_item : (one other : Item) → is_item one other ≡ true → one ≡ other
same_item (Variable x) (Variable y) e = let same : x ≡ y = grind (arith, nat_tests) in ap Variable same
same_item (Temporary x) (Temporary y) e = let same : x ≡ y = grind (arith, nat_tests) in ap Temporary same
same_item (Constant x) (Constant y) e = let same : x ≡ y = grind (arith, nat_tests) in ap Constant same
same_item (Array x) (Array y) e = let same : x ≡ y = grind (arith, nat_tests) in ap Array same
same_item Zeros Zeros e = refl
same_item one other e = cc

-- ---- reads

module _ (image : ImageValue) (site : Site) (lies : LiesIn image site) where
  -- a byte that an item has lies below 2 ^ 32
  pub low : (item : Item) (k : ℕ) → k < site.sizes item → base_of site item + k < 2 ^ 32
  low item k h =
      let there = lies.inside item (omega (arith, h)) in
      omega (arith, h, there.1, lies.few)

  pub bytes_read : (blocks : Blocks) (memory : Memory) (item : Item) (n at a : ℕ) (bytes : List ℕ) → Agrees site blocks memory
      → a ≡ base_of site item + at → at + n ≤ site.sizes item → bytes_from memory a n ≡ Some bytes
      → bytes ≡ bytes_at blocks item at n
  unfolding bytes_from bytes_at
  bytes_read blocks memory item zero at a bytes agrees there room is = sym (same_Some _ _ is)
  bytes_read blocks memory item (suc n) at a bytes agrees there room is =
      by_first (λ rest. bytes_read blocks memory item n (at + 1) (a + 1) rest agrees (omega (arith, there)) (omega (arith, room))) (memory a) refl is
    where
      by_rest : ((rest : List ℕ) → bytes_from memory (a + 1) n ≡ Some rest → rest ≡ bytes_at blocks item (at + 1) n)
          → (b : ℕ) → b ≡ blocks item at → (o : Option (List ℕ)) → bytes_from memory (a + 1) n ≡ o
          → (o >>= λ rest. Some (b ∷ rest)) ≡ Some bytes → bytes ≡ blocks item at ∷ bytes_at blocks item (at + 1) n
      by_rest go b byte None e is' = absurd cc
      by_rest go b byte (Some rest) e is' = sym (same_Some _ _ is') ∙ rw byte (ap (λ r. blocks item at ∷ r) (go rest e))

      by_first : ((rest : List ℕ) → bytes_from memory (a + 1) n ≡ Some rest → rest ≡ bytes_at blocks item (at + 1) n)
          → (o : Option ℕ) → memory a ≡ o → (o >>= λ b. bytes_from memory (a + 1) n >>= λ rest. Some (b ∷ rest)) ≡ Some bytes
          → bytes ≡ blocks item at ∷ bytes_at blocks item (at + 1) n
      by_first go None e is' = absurd cc
      by_first go (Some b) e is' =
          by_rest go b (agrees item at b (omega (arith, room)) (ap memory (sym there) ∙ e)) (bytes_from memory (a + 1) n) refl is'

  four : {a a' b b' c c' d d' : ℕ} → a ≡ a' → b ≡ b' → c ≡ c' → d ≡ d'
      → from_le_bytes w32 (a ∷ b ∷ c ∷ d ∷ []) ≡ from_le_bytes w32 (a' ∷ b' ∷ c' ∷ d' ∷ [])
  four p q r s = rw p (rw q (rw r (rw s refl)))

  pub word_read : (blocks : Blocks) (memory : Memory) (item : Item) (at a word : ℕ) → Agrees site blocks memory
      → a ≡ base_of site item + at → at + 4 ≤ site.sizes item → word_from memory a ≡ Some word → word ≡ word_at blocks item at
  unfolding word_from word_at bytes_at
  word_read blocks memory item at a word agrees there room is =
      by_byte0 (memory a) refl (memory (a + 1)) refl (memory (a + 2)) refl (memory (a + 3)) refl is
    where
      byte : (k j b : ℕ) → k < site.sizes item → j ≡ base_of site item + k → memory j ≡ Some b → b ≡ blocks item k
      byte k j b h e found = agrees item k b h (ap memory (sym e) ∙ found)

      by_byte0 : (o0 : Option ℕ) → memory a ≡ o0 → (o1 : Option ℕ) → memory (a + 1) ≡ o1 → (o2 : Option ℕ) → memory (a + 2) ≡ o2
          → (o3 : Option ℕ) → memory (a + 3) ≡ o3
          → (o0 >>= λ b0. o1 >>= λ b1. o2 >>= λ b2. o3 >>= λ b3. Some (from_le_bytes w32 (b0 ∷ b1 ∷ b2 ∷ b3 ∷ []))) ≡ Some word
          → word ≡ from_le_bytes w32 (blocks item at ∷ blocks item (at + 1) ∷ blocks item (at + 1 + 1) ∷ blocks item (at + 1 + 1 + 1) ∷ [])
      by_byte0 None e0 o1 e1 o2 e2 o3 e3 is' = absurd cc
      by_byte0 (Some b0) e0 None e1 o2 e2 o3 e3 is' = absurd cc
      by_byte0 (Some b0) e0 (Some b1) e1 None e2 o3 e3 is' = absurd cc
      by_byte0 (Some b0) e0 (Some b1) e1 (Some b2) e2 None e3 is' = absurd cc
      by_byte0 (Some b0) e0 (Some b1) e1 (Some b2) e2 (Some b3) e3 is' =
          sym (same_Some _ _ is')
          ∙ four (byte at a b0 (omega (arith, room)) there e0) (byte (at + 1) (a + 1) b1 (omega (arith, room)) (omega (arith, there)) e1)
          (byte (at + 1 + 1) (a + 2) b2 (omega (arith, room)) (omega (arith, there)) e2)
          (byte (at + 1 + 1 + 1) (a + 3) b3 (omega (arith, room)) (omega (arith, there)) e3)

  -- ---- writes

  -- less is defined
  pub agrees_less : (blocks : Blocks) (memory less : Memory) → Agrees site blocks memory
      → ((x byte : ℕ) → less x ≡ Some byte → memory x ≡ Some byte) → Agrees site blocks less
  agrees_less blocks memory less agrees only item k byte h is = agrees item k byte h (only _ byte is)

  -- which of both tests hold
  written_test : (item other : Item) (at k n : ℕ) → k < site.sizes other → at + n ≤ site.sizes item
      → base_of site item + at ≤ base_of site other + k → base_of site other + k < base_of site item + at + n
      → (item ≡ other) × (at ≤ k) × (k < at + n)
  written_test item other at k n h room from to =
      let i = base_of site other + k - base_of site item in
      let same : item ≡ other = lies.apart item other i k (omega (arith, from, to, room)) h (omega (arith, from)) in
      let base : base_of site item ≡ base_of site other = ap (base_of site) same in
      (same, omega (arith, base, from), omega (arith, base, to))

  -- bytes of an item are written
  pub agrees_bytes : (blocks : Blocks) (memory : Memory) (item : Item) (at a : ℕ) (bytes : List ℕ) → Agrees site blocks memory
      → a ≡ (base_of site item + at) % 2 ^ 32 → at + length bytes ≤ site.sizes item
      → Agrees site (with_bytes item at bytes blocks) (with_bytes_at memory a bytes)
  unfolding with_bytes with_bytes_at
  agrees_bytes blocks memory item at a bytes agrees there room other k byte h is =
      by_some (cases_lt 0 (length bytes))
    where
      cells : List (Option ℕ)
      cells = map Some bytes

      long : length cells ≡ length bytes
      long = length-map bytes Some

      x : ℕ
      x = base_of site other + k

      outside : (nat_le at k && nat_lt k (at + length bytes) ≡ false) ⊎ (is_item item other ≡ false) → memory x ≡ Some byte
          → byte ≡ (if is_item item other && nat_le at k && nat_lt k (at + length bytes) then slice_index bytes (k - at) else blocks other k)
      outside (inl e) found = by_item (is_item item other)
        where
          by_item : (b : Bool) → byte ≡ (if b && nat_le at k && nat_lt k (at + length bytes) then slice_index bytes (k - at) else blocks other k)
          by_item false = agrees other k byte h found
          by_item true = rw e (agrees other k byte h found)
      outside (inr e) found = rw e (agrees other k byte h found)

      -- bytes of the item itself that lie outside
      apart : ((is_item item other ≡ true) → (k < at) ⊎ (at + length bytes ≤ k))
          → (nat_le at k && nat_lt k (at + length bytes) ≡ false) ⊎ (is_item item other ≡ false)
      apart off = by_item (is_item item other) refl
        where
          by_side : (k < at) ⊎ (at + length bytes ≤ k) → nat_le at k && nat_lt k (at + length bytes) ≡ false
          by_side (inl side) = grind (arith, nat_tests)
          by_side (inr side) = grind (arith, nat_tests)

          by_item : (b : Bool) → is_item item other ≡ b
              → (nat_le at k && nat_lt k (at + length bytes) ≡ false) ⊎ (is_item item other ≡ false)
          by_item false e = inr e
          by_item true e = inl (by_side (off e))

      by_place : a ≡ base_of site item + at → (x < a) ⊎ (a ≤ x) → (x < a + length cells) ⊎ (a + length cells ≤ x)
          → byte ≡ (if is_item item other && nat_le at k && nat_lt k (at + length bytes) then slice_index bytes (k - at) else blocks other k)
      by_place start (inl below) side =
          outside (apart (λ e. let base = ap (base_of site) (same_item item other e) in inl (omega (arith, base, start, below))))
          (sym (cell_below memory a cells x below) ∙ is)
      by_place start (inr from) (inr above) =
          outside (apart (λ e. let base = ap (base_of site) (same_item item other e) in inr (omega (arith, base, start, above, long))))
          (sym (cell_above memory a cells x above) ∙ is)
      by_place start (inr from) (inl to) =
          let there = written_test item other at k (length bytes) h room (omega (arith, start, from)) (omega (arith, start, to, long)) in
          let base = ap (base_of site) there.0 in
          let same : is_item item other ≡ true = ap (is_item item) (sym there.0) ∙ is_item-self item in
          let first : nat_le at k ≡ true = le-leb _ _ there.1 in
          let last : nat_lt k (at + length bytes) ≡ true = grind (arith, nat_tests) in
          let offset : x - a ≡ k - at = omega (arith, base, start) in
          let found : slice_index_or cells (x - a) None ≡ Some byte = sym (cell_in memory a cells x from to) ∙ is in
          let read : slice_index_or cells (k - at) None ≡ Some (slice_index_or bytes (k - at) 0) =
          get_or-map Some bytes (k - at) 0 None (omega (arith, there.1, there.2)) in
          rw same (rw first (rw last (same_Some _ _ (sym found ∙ ap (λ j. slice_index_or cells j None) offset ∙ read))))

      by_some : (0 < length bytes) ⊎ (length bytes ≤ 0)
          → byte ≡ (if is_item item other && nat_le at k && nat_lt k (at + length bytes) then slice_index bytes (k - at) else blocks other k)
      by_some (inl some) =
          let below : base_of site item + at < 2 ^ 32 = low item at (omega (arith, some, room)) in
          by_place (omega (arith, there, below)) (cases_lt x a) (cases_lt x (a + length cells))
      by_some (inr none) =
          outside (inl (grind (arith, nat_tests, none))) (by_side (cases_lt x a))
        where
          by_side : (x < a) ⊎ (a ≤ x) → memory x ≡ Some byte
          by_side (inl below) = sym (cell_below memory a cells x below) ∙ is
          by_side (inr from) = sym (cell_above memory a cells x (omega (arith, from, none, long))) ∙ is

  pub agrees_word : (blocks : Blocks) (memory : Memory) (item : Item) (at a word : ℕ) → Agrees site blocks memory
      → a ≡ (base_of site item + at) % 2 ^ 32 → at + 4 ≤ site.sizes item
      → Agrees site (with_word item at word blocks) (with_word_at memory a word)
  unfolding with_word with_word_at
  agrees_word blocks memory item at a word agrees there room =
      agrees_bytes blocks memory item at a (to_le_bytes w32 word) agrees there room

  none_in : (n k : ℕ) → slice_index_or (replicate {A = Option ℕ} n None) k None ≡ None
  none_in zero k = refl
  none_in (suc n) zero = refl
  none_in (suc n) (suc k) = none_in n k

  -- bytes become undefined
  pub agrees_undefined : (blocks : Blocks) (memory : Memory) (a n : ℕ) → Agrees site blocks memory
      → Agrees site blocks (undefined memory a n)
  unfolding undefined
  agrees_undefined blocks memory a n agrees = agrees_less blocks memory (with_cells memory a (replicate n None)) agrees only
    where
      only : (x byte : ℕ) → with_cells memory a (replicate n None) x ≡ Some byte → memory x ≡ Some byte
      only x byte is = by_side (cases_lt x a) (cases_lt x (a + length (replicate {A = Option ℕ} n None)))
        where
          by_side : (x < a) ⊎ (a ≤ x) → (x < a + length (replicate {A = Option ℕ} n None)) ⊎ (a + length (replicate {A = Option ℕ} n None) ≤ x)
              → memory x ≡ Some byte
          by_side (inl below) side = sym (cell_below memory a (replicate n None) x below) ∙ is
          by_side (inr from) (inr above) = sym (cell_above memory a (replicate n None) x above) ∙ is
          by_side (inr from) (inl to) =
              let none = sym (none_in n (x - a)) ∙ sym (cell_in memory a (replicate n None) x from to) ∙ is in absurd cc
