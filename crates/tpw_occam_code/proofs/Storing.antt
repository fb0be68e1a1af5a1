-- Stores: what they write, and what a machine then agrees with.
use Rattle.std.proofs.Common.{◌≡◌, ◌⊎◌, inl, inr, ◌+◌, ◌-◌, ◌*◌, ◌%◌, ◌≤◌, ◌<◌, [], ◌∷◌, ℕ, suc, List, length, Some, Bool, false, true, nat_eq, refl, ap, sym, ◌∙◌, arith, w32}
use Rattle.std.specs.Prelude.{slice_index, slice_set, ◌||◌, ◌&&◌, nat_le, nat_lt, if◌then◌else◌, ℤ, pos}
use Rattle.std.specs.Int.{to_le_bytes}
use Rattle.std.proofs.Math.Bool.{or_assoc}
use Rattle.std.proofs.lemmas.Bool.{le-leb, lt-leb, lt-ltb, le-ltb, cases_lt}
use Rattle.std.proofs.lemmas.Bool.Decides.{nat_tests}
use Rattle.tp_decode.specs.declared.instr.Instr.TheVariants.{Stnl, Sb}
use Rattle.tpw_occam_core.specs.declared.kind.Kind.{Kind}
use Rattle.tpw_occam_core.specs.declared.kind.Kind.TheVariants.{Word, Byte}
use Rattle.tpw_occam_core.specs.declared.scope.Entry.{Entry}
use Rattle.tpw_occam_core.specs.Arrays.{size, written, with_element}
use Rattle.tpw_occam_symbolic.specs.declared.items.Item.{Item}
use Rattle.tpw_occam_symbolic.specs.declared.items.Item.TheVariants as item
use Rattle.tpw_occam_symbolic.specs.declared.code.Step.TheVariants.{Plain, Store}
use Rattle.tpw_occam_symbolic.specs.Code.{Lines, followed_by, line_of, place_behind}
use Rattle.tpw_occam_symbolic.specs.Blocks.{Blocks, is_item, with_bytes, with_word}
use Rattle.tpw_occam_symbolic.specs.Symbolic.{Machine, effect, performed, at_place, number, address, pop, pop_two, with_blocks}
use Rattle.tpw_occam_symbolic.specs.Leading.{Does, HasWord}
use Rattle.tpw_occam_expressions.specs.Values.{HasNumber, PushesAddress, scaled}
use Rattle.tpw_occam_expressions.specs.Agreement.{LeavesItems}
use Rattle.tpw_occam_code.specs.Assigning.{element_bytes, Writes, WritesPopped, IsToStore, Stores}
use Rattle.tpw_occam_symbolic.proofs.Leading.{does_step, does_both, does_less}
use Rattle.tpw_occam_symbolic.proofs.Simulation.{is_item-self}
use Rattle.tpw_occam_expressions.proofs.Naming.{slice_same, slice_other, slice_length}

-- ---- steps that store

-- a word in Areg goes to a word of an item
pub does_store : (arrays : List ℕ) (old new : Lines) (source : ℕ) (i : Item) (place word : ℕ)
    → new ≡ followed_by old (line_of source (Store i place) ∷ [])
    → Does arrays old new (HasNumber word) (WritesPopped i (4 * place) (to_le_bytes w32 word))
unfolding performed with_word
does_store arrays old new source i place word is =
    does_less arrays old new _ _ _ _
    (does_step arrays old new source (Store i place) (HasNumber word)
    (λ m. pop (with_blocks (with_bytes i (4 * place) (to_le_bytes w32 word) m.blocks) m)) is
    (λ m areg served. rw areg (rw (le-leb _ _ served) refl)) (λ m. refl) (λ m. refl) (λ m. refl))
    (λ m said. said)
    (λ m end said after. record {
      areg = ap (λ e. e.areg) after;
      breg = ap (λ e. e.breg) after;
      writes = record {
        blocks = ap (λ e. e.blocks) after;
        error = ap (λ e. e.error) after;
        to_come = ap (λ e. e.to_come) after;
        sent = ap (λ e. e.sent) after;
        traced = ap (λ e. e.traced) after;
      };
    })

-- a machine after a store by an address
writes_at : (p : ℕ) (i : Item) (place : ℕ) (bytes : List ℕ) (m end : Machine)
    → end ≡ at_place p (pop_two (with_blocks (with_bytes i place bytes m.blocks) m)) → Writes i place bytes m end
writes_at p i place bytes m end is = record {
  blocks = ap (λ e. e.blocks) is;
  error = ap (λ e. e.error) is;
  to_come = ap (λ e. e.to_come) is;
  sent = ap (λ e. e.sent) is;
  traced = ap (λ e. e.traced) is;
}

-- Breg goes to the word at the address in Areg, or this many words behind it
store_word_at : (m : Machine) (a at place word : ℕ) (c : ℕ) (n : ℤ) → n ≡ pos c → m.areg ≡ address (item.Array a) at → m.breg ≡ number word
    → place ≡ at + 4 * c → place + 4 ≤ m.sizes (item.Array a)
    → effect (Stnl n) m ≡ Some (pop_two (with_blocks (with_bytes (item.Array a) place (to_le_bytes w32 word) m.blocks) m))
unfolding effect with_word
store_word_at m a at place word c n is areg breg same room =
    let fits : at + 4 * c + 4 ≤ m.sizes (item.Array a) = omega (arith, same, room) in
    rw is (rw areg (rw breg (rw (le-leb _ _ fits)
    (ap (λ p. Some (record m { areg = m.creg; breg = number word; blocks = with_bytes (item.Array a) p (to_le_bytes w32 word) m.blocks })) (sym same)))))

store_byte_at : (m : Machine) (a at word : ℕ) → m.areg ≡ address (item.Array a) at → m.breg ≡ number word → at + 1 ≤ m.sizes (item.Array a)
    → effect Sb m ≡ Some (pop_two (with_blocks (with_bytes (item.Array a) at (word % 256 ∷ []) m.blocks) m))
unfolding effect
store_byte_at m a at word areg breg room = rw areg (rw breg (rw (le-leb _ _ room) refl))

pub does_store_word : (arrays bytes : List ℕ) (old new : Lines) (source a i word : ℕ)
    → new ≡ followed_by old (line_of source (Plain (Stnl (pos 0))) ∷ []) → i < size Word bytes
    → Does arrays old new (IsToStore Word a i word (length bytes)) (Writes (item.Array a) (scaled Word i) (element_bytes Word word))
unfolding performed
does_store_word arrays bytes old new source a i word is h =
    does_less arrays old new _ _ _ _
    (does_step arrays old new source (Plain (Stnl (pos 0))) (IsToStore Word a i word (length bytes))
    (λ m. pop_two (with_blocks (with_bytes (item.Array a) (scaled Word i) (to_le_bytes w32 word) m.blocks) m)) is
    (λ m at served. store_word_at (at_place (m.place + 1) m) a (scaled Word i) (scaled Word i) word 0 (pos 0) refl at.areg at.breg (omega arith)
    (let room = at.room in omega (arith, h, room)))
    (λ m. refl) (λ m. refl) (λ m. refl))
    (λ m said. said)
    (λ m end said after. writes_at (place_behind new) (item.Array a) (scaled Word i) (to_le_bytes w32 word) m end after)

pub does_store_byte : (arrays bytes : List ℕ) (old new : Lines) (source a i word : ℕ)
    → new ≡ followed_by old (line_of source (Plain Sb) ∷ []) → i < size Byte bytes
    → Does arrays old new (IsToStore Byte a i word (length bytes)) (Writes (item.Array a) (scaled Byte i) (element_bytes Byte word))
unfolding performed
does_store_byte arrays bytes old new source a i word is h =
    does_less arrays old new _ _ _ _
    (does_step arrays old new source (Plain Sb) (IsToStore Byte a i word (length bytes))
    (λ m. pop_two (with_blocks (with_bytes (item.Array a) (scaled Byte i) (word % 256 ∷ []) m.blocks) m)) is
    (λ m at served. store_byte_at (at_place (m.place + 1) m) a (scaled Byte i) word at.areg at.breg
    (let room = at.room in omega (arith, h, room)))
    (λ m. refl) (λ m. refl) (λ m. refl))
    (λ m said. said)
    (λ m end said after. writes_at (place_behind new) (item.Array a) (scaled Byte i) (word % 256 ∷ []) m end after)

-- a store at an offset from a variable
pub does_store_offset : (arrays bytes : List ℕ) (old between new : Lines) (source x a v c word : ℕ) (n : ℤ) → n ≡ pos c
    → length bytes ≡ slice_index arrays a → v + c < size Word bytes
    → Does arrays old between (HasWord (item.Variable x) v) (PushesAddress arrays a (4 * v))
    → new ≡ followed_by between (line_of source (Plain (Stnl n)) ∷ [])
    → Does arrays old new (λ m. HasWord (item.Variable x) v m × HasNumber word m)
    (Writes (item.Array a) (4 * (v + c)) (to_le_bytes w32 word))
unfolding performed
does_store_offset arrays bytes old between new source x a v c word n is long h first last =
    does_both arrays old between new _ _ _ _ _
    (does_less arrays old between _ _ (λ m. HasWord (item.Variable x) v m × HasNumber word m) _ first (λ m said. said.0) (λ m end said after. after))
    (does_step arrays between new source (Plain (Stnl n))
    (λ m. (m.areg ≡ address (item.Array a) (4 * v)) × (m.breg ≡ number word) × (length bytes ≤ m.sizes (item.Array a)))
    (λ m. pop_two (with_blocks (with_bytes (item.Array a) (4 * (v + c)) (to_le_bytes w32 word) m.blocks) m)) last
    (λ m said served. store_word_at (at_place (m.place + 1) m) a (4 * v) (4 * (v + c)) word c n is said.0 said.1 (omega arith)
    (let room = said.2 in omega (arith, h, room)))
    (λ m. refl) (λ m. refl) (λ m. refl))
    (λ m middle said after. (after.areg, after.breg ∙ said.1, (let room = after.room in omega (arith, long, room))))
    (λ m middle end said after at.
    let w = writes_at (place_behind new) (item.Array a) (4 * (v + c)) (to_le_bytes w32 word) middle end at in
    record {
      blocks = w.blocks ∙ ap (with_bytes (item.Array a) (4 * (v + c)) (to_le_bytes w32 word)) after.blocks;
      error = w.error ∙ after.error;
      to_come = w.to_come ∙ after.to_come;
      sent = w.sent ∙ after.sent;
      traced = w.traced ∙ after.traced;
    })

-- ---- bytes that are written

pub leaves_self : (scope : List Entry) (temporaries : ℕ) (m : Machine) → LeavesItems scope temporaries m m
leaves_self scope temporaries m = record { blocks = λ i at stays. refl; to_come = refl; sent = refl; traced = refl }

with_bytes_same : (i other : Item) (place at : ℕ) (bytes : List ℕ) (one two : Blocks) → one other at ≡ two other at
    → with_bytes i place bytes one other at ≡ with_bytes i place bytes two other at
unfolding with_bytes
with_bytes_same i other place at bytes one two same =
    ap (λ x. if is_item i other && nat_le place at && nat_lt at (place + length bytes) then slice_index bytes (at - place) else x) same

-- what is written once something is in registers
pub writes_stores : (scope : List Entry) (temporaries : ℕ) (i : Item) (place : ℕ) (bytes : List ℕ) (flag : Bool) (m middle end : Machine)
    → LeavesItems scope temporaries m middle → middle.error ≡ (m.error || flag) → Writes i place bytes middle end
    → Stores scope temporaries i place bytes flag m end
writes_stores scope temporaries i place bytes flag m middle end leaves error writes = record {
  blocks = λ other at stays. ap (λ b. b other at) writes.blocks
      ∙ with_bytes_same i other place at bytes middle.blocks m.blocks (leaves.blocks other at stays);
  error = writes.error ∙ error;
  to_come = writes.to_come ∙ leaves.to_come;
  sent = writes.sent ∙ leaves.sent;
  traced = writes.traced ∙ leaves.traced;
}

pub leaves_stores : (scope : List Entry) (temporaries : ℕ) (i : Item) (place : ℕ) (bytes : List ℕ) (f g : Bool) (m middle end : Machine)
    → LeavesItems scope temporaries m middle → middle.error ≡ (m.error || f) → Stores scope temporaries i place bytes g middle end
    → Stores scope temporaries i place bytes (f || g) m end
leaves_stores scope temporaries i place bytes f g m middle end leaves error stores = record {
  blocks = λ other at stays. stores.blocks other at stays
      ∙ with_bytes_same i other place at bytes middle.blocks m.blocks (leaves.blocks other at stays);
  error = stores.error ∙ ap (λ e. e || g) error ∙ or_assoc m.error f g;
  to_come = stores.to_come ∙ leaves.to_come;
  sent = stores.sent ∙ leaves.sent;
  traced = stores.traced ∙ leaves.traced;
}

if_not : (a : Bool) (x y : ℕ) → (if a && false then x else y) ≡ y
if_not true x y = refl
if_not false x y = refl

-- bytes behind those that are written, and before them
pub behind_written : (i other : Item) (place at : ℕ) (bytes : List ℕ) (blocks : Blocks) → place + length bytes ≤ at
    → with_bytes i place bytes blocks other at ≡ blocks other at
unfolding with_bytes
behind_written i other place at bytes blocks h = rw (le-ltb at (place + length bytes) h) (if_not (is_item i other && nat_le place at) _ _)

if_neither : (a b : Bool) (x y : ℕ) → (if a && false && b then x else y) ≡ y
if_neither true b x y = refl
if_neither false b x y = refl

pub before_written : (i other : Item) (place at : ℕ) (bytes : List ℕ) (blocks : Blocks) → at < place
    → with_bytes i place bytes blocks other at ≡ blocks other at
unfolding with_bytes
before_written i other place at bytes blocks h = rw (lt-leb place at h) (if_neither (is_item i other) _ _ _)

pub at_written : (i : Item) (place at : ℕ) (bytes : List ℕ) (blocks : Blocks) → place ≤ at → at < place + length bytes
    → with_bytes i place bytes blocks i at ≡ slice_index bytes (at - place)
unfolding with_bytes
at_written i place at bytes blocks h g = rw (is_item-self i) (rw (le-leb place at h) (rw (lt-ltb at (place + length bytes) g) refl))

-- ---- elements that are written

pub written_length : (bytes : List ℕ) (at : ℕ) (more : List ℕ) → length (written bytes at more) ≡ length bytes
written_length bytes at [] = refl
written_length bytes at (byte ∷ more) = written_length (slice_set bytes at byte) (at + 1) more ∙ slice_length bytes at byte

written_outside : (bytes : List ℕ) (at : ℕ) (more : List ℕ) (j : ℕ) → (j < at) ⊎ (at + length more ≤ j)
    → slice_index (written bytes at more) j ≡ slice_index bytes j
written_outside bytes at [] j h = refl
written_outside bytes at (byte ∷ more) j h =
    written_outside (slice_set bytes at byte) (at + 1) more j (next h) ∙ slice_other bytes at j byte 0 (differs h)
  where
    next : (j < at) ⊎ (at + suc (length more) ≤ j) → (j < at + 1) ⊎ (at + 1 + length more ≤ j)
    next (inl less) = inl (omega (arith, less))
    next (inr more) = inr (omega (arith, more))

    differs : (j < at) ⊎ (at + suc (length more) ≤ j) → nat_eq at j ≡ false
    differs (inl less) = grind (arith, nat_tests)
    differs (inr more) = grind (arith, nat_tests)

written_within : (bytes : List ℕ) (at : ℕ) (more : List ℕ) (j : ℕ) → at ≤ j → j < at + length more → at + length more ≤ length bytes
    → slice_index (written bytes at more) j ≡ slice_index more (j - at)
written_within bytes at [] j h g room = absurd (omega (arith, h, g))
written_within bytes at (byte ∷ more) j h g room = by_place (cases_lt at j) (written_within (slice_set bytes at byte) (at + 1) more j)
  where
    by_place : (at < j) ⊎ (j ≤ at)
        → (at + 1 ≤ j → j < at + 1 + length more → at + 1 + length more ≤ length (slice_set bytes at byte)
        → slice_index (written (slice_set bytes at byte) (at + 1) more) j ≡ slice_index more (j - (at + 1)))
        → slice_index (written (slice_set bytes at byte) (at + 1) more) j ≡ slice_index (byte ∷ more) (j - at)
    by_place (inl less) within =
        let next : suc (j - (at + 1)) ≡ j - at = omega (arith, less) in
        within (omega (arith, less)) (omega (arith, g)) (omega (arith, room, slice_length bytes at byte)) ∙ ap (slice_index (byte ∷ more)) next
    by_place (inr most) within =
        let same : j ≡ at = omega (arith, h, most) in
        let first : 0 ≡ j - at = omega (arith, h, most) in
        written_outside (slice_set bytes at byte) (at + 1) more j (inl (omega (arith, same)))
        ∙ ap (slice_index (slice_set bytes at byte)) same ∙ slice_same bytes at byte 0 (omega (arith, room)) ∙ ap (slice_index (byte ∷ more)) first

pub element_written : (view : Kind) (bytes : List ℕ) (i word : ℕ) → with_element view bytes i word ≡ written bytes (scaled view i) (element_bytes view word)
element_written Word bytes i word = refl
element_written Byte bytes i word = refl

element_room : (view : Kind) (bytes : List ℕ) (i word : ℕ) → i < size view bytes → scaled view i + length (element_bytes view word) ≤ length bytes
element_room Word bytes i word h = omega (arith, h)
element_room Byte bytes i word h = omega (arith, h)

-- an array's item after a store into one of its elements
pub array_written : (a : ℕ) (view : Kind) (bytes : List ℕ) (i word j : ℕ) (blocks : Blocks) → i < size view bytes
    → j < length bytes → blocks (item.Array a) j ≡ slice_index bytes j
    → with_bytes (item.Array a) (scaled view i) (element_bytes view word) blocks (item.Array a) j ≡ slice_index (with_element view bytes i word) j
array_written a view bytes i word j blocks h less has =
    rw (element_written view bytes i word) (by_place (cases_lt j (scaled view i)) (cases_lt j (scaled view i + length more)))
  where
    more : List ℕ
    more = element_bytes view word

    by_place : (j < scaled view i) ⊎ (scaled view i ≤ j) → (j < scaled view i + length more) ⊎ (scaled view i + length more ≤ j)
        → with_bytes (item.Array a) (scaled view i) more blocks (item.Array a) j ≡ slice_index (written bytes (scaled view i) more) j
    by_place (inl before) other =
        before_written (item.Array a) (item.Array a) (scaled view i) j more blocks before ∙ has
        ∙ sym (written_outside bytes (scaled view i) more j (inl before))
    by_place (inr from) (inl within) =
        at_written (item.Array a) (scaled view i) j more blocks from within
        ∙ sym (written_within bytes (scaled view i) more j from within (element_room view bytes i word h))
    by_place (inr from) (inr behind) =
        behind_written (item.Array a) (item.Array a) (scaled view i) j more blocks behind ∙ has
        ∙ sym (written_outside bytes (scaled view i) more j (inr behind))
