-- Elements of arrays in machines.
use Rattle.std.proofs.Common.{◌≡◌, ◌+◌, ◌*◌, ◌/◌, ◌%◌, ◌≤◌, ◌<◌, [], ◌∷◌, ℕ, List, length, Some, false, refl, ap, sym, subst, ◌∙◌, arith, w32}
use Rattle.std.specs.Prelude.{slice_index, pos, ◌||◌}
use Rattle.std.specs.Prelude.{ℤ, ◌^◌}
use Rattle.std.proofs.lemmas.Nat.{from_le_bytes-to_le_bytes_4}
use Rattle.std.specs.Int.{from_le_bytes}
use Rattle.std.proofs.Math.Bool.{or-false}
use Rattle.std.proofs.lemmas.Bool.{le-leb}
use Rattle.tp_decode.specs.declared.instr.Instr.{Instr}
use Rattle.tp_decode.specs.declared.instr.Instr.TheVariants.{Ldnl, Lb, Wsub, Bsub}
use Rattle.tpw_occam_core.specs.declared.kind.Kind.{Kind}
use Rattle.tpw_occam_core.specs.declared.kind.Kind.TheVariants.{Word, Byte}
use Rattle.tpw_occam_core.specs.Arithmetic.{pure}
use Rattle.tpw_occam_core.specs.Arrays.{size, element}
use Rattle.tpw_occam_symbolic.specs.declared.items.Item.{Item}
use Rattle.tpw_occam_symbolic.specs.declared.items.Item.TheVariants.{Array, Variable}
use Rattle.tpw_occam_symbolic.specs.declared.code.Step.TheVariants.{Plain, Load, Pointer}
use Rattle.tpw_occam_symbolic.specs.Code.{Lines, followed_by, line_of, place_behind}
use Rattle.tpw_occam_symbolic.specs.Blocks.{bytes_at, word_at}
use Rattle.tpw_occam_symbolic.specs.Symbolic.{Machine, effect, performed, at_place, number, address, push, set_areg, replace_pair}
use Rattle.tpw_occam_symbolic.specs.Leading.{Does, HasArray, HasWord, word_bytes}
use Rattle.tpw_occam_expressions.specs.Values.{HasNumber, Replaces, PushesAlone, PushesOver, PushesAddress, HasAddress, IsAtElement, scaled}
use Rattle.tpw_occam_symbolic.proofs.Leading.{does_step, does_served, does_both, does_less}

four : {a a' b b' c c' d d' : ℕ} → a ≡ a' → b ≡ b' → c ≡ c' → d ≡ d'
    → from_le_bytes w32 (a ∷ b ∷ c ∷ d ∷ []) ≡ from_le_bytes w32 (a' ∷ b' ∷ c' ∷ d' ∷ [])
four p q r s = rw p (rw q (rw r (rw s refl)))

-- a word of an array
pub word_read : (m : Machine) (a : ℕ) (bytes : List ℕ) (i at : ℕ) → at ≡ 4 * i → i < length bytes / 4 → HasArray a bytes m
    → word_at m.blocks (Array a) at ≡ element Word bytes i
unfolding word_at bytes_at
word_read m a bytes i at is h has =
    four (has at (omega arith) ∙ ap (slice_index bytes) is) (has (at + 1) (omega arith) ∙ ap (slice_index bytes) (omega arith))
    (has (at + 1 + 1) (omega arith) ∙ ap (slice_index bytes) (omega arith)) (has (at + 1 + 1 + 1) (omega arith) ∙ ap (slice_index bytes) (omega arith))

-- Areg, the address of an element, becomes the element
load_word : (m : Machine) (a : ℕ) (bytes : List ℕ) (i : ℕ) → i < size Word bytes → IsAtElement Word a bytes i m
    → effect (Ldnl (pos 0)) m ≡ Some (set_areg (number (element Word bytes i)) m)
unfolding effect
load_word m a bytes i h at =
    let fits : scaled Word i + 4 * 0 + 4 ≤ m.sizes (Array a) = omega (arith, at.room) in
    rw at.areg (rw (le-leb _ _ fits) (ap (λ w. Some (set_areg (number w) m)) (word_read m a bytes i _ (omega arith) h at.has)))

load_byte : (m : Machine) (a : ℕ) (bytes : List ℕ) (i : ℕ) → i < size Byte bytes → IsAtElement Byte a bytes i m
    → effect Lb m ≡ Some (set_areg (number (element Byte bytes i)) m)
unfolding effect
load_byte m a bytes i h at =
    let fits : scaled Byte i + 1 ≤ m.sizes (Array a) = omega (arith, at.room) in
    rw at.areg (rw (le-leb _ _ fits) (ap (λ w. Some (set_areg (number w) m)) (at.has i h)))

pub replaces_set : (w p : ℕ) (m end : Machine) → end ≡ at_place p (set_areg (number w) m) → Replaces 1 (pure w) m end
replaces_set w p m end is = record {
  areg = ap (λ x. x.areg) is;
  breg = λ h. ap (λ x. x.breg) is;
  creg = λ h. ap (λ x. x.creg) is;
  error = ap (λ x. x.error) is ∙ sym (or-false m.error);
  blocks = ap (λ x. x.blocks) is;
  to_come = ap (λ x. x.to_come) is;
  sent = ap (λ x. x.sent) is;
  traced = ap (λ x. x.traced) is;
}

pub does_load_word : (arrays : List ℕ) (old new : Lines) (source a : ℕ) (bytes : List ℕ) (i : ℕ)
    → new ≡ followed_by old (line_of source (Plain (Ldnl (pos 0))) ∷ []) → i < size Word bytes
    → Does arrays old new (IsAtElement Word a bytes i) (Replaces 1 (pure (element Word bytes i)))
unfolding performed
does_load_word arrays old new source a bytes i is h =
    does_less arrays old new _ _ _ _
    (does_step arrays old new source (Plain (Ldnl (pos 0))) (IsAtElement Word a bytes i) (set_areg (number (element Word bytes i))) is
    (λ m at served. load_word (at_place (m.place + 1) m) a bytes i h (record { areg = at.areg; has = at.has; room = at.room }))
    (λ m. refl) (λ m. refl) (λ m. refl))
    (λ m said. said) (λ m end said after. replaces_set (element Word bytes i) (place_behind new) m end after)

pub does_load_byte : (arrays : List ℕ) (old new : Lines) (source a : ℕ) (bytes : List ℕ) (i : ℕ)
    → new ≡ followed_by old (line_of source (Plain Lb) ∷ []) → i < size Byte bytes
    → Does arrays old new (IsAtElement Byte a bytes i) (Replaces 1 (pure (element Byte bytes i)))
unfolding performed
does_load_byte arrays old new source a bytes i is h =
    does_less arrays old new _ _ _ _
    (does_step arrays old new source (Plain Lb) (IsAtElement Byte a bytes i) (set_areg (number (element Byte bytes i))) is
    (λ m at served. load_byte (at_place (m.place + 1) m) a bytes i h (record { areg = at.areg; has = at.has; room = at.room }))
    (λ m. refl) (λ m. refl) (λ m. refl))
    (λ m said. said) (λ m end said after. replaces_set (element Byte bytes i) (place_behind new) m end after)

pub pushes_alone : (w p : ℕ) (m end : Machine) → end ≡ at_place p (push (number w) m) → PushesAlone (pure w) m end
pushes_alone w p m end is = record {
  pushed = record {
    areg = ap (λ x. x.areg) is;
    breg = λ h. ap (λ x. x.breg) is;
    creg = λ h. ap (λ x. x.creg) is;
    error = ap (λ x. x.error) is ∙ sym (or-false m.error);
  };
  blocks = ap (λ x. x.blocks) is;
  to_come = ap (λ x. x.to_come) is;
  sent = ap (λ x. x.sent) is;
  traced = ap (λ x. x.traced) is;
}

-- this many bytes have room in whole words
pub whole_words : (long bytes room : ℕ) → long ≡ bytes → word_bytes bytes ≤ room → long ≤ room
whole_words long bytes room is h = omega arith

room_of : (arrays : List ℕ) (a : ℕ) (bytes : List ℕ) (m middle : Machine) → length bytes ≡ slice_index arrays a
    → word_bytes (slice_index arrays a) ≤ m.sizes (Array a) → middle.sizes (Array a) ≡ m.sizes (Array a)
    → length bytes ≤ middle.sizes (Array a)
room_of arrays a bytes m middle long h same = rw same (whole_words _ _ _ long h)

-- ---- addresses

abbrev pub indexing : Kind → Instr
indexing Word = Wsub
indexing Byte = Bsub

has_address : (kind : Kind) (arrays : List ℕ) (a i p q : ℕ) (m middle end : Machine)
    → middle ≡ at_place p (push (address (Array a) 0) m)
    → end ≡ at_place q (replace_pair (address (Array a) (scaled kind i)) middle)
    → word_bytes (slice_index arrays a) ≤ m.sizes (Array a)
    → HasAddress arrays a (scaled kind i) m end
has_address kind arrays a i p q m middle end one two served =
    let both : end ≡ at_place q (replace_pair (address (Array a) (scaled kind i)) (push (address (Array a) 0) m)) =
    two ∙ ap (λ x. at_place q (replace_pair (address (Array a) (scaled kind i)) x)) one in
    record {
      areg = ap (λ x. x.areg) both;
      breg = ap (λ x. x.breg) both;
      error = ap (λ x. x.error) both;
      blocks = ap (λ x. x.blocks) both;
      to_come = ap (λ x. x.to_come) both;
      sent = ap (λ x. x.sent) both;
      traced = ap (λ x. x.traced) both;
      room = subst (λ n. word_bytes (slice_index arrays a) ≤ n) (sym (ap (λ x. x.sizes (Array a)) both)) served;
    }

-- an array's address, and one of its elements by Breg
pub does_index : (kind : Kind) (arrays : List ℕ) (old between new : Lines) (source a i : ℕ)
    → between ≡ followed_by old (line_of source (Pointer (Array a) 0) ∷ [])
    → new ≡ followed_by between (line_of source (Plain (indexing kind)) ∷ [])
    → Does arrays old new (HasNumber i) (HasAddress arrays a (scaled kind i))
unfolding performed effect
does_index Word arrays old between new source a i one two =
    does_both arrays old between new _ _ _ _ _
    (does_served arrays old between source (Pointer (Array a) 0) (HasNumber i) (push (address (Array a) 0)) one
    (λ m said served. refl) (λ m. refl) (λ m. refl) (λ m. refl))
    (does_step arrays between new source (Plain Wsub) (λ m. (m.areg ≡ address (Array a) 0) × (m.breg ≡ number i))
    (replace_pair (address (Array a) (4 * i))) two
    (λ m said served. rw said.0 (rw said.1 (ap (λ n. Some (replace_pair (address (Array a) n) (at_place (m.place + 1) m))) (omega arith)))) (λ m. refl) (λ m. refl) (λ m. refl))
    (λ m middle said after. (ap (λ x. x.areg) after.0, ap (λ x. x.breg) after.0 ∙ said))
    (λ m middle end said after after2.
    has_address Word arrays a i (place_behind between) (place_behind new) m middle end after.0 after2 after.1)
does_index Byte arrays old between new source a i one two =
    does_both arrays old between new _ _ _ _ _
    (does_served arrays old between source (Pointer (Array a) 0) (HasNumber i) (push (address (Array a) 0)) one
    (λ m said served. refl) (λ m. refl) (λ m. refl) (λ m. refl))
    (does_step arrays between new source (Plain Bsub) (λ m. (m.areg ≡ address (Array a) 0) × (m.breg ≡ number i))
    (replace_pair (address (Array a) i)) two
    (λ m said served. rw said.0 (rw said.1 (ap (λ n. Some (replace_pair (address (Array a) n) (at_place (m.place + 1) m))) (omega arith)))) (λ m. refl) (λ m. refl) (λ m. refl))
    (λ m middle said after. (ap (λ x. x.areg) after.0, ap (λ x. x.breg) after.0 ∙ said))
    (λ m middle end said after after2.
    has_address Byte arrays a i (place_behind between) (place_behind new) m middle end after.0 after2 after.1)

-- ---- elements

-- a word of an array, pushed
pub does_push_word : (arrays : List ℕ) (old new : Lines) (source a : ℕ) (bytes : List ℕ) (c : ℕ)
    → new ≡ followed_by old (line_of source (Load (Array a) c) ∷ []) → c < size Word bytes
    → Does arrays old new (HasArray a bytes) (PushesAlone (pure (element Word bytes c)))
unfolding performed
does_push_word arrays old new source a bytes c is h =
    does_less arrays old new _ _ _ _
    (does_step arrays old new source (Load (Array a) c) (HasArray a bytes) (push (number (element Word bytes c))) is
    (λ m has served. rw (le-leb _ _ served) (ap (λ w. Some (push (number w) (at_place (m.place + 1) m))) (word_read m a bytes c (4 * c) refl h has)))
    (λ m. refl) (λ m. refl) (λ m. refl))
    (λ m said. said) (λ m end said after. pushes_alone (element Word bytes c) (place_behind new) m end after)

-- a byte of an array, pushed by the address of its word, of which it is the first
pub does_push_byte : (arrays : List ℕ) (old between new : Lines) (source a : ℕ) (bytes : List ℕ) (c : ℕ)
    → between ≡ followed_by old (line_of source (Pointer (Array a) (c / 4)) ∷ [])
    → new ≡ followed_by between (line_of source (Plain Lb) ∷ []) → length bytes ≡ slice_index arrays a → c < size Byte bytes → c % 4 ≡ 0
    → Does arrays old new (HasArray a bytes) (PushesAlone (pure (element Byte bytes c)))
unfolding performed
does_push_byte arrays old between new source a bytes c one two long h whole =
    does_both arrays old between new _ _ _ _ _
    (does_served arrays old between source (Pointer (Array a) (c / 4)) (HasArray a bytes) (push (address (Array a) (4 * (c / 4)))) one
    (λ m said served. refl) (λ m. refl) (λ m. refl) (λ m. refl))
    (does_load_byte arrays between new source a bytes c two h)
    (λ m middle said after. record {
      areg = ap (λ x. x.areg) after.0 ∙ ap (address (Array a)) (omega arith);
      has = λ i less. ap (λ x. x.blocks (Array a) i) after.0 ∙ said i less;
      room = room_of arrays a bytes m middle long after.1 (ap (λ x. x.sizes (Array a)) after.0);
    })
    (λ m middle end said after after2. record {
      pushed = record {
        areg = after2.areg;
        breg = λ less. after2.breg (omega arith) ∙ ap (λ x. x.breg) after.0;
        creg = λ less. after2.creg (omega arith) ∙ ap (λ x. x.creg) after.0;
        error = after2.error ∙ ap (λ x. x.error || false) after.0;
      };
      blocks = after2.blocks ∙ ap (λ x. x.blocks) after.0;
      to_come = after2.to_come ∙ ap (λ x. x.to_come) after.0;
      sent = after2.sent ∙ ap (λ x. x.sent) after.0;
      traced = after2.traced ∙ ap (λ x. x.traced) after.0;
    })

-- an element whose number is in Areg
pub does_element : (kind : Kind) (arrays : List ℕ) (old between new : Lines) (a : ℕ) (bytes : List ℕ) (i : ℕ)
    → length bytes ≡ slice_index arrays a → i < size kind bytes
    → Does arrays old between (HasNumber i) (HasAddress arrays a (scaled kind i))
    → Does arrays between new (IsAtElement kind a bytes i) (Replaces 1 (pure (element kind bytes i)))
    → Does arrays old new (λ m. HasNumber i m × HasArray a bytes m) (Replaces 2 (pure (element kind bytes i)))
does_element kind arrays old between new a bytes i long h one two =
    does_both arrays old between new _ _ _ _ _
    (does_less arrays old between _ _ (λ m. HasNumber i m × HasArray a bytes m) _ one (λ m said. said.0) (λ m end said after. after))
    two
    (λ m middle said after. record {
      areg = after.areg;
      has = λ k less. ap (λ b. b (Array a) k) after.blocks ∙ said.1 k less;
      room = whole_words (length bytes) (slice_index arrays a) (middle.sizes (Array a)) long after.room;
    })
    (λ m middle end said after after2. record {
      areg = after2.areg;
      breg = λ less. after2.breg (omega arith) ∙ after.breg;
      creg = λ less. absurd (omega arith);
      error = after2.error ∙ ap (λ e. e || false) after.error;
      blocks = after2.blocks ∙ after.blocks;
      to_come = after2.to_come ∙ after.to_come;
      sent = after2.sent ∙ after.sent;
      traced = after2.traced ∙ after.traced;
    })

-- ---- bytes of variables

first_byte : (m : Machine) (i : Item) (word : ℕ) → word < 256 → HasWord i word m → m.blocks i 0 ≡ word
unfolding bytes_at
first_byte m i word h is = ap (λ l. slice_index l 0) is ∙ omega arith

-- the byte of a variable, by its address
pub does_push_variable : (arrays : List ℕ) (old between new : Lines) (source x word : ℕ)
    → between ≡ followed_by old (line_of source (Pointer (Variable x) 0) ∷ [])
    → new ≡ followed_by between (line_of source (Plain Lb) ∷ []) → word < 256
    → Does arrays old new (HasWord (Variable x) word) (PushesAlone (pure word))
unfolding performed effect
does_push_variable arrays old between new source x word one two h =
    does_both arrays old between new _ _ _ _ _
    (does_served arrays old between source (Pointer (Variable x) 0) (HasWord (Variable x) word) (push (address (Variable x) 0)) one
    (λ m said served. refl) (λ m. refl) (λ m. refl) (λ m. refl))
    (does_step arrays between new source (Plain Lb)
    (λ m. (m.areg ≡ address (Variable x) 0) × (m.blocks (Variable x) 0 ≡ word) × (4 ≤ m.sizes (Variable x)))
    (set_areg (number word)) two
    (λ m said served. let fits : 0 + 1 ≤ m.sizes (Variable x) = omega (arith, said.2) in
    rw said.0 (rw (le-leb _ _ fits) (ap (λ w. Some (set_areg (number w) (at_place (m.place + 1) m))) said.1)))
    (λ m. refl) (λ m. refl) (λ m. refl))
    (λ m middle said after. (
      ap (λ e. e.areg) after.0,
      ap (λ e. e.blocks (Variable x) 0) after.0 ∙ first_byte m (Variable x) word h said,
      subst (λ n. 4 ≤ n) (sym (ap (λ e. e.sizes (Variable x)) after.0)) after.1,
    ))
    (λ m middle end said after after2.
    pushes_alone word (place_behind new) m end (after2 ∙ ap (λ e. at_place (place_behind new) (set_areg (number word) e)) after.0))

-- ---- elements at an offset from a variable

-- the word at an item's front
word_held : (m : Machine) (i : Item) (v : ℕ) → v < 2 ^ 32 → HasWord i v m → word_at m.blocks i 0 ≡ v
unfolding word_at
word_held m i v h is = ap (from_le_bytes w32) is ∙ from_le_bytes-to_le_bytes_4 v h

pub does_base : (arrays : List ℕ) (old between new : Lines) (source x a v : ℕ) → v < 2 ^ 32
    → between ≡ followed_by old (line_of source (Load (Variable x) 0) ∷ [])
    → Does arrays between new (HasNumber v) (HasAddress arrays a (4 * v))
    → Does arrays old new (HasWord (Variable x) v) (PushesAddress arrays a (4 * v))
unfolding performed
does_base arrays old between new source x a v small is indexes =
    does_both arrays old between new _ _ _ _ _
    (does_step arrays old between source (Load (Variable x) 0) (HasWord (Variable x) v) (push (number v)) is
    (λ m has served. rw (le-leb 4 _ served) (ap (λ w. Some (push (number w) (at_place (m.place + 1) m))) (word_held m (Variable x) v small has)))
    (λ m. refl) (λ m. refl) (λ m. refl))
    indexes
    (λ m middle said at. ap (λ e. e.areg) at)
    (λ m middle end said at after. record {
      areg = after.areg;
      breg = after.breg ∙ ap (λ e. e.breg) at;
      error = after.error ∙ ap (λ e. e.error) at;
      blocks = after.blocks ∙ ap (λ e. e.blocks) at;
      to_come = after.to_come ∙ ap (λ e. e.to_come) at;
      sent = after.sent ∙ ap (λ e. e.sent) at;
      traced = after.traced ∙ ap (λ e. e.traced) at;
      room = after.room;
    })

load_offset : (m : Machine) (a : ℕ) (bytes : List ℕ) (v c : ℕ) (n : ℤ) → n ≡ pos c → v + c < size Word bytes → m.areg ≡ address (Array a) (4 * v)
    → HasArray a bytes m → length bytes ≤ m.sizes (Array a)
    → effect (Ldnl n) m ≡ Some (set_areg (number (element Word bytes (v + c))) m)
unfolding effect
load_offset m a bytes v c n is h at has room =
    let fits : 4 * v + 4 * c + 4 ≤ m.sizes (Array a) = omega (arith, room, h) in
    rw is (rw at (rw (le-leb _ _ fits) (ap (λ w. Some (set_areg (number w) m)) (word_read m a bytes (v + c) _ (omega arith) h has))))

pub does_offset_element : (arrays : List ℕ) (old between new : Lines) (source x a : ℕ) (bytes : List ℕ) (v c : ℕ) (n : ℤ) → n ≡ pos c
    → length bytes ≡ slice_index arrays a → v + c < size Word bytes
    → Does arrays old between (HasWord (Variable x) v) (PushesAddress arrays a (4 * v))
    → new ≡ followed_by between (line_of source (Plain (Ldnl n)) ∷ [])
    → Does arrays old new (λ m. HasWord (Variable x) v m × HasArray a bytes m) (PushesOver 2 (pure (element Word bytes (v + c))))
unfolding performed
does_offset_element arrays old between new source x a bytes v c n is long h first last =
    does_both arrays old between new _ _ _ _ _
    (does_less arrays old between _ _ (λ m. HasWord (Variable x) v m × HasArray a bytes m) _ first (λ m said. said.0) (λ m end said after. after))
    (does_step arrays between new source (Plain (Ldnl n))
    (λ m. (m.areg ≡ address (Array a) (4 * v)) × HasArray a bytes m × (length bytes ≤ m.sizes (Array a)))
    (set_areg (number (element Word bytes (v + c)))) last
    (λ m said served. load_offset (at_place (m.place + 1) m) a bytes v c n is h said.0 said.1 said.2)
    (λ m. refl) (λ m. refl) (λ m. refl))
    (λ m middle said after. (
      after.areg,
      (λ i less. ap (λ b. b (Array a) i) after.blocks ∙ said.1 i less),
      whole_words (length bytes) (slice_index arrays a) (middle.sizes (Array a)) long after.room,
    ))
    (λ m middle end said after at. record {
      pushed = record {
        areg = ap (λ e. e.areg) at;
        breg = λ less. ap (λ e. e.breg) at ∙ after.breg;
        creg = λ less. absurd (omega (arith, less));
        error = ap (λ e. e.error) at ∙ after.error ∙ sym (or-false m.error);
      };
      blocks = ap (λ e. e.blocks) at ∙ after.blocks;
      to_come = ap (λ e. e.to_come) at ∙ after.to_come;
      sent = ap (λ e. e.sent) at ∙ after.sent;
      traced = ap (λ e. e.traced) at ∙ after.traced;
    })
