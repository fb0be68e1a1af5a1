-- Words that are copied and cleared.
use Rattle.std.proofs.Common.{◌≡◌, ◌⊎◌, inl, inr, ◌+◌, ◌-◌, ◌*◌, ◌≤◌, ◌<◌, [], ◌∷◌, ℕ, zero, suc, List, length, Bool, false, true, min, refl, ap, sym, subst, ◌∙◌, arith, w32}
use Rattle.std.specs.Prelude.{slice_index, slice_get, nat_le, if◌then◌else◌}
use Rattle.std.specs.Int.{to_le_bytes}
use Rattle.std.proofs.Math.Nat.{min-eq_left, min-eq_right}
use Rattle.std.proofs.lemmas.Bool.{le-leb, lt-leb, lt-ltb, cases_lt}
use Rattle.tp_decode.specs.declared.instr.Instr.TheVariants.{MoveBytes}
use Rattle.tpw_occam_symbolic.specs.declared.items.Item.{Item}
use Rattle.tpw_occam_symbolic.specs.declared.items.Item.TheVariants.{Constant, Array, Zeros}
use Rattle.tpw_occam_symbolic.specs.declared.code.Step.{Step}
use Rattle.tpw_occam_symbolic.specs.declared.code.Step.TheVariants.{Plain, Pointer}
use Rattle.tpw_occam_symbolic.specs.Code.{Lines, followed_by, line_of, place_behind}
use Rattle.tpw_occam_symbolic.specs.Blocks.{Blocks, with_bytes, bytes_at, with_word}
use Rattle.tpw_occam_symbolic.specs.Symbolic.{Machine, Contents, effect, performed, at_place, number, address, push, with_blocks}
use Rattle.tpw_occam_symbolic.specs.Leading.{Does, Makes, HasConstants, word_bytes}
use Rattle.tpw_occam_symbolic.specs.Leading.{cleared_bytes}
use Rattle.tpw_occam_code.specs.Executing.{with_item_word}
use Rattle.tpw_occam_symbolic.specs.Leading.{HasStep}
use Rattle.tpw_occam_code.specs.Moving.{Provides, Writes, Moves, HasCleared, ClearsWords}
use Rattle.tpw_occam_symbolic.proofs.Leading.{does_placed, does_within, does_step, does_both, does_less, does_nothing}
use Rattle.tpw_occam_symbolic.proofs.Simulation.{is_item-self}
use Rattle.tpw_occam_expressions.proofs.Keeping.{other_item}
use Rattle.tpw_occam_expressions.proofs.Computing.{word_same}

-- ---- bytes that are written

pub written : (i : Item) (at k : ℕ) (bytes : List ℕ) (blocks : Blocks) → at ≤ k → k < at + length bytes
    → with_bytes i at bytes blocks i k ≡ slice_index bytes (k - at)
unfolding with_bytes
written i at k bytes blocks low high = rw (is_item-self i) (rw (le-leb at k low) (rw (lt-ltb k (at + length bytes) high) refl))

pub length_bytes_at : (blocks : Blocks) (i : Item) (at n : ℕ) → length (bytes_at blocks i at n) ≡ n
unfolding bytes_at
length_bytes_at blocks i at zero = refl
length_bytes_at blocks i at (suc n) = ap suc (length_bytes_at blocks i (at + 1) n)

pub index_bytes_at : (blocks : Blocks) (i : Item) (at n k : ℕ) → k < n → slice_index (bytes_at blocks i at n) k ≡ blocks i (at + k)
unfolding bytes_at
index_bytes_at blocks i at zero k h = absurd (omega (arith, h))
index_bytes_at blocks i at (suc n) zero h = ap (blocks i) (omega arith)
index_bytes_at blocks i at (suc n) (suc k) h = index_bytes_at blocks i (at + 1) n k (omega (arith, h)) ∙ ap (blocks i) (omega arith)

-- ---- a word

clears_word : (arrays : List ℕ) (old new : Lines) (i : Item) (word : ℕ) → Makes old new HasConstants (with_item_word i word 0)
    → Does arrays old new HasConstants (Writes (with_word i (4 * word) 0))
clears_word arrays old new i word makes =
    does_less arrays old new _ _ _ _ (makes arrays) (λ m said. said)
    (λ m end said at. record {
      blocks = ap (λ (x : Machine). x.blocks) at;
      error = ap (λ (x : Machine). x.error) at;
      to_come = ap (λ (x : Machine). x.to_come) at;
      sent = ap (λ (x : Machine). x.sent) at;
      traced = ap (λ (x : Machine). x.traced) at;
    })

-- ---- copies

-- a step stands in the code of a machine with other registers
same_step : (m : Machine) (p : ℕ) (c : Contents) (s : Step) → HasStep (at_place p (push c m)) s → HasStep m s
same_step m p c s h = record { place = h.place; line = h.line; there = h.there; is = h.is }

-- both addresses and the count are in registers, and there is room
record IsReady (source target : Item) (word bytes : ℕ) (m : Machine) : Type 0 where
  areg : m.areg ≡ number bytes
  breg : m.breg ≡ address target (4 * word)
  creg : m.creg ≡ address source 0
  from : bytes ≤ m.sizes source
  to : 4 * word + bytes ≤ m.sizes target

module _ (old one two three new : Lines) (line : ℕ) (source target : Item) (word bytes : ℕ)
    (first : one ≡ followed_by old (line_of line (Pointer source 0) ∷ []))
    (second : two ≡ followed_by one (line_of line (Pointer target word) ∷ []))
    (count : Makes two three HasConstants (push (number bytes)))
    (last : new ≡ followed_by three (line_of line (Plain MoveBytes) ∷ [])) where
  abbrev pointed : Machine → Machine
  pointed m = push (address target (4 * word)) (push (address source 0) m)

  record HasRoom (m : Machine) : Type 0 where
    from : bytes ≤ m.sizes source
    to : 4 * word + bytes ≤ m.sizes target

  abbrev Ready : List ℕ → Machine → Type 0
  Ready arrays m = HasConstants m × Provides arrays m (Pointer source 0) source bytes
      × Provides arrays m (Pointer target word) target (4 * word + bytes)

  points : (arrays : List ℕ) → Does arrays old two (Ready arrays)
      (λ m end. (end ≡ at_place (place_behind two) (pointed m)) × HasRoom m)
  unfolding performed
  points arrays =
      does_both arrays old one two (Ready arrays)
      (λ m end. (end ≡ at_place (place_behind one) (push (address source 0) m)) × (bytes ≤ m.sizes source))
      (λ m. Provides arrays m (Pointer target word) target (4 * word + bytes))
      (λ m end. (end ≡ at_place (place_behind two) (push (address target (4 * word)) m)) × (4 * word + bytes ≤ m.sizes target)) _
      (does_less arrays old one _ _ _ _
      (does_placed arrays old one line (Pointer source 0) (Ready arrays) (push (address source 0)) first
      (λ m said served. refl) (λ m. refl) (λ m. refl) (λ m. refl))
      (λ m said. said) (λ m end said after. (after.0, said.1 after.2 after.1)))
      (does_less arrays one two _ _ _ _
      (does_placed arrays one two line (Pointer target word) (λ m. Provides arrays m (Pointer target word) target (4 * word + bytes))
      (push (address target (4 * word))) second
      (λ m said served. refl) (λ m. refl) (λ m. refl) (λ m. refl))
      (λ m said. said) (λ m end said after. (after.0, said after.2 after.1)))
      (λ m middle said at.
      subst (λ x. Provides arrays x (Pointer target word) target (4 * word + bytes)) (sym at.0)
      (λ step served. said.2 (same_step m _ _ _ step) served))
      (λ m middle end said at at2. (
        at2.0 ∙ ap (λ x. at_place (place_behind two) (push (address target (4 * word)) x)) at.0,
        record { from = at.1; to = subst (λ n. 4 * word + bytes ≤ n) (ap (λ x. x.sizes target) at.0) at2.1 },
      ))

  counts : (arrays : List ℕ) → Does arrays old three (Ready arrays)
      (λ m end. (end ≡ at_place (place_behind three) (push (number bytes) (pointed m))) × HasRoom m)
  counts arrays =
      does_both arrays old two three _ _ _ _ _ (points arrays) (count arrays)
      (λ m middle said at. subst HasConstants (sym at.0) said.0)
      (λ m middle end said at at2. (at2 ∙ ap (λ x. at_place (place_behind three) (push (number bytes) x)) at.0, at.1))

  -- this many bytes of one item are copied to another
  pub moves : Moves old new source target word bytes
  unfolding performed effect
  moves arrays =
      does_both arrays old three new _ _ (IsReady source target word bytes) _ _ (counts arrays)
      (does_step arrays three new line (Plain MoveBytes) (IsReady source target word bytes)
      (λ m. with_blocks (with_bytes target (4 * word) (bytes_at m.blocks source 0 bytes) m.blocks) m) last
      (λ m ready served. rw ready.areg (rw ready.breg (rw ready.creg
      (rw (le-leb (0 + bytes) (m.sizes source) (omega (arith, ready.from))) (rw (le-leb (4 * word + bytes) (m.sizes target) ready.to) refl)))))
      (λ m. refl) (λ m. refl) (λ m. refl))
      (λ m middle said at. record {
        areg = ap (λ x. x.areg) at.0;
        breg = ap (λ x. x.breg) at.0;
        creg = ap (λ x. x.creg) at.0;
        from = subst (λ n. bytes ≤ n) (sym (ap (λ x. x.sizes source) at.0)) at.1.from;
        to = subst (λ n. 4 * word + bytes ≤ n) (sym (ap (λ x. x.sizes target) at.0)) at.1.to;
      })
      (λ m middle end said at at2. record {
        blocks = ap (λ x. x.blocks) at2 ∙ ap (λ x. with_bytes target (4 * word) (bytes_at x.blocks source 0 bytes) x.blocks) at.0;
        error = ap (λ x. x.error) at2 ∙ ap (λ x. x.error) at.0;
        to_come = ap (λ x. x.to_come) at2 ∙ ap (λ x. x.to_come) at.0;
        sent = ap (λ x. x.sent) at2 ∙ ap (λ x. x.sent) at.0;
        traced = ap (λ x. x.traced) at2 ∙ ap (λ x. x.traced) at.0;
      })

-- ---- clearing

-- constants stay where their items do
pub constants_stay : (m end : Machine) → ((c i : ℕ) → end.blocks (Constant c) i ≡ m.blocks (Constant c) i) → HasConstants m → HasConstants end
constants_stay m end same has c h = word_same end.blocks m.blocks (Constant c) 0 (same c) ∙ has c h

-- what is written elsewhere in an item leaves a byte
below_written : (i : Item) (at k : ℕ) (bytes : List ℕ) (blocks : Blocks) → k < at → with_bytes i at bytes blocks i k ≡ blocks i k
unfolding with_bytes
below_written i at k bytes blocks low = rw (is_item-self i) (rw (lt-leb at k low) refl)

-- bytes that are 0, written behind those that are
cleared_more : (a done bytes : ℕ) (zeros : List ℕ) (m middle end : Machine) → length zeros ≡ bytes
    → ((k : ℕ) → k < bytes → slice_index zeros k ≡ 0) → HasCleared a done m middle
    → Writes (with_bytes (Array a) done zeros) middle end → HasCleared a (done + bytes) m end
cleared_more a done bytes zeros m middle end long are_zero one two = record {
  zero = λ i h. ap (λ b. b (Array a) i) two.blocks ∙ by_place i h (cases_lt i done);
  others = λ item i differs. ap (λ b. b item i) two.blocks ∙ other_item (Array a) item done i zeros middle.blocks differs ∙ one.others item i differs;
  error = two.error ∙ one.error;
  to_come = two.to_come ∙ one.to_come;
  sent = two.sent ∙ one.sent;
  traced = two.traced ∙ one.traced;
}
  where
    by_place : (i : ℕ) → i < done + bytes → (i < done) ⊎ (done ≤ i) → with_bytes (Array a) done zeros middle.blocks (Array a) i ≡ 0
    by_place i h (inl low) = below_written (Array a) done i zeros middle.blocks low ∙ one.zero i low
    by_place i h (inr high) =
        written (Array a) done i zeros middle.blocks high (omega (arith, h, long)) ∙ are_zero (i - done) (omega (arith, h, high))

pub clears_nothing : (code : Lines) (a words : ℕ) → ClearsWords code code a words 0
clears_nothing code a words arrays long =
    does_less arrays code code _ _ _ _ (does_nothing arrays code) (λ m said. tt)
    (λ m end said is. record {
      zero = λ i h. absurd (omega (arith, h));
      others = λ item i differs. ap (λ x. x.blocks item i) is;
      error = ap (λ x. x.error) is;
      to_come = ap (λ x. x.to_come) is;
      sent = ap (λ x. x.sent) is;
      traced = ap (λ x. x.traced) is;
    })

zero_byte : (k : ℕ) → k < 4 → slice_index (to_le_bytes w32 0) k ≡ 0
zero_byte zero h = refl
zero_byte (suc zero) h = refl
zero_byte (suc (suc zero)) h = refl
zero_byte (suc (suc (suc zero))) h = refl
zero_byte (suc (suc (suc (suc k)))) h = absurd (omega (arith, h))

-- one word more
pub clears_next : (old between new : Lines) (a words done : ℕ) → ClearsWords old between a words done
    → Makes between new HasConstants (with_item_word (Array a) done 0) → ClearsWords old new a words (done + 1)
unfolding with_word
clears_next old between new a words done first next arrays long =
    does_both arrays old between new _ _ HasConstants _ _ (first arrays long) (clears_word arrays between new (Array a) done next)
    (λ m middle said cleared. constants_stay m middle (λ c i. cleared.others (Constant c) i refl) said.0)
    (λ m middle end said cleared writes.
    subst (λ n. HasCleared a n m end) (omega arith)
    (cleared_more a (4 * done) 4 (to_le_bytes w32 0) m middle end refl zero_byte cleared writes))

-- part of an array more, by a copy of zeros
pub clears_part : (old between new : Lines) (a words done count : ℕ) → done + count ≤ words
    → 4 * count ≤ cleared_bytes (4 * words) → ClearsWords old between a words done
    → Moves between new Zeros (Array a) done (4 * count) → ClearsWords old new a words (done + count)
clears_part old between new a words done count inside few first next arrays long =
    does_both arrays old between new _ _ _ _ _
    (does_within arrays old between _ _ _ (λ m end. (HasCleared a (4 * done) m end) × (end.code ≡ m.code) × (end.sizes ≡ m.sizes))
    (first arrays long) (λ m said. said) (λ m end code sizes said cleared. (cleared, code, sizes)))
    (next arrays)
    (λ m middle said at. (
      constants_stay m middle (λ c i. at.0.others (Constant c) i refl) said.0,
      (λ step served. omega (
        arith,
        few,
        subst (λ n. cleared_bytes (4 * words) ≤ n) (ap (λ f. f Zeros) (sym at.2))
            (said.2 (step_before m middle at.1 step) tt),
      )),
      (λ step served. omega (arith, inside, long, served)),
    ))
    (λ m middle end said at writes.
    subst (λ n. HasCleared a n m end) (omega arith)
    (cleared_more a (4 * done) (4 * count) (bytes_at middle.blocks Zeros 0 (4 * count)) m middle end (length_bytes_at middle.blocks Zeros 0 (4 * count))
    (λ k h. index_bytes_at middle.blocks Zeros 0 (4 * count) k h ∙ at.0.others Zeros (0 + k) refl ∙ said.1 (0 + k))
    at.0 writes))
  where
    step_before : (m middle : Machine) → middle.code ≡ m.code → {s : Step} → HasStep middle s → HasStep m s
    step_before m middle same h = record { place = h.place; line = h.line; there = ap (λ c. slice_get c h.place) (sym same) ∙ h.there; is = h.is }

-- what one move clears is no more than its zeros
pub cleared_part : (words count : ℕ) → count ≤ words → count ≤ 32 → 4 * count ≤ cleared_bytes (4 * words)
cleared_part words count inside few = by_test (nat_le (word_bytes (4 * words)) 128)
  where
    by_test : (b : Bool) → 4 * count ≤ (if b then word_bytes (4 * words) else 128)
    by_test true = omega (arith, inside)
    by_test false = omega (arith, few)

-- behind a part of 32 words, or what is left of them
pub next_part : (words part count : ℕ) → 32 * part < words → count ≡ min (words - 32 * part) 32
    → 32 * part + count ≡ min (32 * (part + 1)) words
next_part words part count before is = by_size (cases_lt (words - 32 * part) 32)
  where
    by_size : (words - 32 * part < 32) ⊎ (32 ≤ words - 32 * part) → 32 * part + count ≡ min (32 * (part + 1)) words
    by_size (inl few) =
        omega (arith, is ∙ min-eq_left (omega (arith, few)), before, min-eq_right {n = words} {m = 32 * (part + 1)} (omega (arith, few)))
    by_size (inr many) =
        omega (arith, is ∙ min-eq_right many, before, min-eq_left {n = 32 * (part + 1)} {m = words} (omega (arith, many)))
