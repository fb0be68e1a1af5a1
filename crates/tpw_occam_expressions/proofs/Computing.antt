-- How the code of expressions is put together.
use Rattle.std.proofs.Common.{◌≡◌, ◌+◌, ◌^◌, ◌≤◌, ◌<◌, [], ◌∷◌, ℕ, zero, suc, List, Some, None, Bool, false, true, refl, ap, sym, subst, ◌∙◌, arith, w32}
use Rattle.std.specs.Prelude.{slice_index, ◌||◌, IsTrue}
use Rattle.std.specs.List.{list_any}
use Rattle.std.specs.Int.{from_le_bytes}
use Rattle.std.proofs.Math.Bool.{or_assoc}
use Rattle.std.proofs.lemmas.Bool.{le-leb, eq-eqb}
use Rattle.std.proofs.lemmas.Nat.{from_le_bytes-to_le_bytes_4}
use Rattle.tpw_occam_core.specs.declared.arithmetic.Answer.{Answer}
use Rattle.tpw_occam_core.specs.declared.scope.Entry.{Entry}
use Rattle.tpw_occam_core.specs.Arithmetic.{answer, pure}
use Rattle.tpw_occam_core.specs.Meaning.{Store}
use Rattle.tpw_occam_core.specs.Sound.{is_name}
use Rattle.tpw_occam_symbolic.specs.declared.items.Item.{Item}
use Rattle.tpw_occam_symbolic.specs.declared.items.Item.TheVariants.{Variable, Constant, Array}
use Rattle.tpw_occam_symbolic.specs.declared.code.Step.TheVariants.{Load}
use Rattle.tpw_occam_symbolic.specs.Code.{Lines, followed_by, line_of, place_behind}
use Rattle.tpw_occam_symbolic.specs.Blocks.{Blocks, bytes_at, word_at}
use Rattle.tpw_occam_symbolic.specs.Symbolic.{Machine, performed, at_place, number, push}
use Rattle.tpw_occam_symbolic.specs.Leading.{Does, HasConstants, HasWord, Makes}
use Rattle.tpw_occam_expressions.specs.Values.{Holds, Replaces, Pushes, PushesAlone, Answers}
use Rattle.tpw_occam_core.specs.declared.worker.Storage.{Storage}
use Rattle.tpw_occam_core.specs.declared.expression.Expression.TheVariants as expression
use Rattle.tpw_occam_expressions.specs.declared.expressions.Value.{Value}
use Rattle.tpw_occam_expressions.specs.Ranges.{Contains}
use Rattle.tpw_occam_expressions.specs.Computing.{Computes, IsKnown, MayStand}
use Rattle.tpw_occam_expressions.specs.Agreement.{Knowledge, fact_at, Agrees, LeavesItems}
use Rattle.tpw_occam_symbolic.proofs.Leading.{does_both, does_less, does_step}
use Rattle.tpw_occam_expressions.proofs.Elements.{pushes_alone}

true_false : ◌≡◌ {A = Bool} true false → ⊥
true_false e = cc

-- ---- items that stay

pub bytes_same : (one other : Blocks) (i : Item) (at n : ℕ) → ((k : ℕ) → one i k ≡ other i k) → bytes_at one i at n ≡ bytes_at other i at n
unfolding bytes_at
bytes_same one other i at zero same = refl
bytes_same one other i at (suc n) same = rw (same at) (ap (λ bytes. other i at ∷ bytes) (bytes_same one other i (at + 1) n same))

pub word_same : (one other : Blocks) (i : Item) (at : ℕ) → ((k : ℕ) → one i k ≡ other i k) → word_at one i at ≡ word_at other i at
unfolding word_at
word_same one other i at same = ap (from_le_bytes w32) (bytes_same one other i at 4 same)

pub agrees_after : (k : Knowledge) (scope : List Entry) (unset : ℕ → Bool) (kept : ℕ) (s : Store) (m end : Machine)
    → Agrees k scope unset s m → LeavesItems scope kept m end → Agrees k scope unset s end
agrees_after k scope unset kept s m end a leaves = record {
  words = λ x in_scope set none. bytes_same end.blocks m.blocks (Variable x) 0 4 (λ at. leaves.blocks (Variable x) at in_scope) ∙ a.words x in_scope set none;
  arrays = λ b in_scope i less. leaves.blocks (Array b) i tt ∙ a.arrays b in_scope i less;
  constants = λ c small. word_same end.blocks m.blocks (Constant c) 0 (λ at. leaves.blocks (Constant c) at tt) ∙ a.constants c small;
}

-- what is left twice
pub leaves_then : (scope : List Entry) (kept : ℕ) (m middle end : Machine) → LeavesItems scope kept m middle
    → LeavesItems scope kept middle end → LeavesItems scope kept m end
leaves_then scope kept m middle end one two = record {
  blocks = λ i at stays. two.blocks i at stays ∙ one.blocks i at stays;
  to_come = two.to_come ∙ one.to_come;
  sent = two.sent ∙ one.sent;
  traced = two.traced ∙ one.traced;
}

-- ---- what is pushed

pub alone_pushes : (registers kept : ℕ) (scope : List Entry) (made : Answer) (m end : Machine) → 1 ≤ registers → PushesAlone made m end
    → Pushes registers made m end × LeavesItems scope kept m end
alone_pushes registers kept scope made m end least alone = (
  record {
    areg = alone.pushed.areg;
    breg = λ h. alone.pushed.breg (omega arith);
    creg = λ h. alone.pushed.creg (omega arith);
    error = alone.pushed.error;
  },
  record {
    blocks = λ i at stays. ap (λ b. b i at) alone.blocks;
    to_come = alone.to_come;
    sent = alone.sent;
    traced = alone.traced;
  },
)

-- a value that takes the place of one that was pushed
pub replaces_pushed : (registers kept : ℕ) (scope : List Entry) (one two : Answer) (m middle end : Machine)
    → Pushes registers one m middle × LeavesItems scope kept m middle → Replaces registers two middle end
    → Pushes registers (answer two.word (one.flag || two.flag)) m end × LeavesItems scope kept m end
replaces_pushed registers kept scope one two m middle end a b = (
  record {
    areg = b.areg;
    breg = λ h. b.breg h ∙ a.0.breg h;
    creg = λ h. b.creg h ∙ a.0.creg h;
    error = b.error ∙ ap (λ e. e || two.flag) a.0.error ∙ or_assoc m.error one.flag two.flag;
  },
  record {
    blocks = λ i at stays. ap (λ x. x i at) b.blocks ∙ a.1.blocks i at stays;
    to_come = b.to_come ∙ a.1.to_come;
    sent = b.sent ∙ a.1.sent;
    traced = b.traced ∙ a.1.traced;
  },
)

-- fewer registers are used than may be
pub replaces_more : (few many : ℕ) (made : Answer) (m end : Machine) → few ≤ many → Replaces few made m end → Replaces many made m end
replaces_more few many made m end h r = record {
  areg = r.areg;
  breg = λ less. r.breg (omega arith);
  creg = λ less. r.creg (omega arith);
  error = r.error;
  blocks = r.blocks;
  to_come = r.to_come;
  sent = r.sent;
  traced = r.traced;
}

-- code that pushes a value, and code that makes another of it
pub does_replace : (k : Knowledge) (scope : List Entry) (unset : ℕ → Bool) (s : Store) (old between new : Lines)
    (registers few kept : ℕ) (one two : Answer) → few ≤ registers
    → Does k.arrays old between (Agrees k scope unset s) (λ m end. Pushes registers one m end × LeavesItems scope kept m end)
    → Answers between new few one.word two
    → Does k.arrays old new (Agrees k scope unset s)
    (λ m end. Pushes registers (answer two.word (one.flag || two.flag)) m end × LeavesItems scope kept m end)
does_replace k scope unset s old between new registers few kept one two h first second =
    does_both k.arrays old between new _ _ _ _ _ first (second k.arrays)
    (λ m middle agrees after. ((agrees_after k scope unset kept s m middle agrees after.1).constants, after.0.areg))
    (λ m middle end agrees after after2.
    replaces_pushed registers kept scope one two m middle end after (replaces_more few registers two middle end h after2))

-- ---- words of variables

-- the word at an item's front
pub word_there : (m : Machine) (i : Item) (v : ℕ) → v < 2 ^ 32 → HasWord i v m → word_at m.blocks i 0 ≡ v
unfolding word_at
word_there m i v h is = ap (from_le_bytes w32) is ∙ from_le_bytes-to_le_bytes_4 v h

-- ---- names

pub in_scope : (k : Knowledge) (storages : List Storage) (scope : List Entry) (unset : ℕ → Bool) (x : ℕ) → MayStand k storages scope unset (expression.Variable x)
    → IsTrue (list_any (is_name x) scope)
in_scope k storages scope unset x stands = stands.sound

-- a name that is read is assigned
pub set_name : (k : Knowledge) (storages : List Storage) (scope : List Entry) (unset : ℕ → Bool) (x : ℕ) → MayStand k storages scope unset (expression.Variable x)
    → unset x ≡ false
set_name k storages scope unset x stands = by_test (unset x) refl
  where
    by_test : (b : Bool) → unset x ≡ b → unset x ≡ false
    by_test false e = e
    by_test true e = absurd (true_false (sym (eq-eqb x x refl) ∙ stands.assigned x e))

-- the value of a name is known
pub name_known : (k : Knowledge) (x : ℕ) (value : Value) → value.source ≡ (fact_at k x).source → value.known ≡ (fact_at k x).known
    → IsKnown k (expression.Variable x) value
name_known k x value source known storages scope unset s place stands knows =
    let fits = knows.names x (in_scope k storages scope unset x stands) (set_name k storages scope unset x stands) in
    record {
      small = fits.small;
      source = subst (λ r. Contains r (slice_index s.values x)) (sym source) fits.source;
      known = subst (λ r. Contains r (slice_index s.values x)) (sym known) fits.known;
    }

-- the word of a name is pushed
pub name_computes : (k : Knowledge) (old new : Lines) (source x registers kept : ℕ) → (fact_at k x).constant ≡ None
    → new ≡ followed_by old (line_of source (Load (Variable x) 0) ∷ []) → Computes k old new (expression.Variable x) registers kept
unfolding performed
name_computes k old new source x registers kept none is storages scope unset s place stands suffices knows =
    let there = in_scope k storages scope unset x stands in
    let set = set_name k storages scope unset x stands in
    let fits = knows.names x there set in
    let v = slice_index s.values x in
    does_less k.arrays old new _ _ _ _
    (does_step k.arrays old new source (Load (Variable x) 0) (Agrees k scope unset s) (push (number v)) is
    (λ m agrees served. rw (le-leb 4 _ served) (ap (λ w. Some (push (number w) (at_place (m.place + 1) m)))
    (word_there m (Variable x) v fits.small (agrees.words x there set none))))
    (λ m. refl) (λ m. refl) (λ m. refl))
    (λ m said. said)
    (λ m end said after. alone_pushes registers kept scope (pure v) m end suffices.least (pushes_alone v (place_behind new) m end after))

-- the constant of a name is pushed
pub constant_name_computes : (k : Knowledge) (old new : Lines) (x c registers kept : ℕ) → (fact_at k x).constant ≡ Some c
    → Makes old new HasConstants (push (number c)) → Computes k old new (expression.Variable x) registers kept
constant_name_computes k old new x c registers kept some makes storages scope unset s place stands suffices knows =
    let fits = knows.names x (in_scope k storages scope unset x stands) (set_name k storages scope unset x stands) in
    does_less k.arrays old new _ _ _ _ (makes k.arrays) (λ m said. said.constants)
    (λ m end said after. subst (λ w. Pushes registers (pure w) m end × LeavesItems scope kept m end) (sym (fits.constant c some))
    (alone_pushes registers kept scope (pure c) m end suffices.least (pushes_alone c (place_behind new) m end after)))

pub constant_name_known : (k : Knowledge) (x c : ℕ) (value : Value) → (fact_at k x).constant ≡ Some c → Holds value c
    → IsKnown k (expression.Variable x) value
constant_name_known k x c value some holds storages scope unset s place stands knows =
    let fits = knows.names x (in_scope k storages scope unset x stands) (set_name k storages scope unset x stands) in
    subst (Holds value) (sym (fits.constant c some)) holds
