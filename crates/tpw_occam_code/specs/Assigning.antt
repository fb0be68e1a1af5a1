-- What the code of assignments does, part by part.
use Rattle.std.specs.Prelude.{◌≡◌, ℕ, ◌+◌, ◌%◌, ◌^◌, ◌<◌, ◌≤◌, Bool, true, false, not, ◌||◌, ◌&&◌, ◌==◌, List, [], ◌∷◌}
use Rattle.std.specs.Prelude.{length, map, slice_index, IsTrue}
use Rattle.std.specs.Int.{w32, to_le_bytes}
use Rattle.std.specs.List.{list_any, list_all}
use Rattle.tpw_occam_core.specs.declared.kind.Kind.{Kind}
use Rattle.tpw_occam_core.specs.declared.kind.Kind.TheVariants.{Word, Byte}
use Rattle.tpw_occam_core.specs.declared.worker.Storage.{Storage}
use Rattle.tpw_occam_core.specs.declared.scope.Entry.{Entry}
use Rattle.tpw_occam_core.specs.declared.arithmetic.Answer.{Answer}
use Rattle.tpw_occam_core.specs.declared.expression.Expression.{Expression}
use Rattle.tpw_occam_core.specs.declared.expression.Expression.TheVariants.{Constant, Variable, Element', Checked'}
use Rattle.tpw_occam_core.specs.declared.expression.Expression.TheVariants.{Binary', Complement', Not', LowByte', And'}
use Rattle.tpw_occam_core.specs.declared.expression.Expression.TheVariants.{Or', Let'}
use Rattle.tpw_occam_core.specs.declared.process.Target.{Target}
use Rattle.tpw_occam_core.specs.declared.process.Target.TheVariants as target
use Rattle.tpw_occam_core.specs.declared.process.Assignment.{Assignment}
use Rattle.tpw_occam_core.specs.Arithmetic.{answer, pure}
use Rattle.tpw_occam_core.specs.Arrays.{size, kept}
use Rattle.tpw_occam_core.specs.Meaning.{Store, value_of, kind_of, subscript_of, stored, flagged, assigned}
use Rattle.tpw_occam_core.specs.Sound.{is_seen, is_sound_target, is_sound_assignment}
use Rattle.tpw_occam_symbolic.specs.declared.items.Item.{Item}
use Rattle.tpw_occam_symbolic.specs.declared.items.Item.TheVariants as item
use Rattle.tpw_occam_symbolic.specs.Code.{Lines}
use Rattle.tpw_occam_symbolic.specs.Blocks.{with_bytes}
use Rattle.tpw_occam_symbolic.specs.Symbolic.{Machine, number, address}
use Rattle.tpw_occam_symbolic.specs.Leading.{Does, HasConstants, HasWord}
use Rattle.tpw_occam_expressions.specs.Values.{HasNumber, scaled}
use Rattle.tpw_occam_expressions.specs.Agreement.{Knowledge, elements_of, Knows, Agrees, LeavesItems, Stays}
use Rattle.tpw_occam_expressions.specs.Computing.{IsPlace, MayStand, reads}
use Rattle.tpw_occam_code.specs.Executing.{subscript_reads, sources_read, is_target, IsProcessPlace, KnowsState}
use Rattle.tpw_occam_code.specs.Executing.{Matches, LeavesCounts}

-- ---- what is read

-- whether an expression reads an array
abbrev pub reads_array : Expression → ℕ → Bool
reads_array (Constant c) a = false
reads_array (Variable x) a = false
reads_array (Element' b kind p e) a = b == a || reads_array e a
reads_array (Checked' below p e) a = reads_array e a
reads_array (Binary' operator p e q f) a = reads_array e a || reads_array f a
reads_array (Complement' p e) a = reads_array e a
reads_array (Not' p e) a = reads_array e a
reads_array (LowByte' p e) a = reads_array e a
reads_array (And' p e q f) a = reads_array e a || reads_array f a
reads_array (Or' p e q f) a = reads_array e a || reads_array f a
reads_array (Let' x p e q f) a = reads_array e a || reads_array f a

-- .. the variable or the array of a target
abbrev pub reads_target : Expression → Target → Bool
reads_target e (target.Variable x) = reads e x
reads_target e (target.Element a kind f) = reads_array e a

-- two targets are one variable, or in one array
abbrev pub are_near : Target → Target → Bool
are_near (target.Variable x) (target.Variable y) = x == y
are_near (target.Element a kind e) (target.Element b view f) = a == b
are_near one other = false

-- ---- targets

-- what a target takes of a word
abbrev pub taken : List Kind → Target → ℕ → ℕ
taken kinds (target.Variable x) word = kept (kind_of kinds x) word
taken kinds (target.Element a kind e) word = word

-- the bytes by which an element of a kind holds a word
abbrev pub element_bytes : Kind → ℕ → List ℕ
element_bytes Word word = to_le_bytes w32 word
element_bytes Byte word = word % 256 ∷ []

-- where a target is: its item, a place in it, and the bytes by which it holds a word
abbrev pub item_of : Target → Item
item_of (target.Variable x) = item.Variable x
item_of (target.Element a kind e) = item.Array a

abbrev pub place_of : Target → ℕ → ℕ
place_of (target.Variable x) i = 0
place_of (target.Element a kind e) i = scaled kind i

abbrev pub held_bytes : Target → ℕ → List ℕ
held_bytes (target.Variable x) word = to_le_bytes w32 word
held_bytes (target.Element a kind e) word = element_bytes kind word

-- the variables that are not assigned yet, once a target is
abbrev pub unset_but : Target → (ℕ → Bool) → ℕ → Bool
unset_but t unset x = unset x && not (is_target x t)

-- ---- stores

-- Bytes are written in an item, and nothing else is changed but registers.
pub record Writes (i : Item) (place : ℕ) (bytes : List ℕ) (m end : Machine) : Type 0 where
  pub blocks : end.blocks ≡ with_bytes i place bytes m.blocks
  pub error : end.error ≡ m.error
  pub to_come : end.to_come ≡ m.to_come
  pub sent : end.sent ≡ m.sent
  pub traced : end.traced ≡ m.traced

-- .. of which Areg is popped
pub record WritesPopped (i : Item) (place : ℕ) (bytes : List ℕ) (m end : Machine) : Type 0 where
  pub areg : end.areg ≡ m.breg
  pub breg : end.breg ≡ m.creg
  pub writes : Writes i place bytes m end

-- Breg is a word, and Areg the address of an element of an array of this many bytes, all of which are there.
pub record IsToStore (kind : Kind) (a i word bytes : ℕ) (m : Machine) : Type 0 where
  pub areg : m.areg ≡ address (item.Array a) (scaled kind i)
  pub breg : m.breg ≡ number word
  pub room : bytes ≤ m.sizes (item.Array a)

-- Bytes are written in an item; the flag may be set, and else all that is in use is left.
pub record Stores (scope : List Entry) (temporaries : ℕ) (i : Item) (place : ℕ) (bytes : List ℕ) (flag : Bool)
    (m end : Machine)
    : Type 0 where
  pub blocks : (other : Item) (at : ℕ) → Stays scope temporaries other
      → end.blocks other at ≡ with_bytes i place bytes m.blocks other at
  pub error : end.error ≡ (m.error || flag)
  pub to_come : end.to_come ≡ m.to_come
  pub sent : end.sent ≡ m.sent
  pub traced : end.traced ≡ m.traced

-- A target may stand there: it is sound, and its subscript reads no name that is not assigned yet.
pub record MayTake (k : Knowledge) (storages : List Storage) (scope : List Entry) (unset : ℕ → Bool) (t : Target)
    : Type 0 where
  pub sound : IsTrue (is_sound_target (length k.kinds) storages scope t)
  pub assigned : (x : ℕ) → unset x ≡ true → subscript_reads t x ≡ false

-- Two numbers are in registers, b below a; the flag may be set, and else all that is in use is left.
pub record HasTwo (scope : List Entry) (temporaries : ℕ) (b a : ℕ) (flag : Bool) (m end : Machine) : Type 0 where
  pub areg : end.areg ≡ number a
  pub breg : end.breg ≡ number b
  pub error : end.error ≡ (m.error || flag)
  pub leaves : LeavesItems scope temporaries m end

-- a word that was kept last is recalled, and above it is what is made of a state
abbrev pub ComputesAbove : Knowledge → (old new : Lines) → Expression → (Store → Answer) → (temporaries : ℕ) → Type 0
ComputesAbove k old new e made temporaries =
    (storages : List Storage) (scope : List Entry) (unset : ℕ → Bool) (s : Store) (word : ℕ) → IsPlace k storages scope
    → MayStand k storages scope unset e → Knows k scope unset s → word < 2 ^ 32
    → Does k.arrays old new (λ m. Agrees k scope unset s m × HasWord (item.Temporary temporaries) word m)
    (HasTwo scope temporaries word (made s).word (made s).flag)

-- above a word in Areg the code of an expression pushes what is made of its state
abbrev pub ComputesOver : Knowledge → (old new : Lines) → Expression → (Store → Answer) → (temporaries : ℕ) → Type 0
ComputesOver k old new e made temporaries =
    (storages : List Storage) (scope : List Entry) (unset : ℕ → Bool) (s : Store) (word : ℕ) → IsPlace k storages scope
    → MayStand k storages scope unset e → Knows k scope unset s → word < 2 ^ 32
    → Does k.arrays old new (λ m. Agrees k scope unset s m × HasNumber word m)
    (HasTwo scope temporaries word (made s).word (made s).flag)

-- the code of a target stores a word in Areg where the target is
abbrev pub StoresIn : Knowledge → (old new : Lines) → Target → (temporaries : ℕ) → Type 0
StoresIn k old new t temporaries =
    (storages : List Storage) (scope : List Entry) (unset : ℕ → Bool) (s : Store) (word : ℕ)
    → IsProcessPlace k storages scope
    → MayTake k storages scope unset t → Knows k scope unset s → word < 2 ^ 32
    → Does k.arrays old new (λ m. Agrees k scope unset s m × HasNumber word m)
    (Stores scope temporaries (item_of t) (place_of t (subscript_of t s).word) (held_bytes t word)
    (subscript_of t s).flag)

-- a place in a target is there
abbrev pub IsInside : Knowledge → Target → ℕ → Type 0
IsInside k (target.Variable x) i = Unit {0}
IsInside k (target.Element a view e) i = i < elements_of view (slice_index k.arrays a)

-- a state has a value for each variable, and arrays of the sizes that are known
pub record HasShape (k : Knowledge) (s : Store) : Type 0 where
  pub count : length s.values ≡ length k.kinds
  pub sizes : map length s.arrays ≡ k.arrays

-- ---- assignments

-- a value as its target takes it
abbrev pub taken_value : List Kind → Assignment → Store → Answer
taken_value kinds a s = answer (taken kinds a.target (value_of a.value s).word) (value_of a.value s).flag

-- the value of an expression is a word
abbrev pub HasSmallValue : Knowledge → Expression → Type 0
HasSmallValue k e =
    (storages : List Storage) (scope : List Entry) (unset : ℕ → Bool) (s : Store) → IsPlace k storages scope
    → MayStand k storages scope unset e → Knows k scope unset s → (value_of e s).word < 2 ^ 32

-- An assignment may stand there.
pub record MayMake (k : Knowledge) (storages : List Storage) (scope : List Entry) (unset : ℕ → Bool) (a : Assignment)
    : Type 0 where
  pub sound : IsTrue (is_sound_assignment (length k.kinds) storages scope a)
  pub assigned : (x : ℕ) → unset x ≡ true → sources_read x a ≡ false

-- What the code of assignments leaves: counts of loops, and the words that are kept.
pub record LeavesKept (scope : List Entry) (temporaries : ℕ) (m end : Machine) : Type 0 where
  pub counts : LeavesCounts scope m end
  pub words : (t at : ℕ) → t < temporaries → end.blocks (item.Temporary t) at ≡ m.blocks (item.Temporary t) at

-- the value of an assignment: kept already, or evaluated
abbrev pub source_of : Assignment → (is_kept : Bool) → ℕ → Store → Answer
source_of a true word s = pure word
source_of a false word s = value_of a.value s

-- the state after an assignment with a value that is given
abbrev pub after_one : List Kind → Assignment → Answer → Store → Store
after_one kinds a v s =
    flagged (v.flag || (subscript_of a.target s).flag) (stored kinds a.target (subscript_of a.target s).word v.word s)

-- The code of one assignment makes of a machine that matches a state one that matches what is made of the state. A
-- value that is kept is in a word, as its target takes it.
abbrev pub MakesOne : Knowledge → (old new : Lines) → Assignment → (kept_in : ℕ) → (is_kept : Bool) → (temporaries : ℕ)
    → Type 0
MakesOne k old new a kept_in is_kept temporaries =
    (storages : List Storage) (scope : List Entry) (unset : ℕ → Bool) (s : Store) (word : ℕ)
    → IsProcessPlace k storages scope
    → MayTake k storages scope unset a.target → (is_kept ≡ false → MayStand k storages scope unset a.value)
    → KnowsState k scope s
    → word < 2 ^ 32
    → Does k.arrays old new
    (λ m. Matches k storages scope unset s m
    × (is_kept ≡ true → HasWord (item.Temporary kept_in) (taken k.kinds a.target word) m))
    (λ m end.
    Matches k storages scope (unset_but a.target unset) (after_one k.kinds a (source_of a is_kept word s) s) end
    × LeavesKept scope temporaries m end)

-- ---- all values and subscripts in words

-- assignments may stand there
pub record MayMakeAll (k : Knowledge) (storages : List Storage) (scope : List Entry) (unset : ℕ → Bool)
    (all : List Assignment)
    : Type 0 where
  pub sound : IsTrue (list_all (is_sound_assignment (length k.kinds) storages scope) all)
  pub assigned : (x : ℕ) → unset x ≡ true → list_any (sources_read x) all ≡ false

-- the variables that are not assigned yet, once all are made
abbrev pub unset_by : List Assignment → (ℕ → Bool) → ℕ → Bool
unset_by all unset x = unset x && not (list_any (λ a. is_target x a.target) all)

-- what is made of a state is kept in a word
pub record Saved (scope : List Entry) (temporaries : ℕ) (made : Answer) (m end : Machine) : Type 0 where
  pub held : HasWord (item.Temporary temporaries) made.word end
  pub error : end.error ≡ (m.error || made.flag)
  pub leaves : LeavesItems scope temporaries m end

-- .. a subscript
abbrev pub KeepsSubscript : Knowledge → (old new : Lines) → ℕ → Kind → Expression → (temporaries : ℕ) → Type 0
KeepsSubscript k old new a view e temporaries =
    (storages : List Storage) (scope : List Entry) (unset : ℕ → Bool) (s : Store) → IsPlace k storages scope
    → IsTrue (is_seen storages scope a view) → MayStand k storages scope unset e → Knows k scope unset s
    → Does k.arrays old new (Agrees k scope unset s)
    (Saved scope temporaries (subscript_of (target.Element a view e) s))

-- the subscript of a target is in a word, if it has one
abbrev pub HasSubscript : Target → (temporary : ℕ) → ℕ → Machine → Type 0
HasSubscript (target.Variable x) n i m = Unit {0}
HasSubscript (target.Element a view e) n i m = HasWord (item.Temporary n) i m

-- the value and the subscript of an assignment are in words
pub record HasParts (kinds : List Kind) (t : Target) (temporaries word i : ℕ) (m : Machine) : Type 0 where
  pub value : HasWord (item.Temporary temporaries) (taken kinds t word) m
  pub place : HasSubscript t (temporaries + 1) i m

abbrev pub KeepsParts : Knowledge → (old new : Lines) → Assignment → (temporaries : ℕ) → Type 0
KeepsParts k old new a temporaries =
    (storages : List Storage) (scope : List Entry) (unset : ℕ → Bool) (s : Store) → IsProcessPlace k storages scope
    → MayMake k storages scope unset a → KnowsState k scope s
    → Does k.arrays old new (Matches k storages scope unset s)
    (λ m end.
    Matches k storages scope unset (flagged ((value_of a.value s).flag || (subscript_of a.target s).flag) s) end
    × LeavesKept scope temporaries m end
    × HasParts k.kinds a.target temporaries (value_of a.value s).word (subscript_of a.target s).word end)

-- a word is stored in an element whose subscript is in a word
abbrev pub StoresKept : Knowledge → (old new : Lines) → ℕ → Kind → (temporary : ℕ) → Type 0
StoresKept k old new a view temporary =
    (bytes : List ℕ) (i word : ℕ) → length bytes ≡ slice_index k.arrays a → length bytes ≤ 2048 → i < size view bytes
    → Does k.arrays old new (λ m. HasConstants m × HasNumber word m × HasWord (item.Temporary temporary) i m)
    (Writes (item.Array a) (scaled view i) (element_bytes view word))

abbrev pub StoresParts : Knowledge → (old new : Lines) → Target → (temporaries : ℕ) → Type 0
StoresParts k old new t temporaries =
    (storages : List Storage) (scope : List Entry) (unset : ℕ → Bool) (s : Store) (i word : ℕ)
    → IsProcessPlace k storages scope
    → IsTrue (is_sound_target (length k.kinds) storages scope t) → HasShape k s → IsInside k t i → word < 2 ^ 32
    → Does k.arrays old new (λ m. Matches k storages scope unset s m × HasParts k.kinds t temporaries word i m)
    (λ m end. Matches k storages scope (unset_but t unset) (stored k.kinds t i word s) end
    × LeavesKept scope temporaries m end)

-- assignments with all values and subscripts in words, from one on
abbrev pub AssignsAbove : Knowledge → (old new : Lines) → List Assignment → (temporaries : ℕ) → Type 0
AssignsAbove k old new all temporaries =
    (storages : List Storage) (scope : List Entry) (unset : ℕ → Bool) (s : Store) → IsProcessPlace k storages scope
    → MayMakeAll k storages scope unset all → KnowsState k scope s
    → Does k.arrays old new (Matches k storages scope unset s)
    (λ m end. Matches k storages scope (unset_by all unset) (assigned k.kinds all s) end
    × LeavesKept scope temporaries m end)
