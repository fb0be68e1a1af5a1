-- The order in which assignments that are made together may be made one by one.
use Rattle.std.specs.Prelude.{◌≡◌, ◌≢◌, ℕ, ◌<◌, ◌^◌, Bool, true, false, nat_lt, if◌then◌else◌, List, [], ◌∷◌, length}
use Rattle.std.specs.Prelude.{map, slice_index_or}
use Rattle.tpw_occam_core.specs.declared.kind.Kind.{Kind}
use Rattle.tpw_occam_core.specs.declared.worker.Storage.{Storage}
use Rattle.tpw_occam_core.specs.declared.scope.Entry.{Entry}
use Rattle.tpw_occam_core.specs.declared.expression.Expression.TheVariants.{Constant}
use Rattle.tpw_occam_core.specs.declared.process.Target.{Target}
use Rattle.tpw_occam_core.specs.declared.process.Target.TheVariants as target
use Rattle.tpw_occam_core.specs.declared.process.Assignment.{Assignment}
use Rattle.tpw_occam_core.specs.Meaning.{Store, value_of, flagged, assigned}
use Rattle.tpw_occam_symbolic.specs.declared.items.Item.TheVariants as item
use Rattle.tpw_occam_code.specs.declared.order.Waiting.{Waiting}
use Rattle.tpw_occam_code.specs.declared.order.Move.{Move}
use Rattle.tpw_occam_code.specs.declared.order.Move.TheVariants.{Keep, Make}
use Rattle.tpw_occam_symbolic.specs.Code.{Lines}
use Rattle.tpw_occam_symbolic.specs.Symbolic.{Machine}
use Rattle.tpw_occam_symbolic.specs.Leading.{Does, HasWord}
use Rattle.tpw_occam_expressions.specs.Agreement.{Knowledge}
use Rattle.tpw_occam_code.specs.Executing.{IsProcessPlace, KnowsState, Matches, LeavesCounts}
use Rattle.tpw_occam_code.specs.Assigning.{reads_target, are_near, taken, unset_by, MayMake, MayMakeAll}

-- ---- what may be made first

-- the subscript of a target reads another
abbrev pub target_reads : Target → Target → Bool
target_reads (target.Variable x) t = false
target_reads (target.Element a kind e) t = reads_target e t

-- One assignment may be made before another that waits: the other reads nothing that it writes, and where both may
-- write to one place the other is the earlier one.
pub record Precedes (one other : Assignment) (is_kept is_earlier : Bool) : Type 0 where
  pub value : is_kept ≡ false → reads_target other.value one.target ≡ false
  pub place : target_reads other.target one.target ≡ false
  pub apart : is_earlier ≡ false → are_near one.target other.target ≡ false

-- the assignment with a number; there are no others
abbrev pub no_assignment : Assignment
no_assignment = record { target = target.Variable 0; value = Constant 0 }

abbrev pub assignment_at : List Assignment → ℕ → Assignment
assignment_at all i = slice_index_or all i no_assignment

abbrev pub waits : ℕ → Bool → Waiting
waits number is_kept = record { number = number; is_kept = is_kept }

abbrev pub waiting_at : List Waiting → ℕ → Waiting
waiting_at waiting place = slice_index_or waiting place (waits 0 false)

abbrev pub PrecedesIn : List Assignment → (one other : Waiting) → (is_earlier : Bool) → Type 0
PrecedesIn all one other is_earlier =
    Precedes (assignment_at all one.number) (assignment_at all other.number) other.is_kept is_earlier

-- the one at a place may be made before all others
pub record MayGo (all : List Assignment) (waiting : List Waiting) (place : ℕ) : Type 0 where
  pub there : place < length waiting
  pub others : (at : ℕ) → at < length waiting → at ≢ place
      → PrecedesIn all (waiting_at waiting place) (waiting_at waiting at) (nat_lt at place)

-- no other has the number of the one at a place
abbrev pub IsAlone : List Waiting → ℕ → Type 0
IsAlone waiting place =
    (at : ℕ) → at < length waiting → at ≢ place → (waiting_at waiting at).number ≢ (waiting_at waiting place).number

-- ---- moves

-- one that waits is made before the others, and waits no more
pub data Picks : List Assignment → Waiting → List Waiting → List Waiting → Type 0 where
  picked : (all : List Assignment) (one : Waiting) (rest : List Waiting)
      → ((at : ℕ) → at < length rest → PrecedesIn all one (waiting_at rest at) false) → Picks all one (one ∷ rest) rest
  before : (all : List Assignment) (one first : Waiting) (rest left : List Waiting) → PrecedesIn all one first true
      → Picks all one rest left → Picks all one (first ∷ rest) (first ∷ left)

-- the value of the one with a number is kept
pub data Marks : ℕ → List Waiting → List Waiting → Type 0 where
  marked : (i : ℕ) (rest : List Waiting) → ((at : ℕ) → at < length rest → (waiting_at rest at).number ≢ i)
      → Marks i (waits i false ∷ rest) (waits i true ∷ rest)
  behind : (i : ℕ) (first : Waiting) (rest left : List Waiting) → first.number ≢ i → Marks i rest left
      → Marks i (first ∷ rest) (first ∷ left)

abbrev pub IsMove : List Assignment → List Waiting → Move → List Waiting → Type 0
IsMove all old (Keep i) new = Marks i old new
IsMove all old (Make i is_kept) new = Picks all (waits i is_kept) old new

-- after these moves none waits
abbrev pub Settles : List Assignment → List Waiting → List Move → Type 0
Settles all waiting [] = waiting ≡ []
Settles all waiting (move ∷ more) = (next : List Waiting) × (IsMove all waiting move next × Settles all next more)

-- each waits, in their order, and no value is kept
pub record AreAll (count : ℕ) (waiting : List Waiting) : Type 0 where
  pub long : length waiting ≡ count
  pub each : (k : ℕ) → k < count → waiting_at waiting k ≡ waits k false

abbrev pub SettleAll : List Assignment → List Move → Type 0
SettleAll all moves = (waiting : List Waiting) × (AreAll (length all) waiting × Settles all waiting moves)

-- each move is of an assignment that is there
abbrev pub IsNumbered : (count : ℕ) → Move → Type 0
IsNumbered count (Keep i) = i < count
IsNumbered count (Make i is_kept) = i < count

abbrev pub AreNumbered : (count : ℕ) → List Move → Type 0
AreNumbered count [] = Unit {0}
AreNumbered count (move ∷ more) = IsNumbered count move × AreNumbered count more

-- ---- what is still to be made

-- the assignment of one that waits; one of which the value is kept assigns that word
abbrev pub pending_one : List Assignment → (ℕ → ℕ) → Waiting → Assignment
pending_one all words w = record {
  target = (assignment_at all w.number).target;
  value = if w.is_kept then Constant (words w.number) else (assignment_at all w.number).value;
}

abbrev pub pending : List Assignment → (ℕ → ℕ) → List Waiting → List Assignment
pending all words waiting = map (pending_one all words) waiting

-- the values that are kept are in words
abbrev pub HasKept : List Kind → List Assignment → (ℕ → ℕ) → (temporaries : ℕ) → List Waiting → Machine → Type 0
HasKept kinds all words temporaries [] m = Unit {0}
HasKept kinds all words temporaries (w ∷ more) m =
    (w.is_kept ≡ true → (w.number < temporaries)
    × HasWord (item.Temporary w.number) (taken kinds (assignment_at all w.number).target (words w.number)) m)
    × HasKept kinds all words temporaries more m

-- moves make what is still to be made
abbrev pub MakesMoves : Knowledge → (old new : Lines) → List Assignment → List Move → (temporaries : ℕ) → Type 0
MakesMoves k old new all moves temporaries =
    (waiting : List Waiting) (words : ℕ → ℕ) → Settles all waiting moves → ((n : ℕ) → words n < 2 ^ 32)
    → (storages : List Storage) (scope : List Entry) (unset : ℕ → Bool) (s : Store) → IsProcessPlace k storages scope
    → MayMakeAll k storages scope unset (pending all words waiting) → KnowsState k scope s
    → Does k.arrays old new (λ m. Matches k storages scope unset s m × HasKept k.kinds all words temporaries waiting m)
    (λ m end. Matches k storages scope (unset_by (pending all words waiting) unset)
    (assigned k.kinds (pending all words waiting) s) end
    × LeavesCounts scope m end)

-- .. one move a part of it
abbrev pub MakesMove : Knowledge → (old new : Lines) → List Assignment → Move → (temporaries : ℕ) → Type 0
MakesMove k old new all move temporaries = (made : Lines) (more : List Move)
    → MakesMoves k new made all more temporaries
    → MakesMoves k old made all (move ∷ more) temporaries

-- the value of an assignment is kept in a word
pub record KeepsWord (scope : List Entry) (temporaries i word : ℕ) (m end : Machine) : Type 0 where
  pub counts : LeavesCounts scope m end
  pub held : HasWord (item.Temporary i) word end
  pub others : (t at : ℕ) → t < temporaries → t ≢ i → end.blocks (item.Temporary t) at ≡ m.blocks (item.Temporary t) at

abbrev pub KeepsValue : Knowledge → (old new : Lines) → Assignment → (i temporaries : ℕ) → Type 0
KeepsValue k old new a i temporaries =
    (storages : List Storage) (scope : List Entry) (unset : ℕ → Bool) (s : Store) → IsProcessPlace k storages scope
    → MayMake k storages scope unset a → KnowsState k scope s
    → Does k.arrays old new (Matches k storages scope unset s)
    (λ m end. Matches k storages scope unset (flagged (value_of a.value s).flag s) end
    × KeepsWord scope temporaries i (taken k.kinds a.target (value_of a.value s).word) m end)
