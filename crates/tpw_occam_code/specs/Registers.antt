-- Assignments of which all values are in registers at once.
use Rattle.std.specs.Prelude.{◌≡◌, ℕ, ◌-◌, ◌^◌, ◌<◌, ◌≤◌, Bool, List, [], ◌∷◌, IsTrue}
use Rattle.tpw_occam_core.specs.declared.kind.Kind.TheVariants.{Word}
use Rattle.tpw_occam_core.specs.declared.worker.Storage.{Storage}
use Rattle.tpw_occam_core.specs.declared.scope.Entry.{Entry}
use Rattle.tpw_occam_core.specs.declared.process.Target.{Target}
use Rattle.tpw_occam_core.specs.declared.process.Target.TheVariants as target
use Rattle.tpw_occam_core.specs.declared.process.Assignment.{Assignment}
use Rattle.tpw_occam_core.specs.Meaning.{Store, kind_of, subscript_of, stored, assigned}
use Rattle.tpw_occam_symbolic.specs.Code.{Lines}
use Rattle.tpw_occam_symbolic.specs.Symbolic.{Machine}
use Rattle.tpw_occam_symbolic.specs.Leading.{Does}
use Rattle.tpw_occam_expressions.specs.Values.{HasNumber}
use Rattle.tpw_occam_expressions.specs.Agreement.{Knowledge}
use Rattle.tpw_occam_expressions.specs.Computing.{IsFixed, is_simple}
use Rattle.tpw_occam_code.specs.Executing.{IsProcessPlace, KnowsState, Matches, LeavesCounts}
use Rattle.tpw_occam_code.specs.Assigning.{HasShape, MayTake, MayMakeAll, unset_but, unset_by}

-- a target that takes any word as it is, in one step: a variable, or a word of an array
abbrev pub IsWordTarget : Knowledge → Target → Type 0
IsWordTarget k (target.Variable x) = kind_of k.kinds x ≡ Word
IsWordTarget k (target.Element a view e) = (view ≡ Word) × ((c : ℕ) × IsFixed k a view e c)

-- each value needs no more registers than are left
abbrev pub FitAll : Knowledge → List Assignment → (registers : ℕ) → Type 0
FitAll k [] registers = Unit {0}
FitAll k (a ∷ more) registers =
    (1 ≤ registers) × (registers ≤ 1 → IsTrue (is_simple k a.value)) × IsWordTarget k a.target
    × FitAll k more (registers - 1)

-- what the others hold stays, where this many registers are used
pub record KeepsRegisters (registers : ℕ) (m end : Machine) : Type 0 where
  pub areg : registers ≤ 2 → end.areg ≡ m.areg
  pub breg : registers ≤ 1 → end.breg ≡ m.breg
  pub creg : registers ≤ 0 → end.creg ≡ m.creg

-- Areg is popped
pub record Popped (m end : Machine) : Type 0 where
  pub areg : end.areg ≡ m.breg
  pub breg : end.breg ≡ m.creg

-- a word in Areg is stored, in a state in which the subscript is what it was in the one before
abbrev pub StoresWord : Knowledge → (old new : Lines) → Target → Type 0
StoresWord k old new t =
    (storages : List Storage) (scope : List Entry) (unset before : ℕ → Bool) (s first : Store) (word : ℕ)
    → IsProcessPlace k storages scope
    → MayTake k storages scope before t → KnowsState k scope first → HasShape k s → word < 2 ^ 32
    → Does k.arrays old new (λ m. Matches k storages scope unset s m × HasNumber word m)
    (λ m end. Matches k storages scope (unset_but t unset) (stored k.kinds t (subscript_of t first).word word s) end
    × LeavesCounts scope m end × Popped m end)

-- assignments with this many registers
abbrev pub AssignsBelow : Knowledge → (old new : Lines) → List Assignment → (registers : ℕ) → Type 0
AssignsBelow k old new all registers =
    (storages : List Storage) (scope : List Entry) (unset : ℕ → Bool) (s : Store) → IsProcessPlace k storages scope
    → MayMakeAll k storages scope unset all → KnowsState k scope s
    → Does k.arrays old new (Matches k storages scope unset s)
    (λ m end. Matches k storages scope (unset_by all unset) (assigned k.kinds all s) end × LeavesCounts scope m end
    × KeepsRegisters registers m end)
