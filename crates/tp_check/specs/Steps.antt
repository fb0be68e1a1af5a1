-- What a step of the passes does, between two edges and between two passes.
use Rattle.std.specs.Prelude.{◌≡◌, ℕ, ◌^◌, ◌<◌, ◌≤◌, ◌≢◌, Bool, true, false, if◌then◌else◌, List, length, slice_set}
use Rattle.std.specs.Prelude.{◌⊎◌, Option, Some, None, Result, Ok, Err}
use Rattle.std.specs.List.{AllByRecursion}
use Rattle.tp_decode.specs.declared.placed.Placed.{Placed}
use Rattle.tp_decode.specs.Cutting.{Cut, IsSpelled}
use Rattle.tp_flow.specs.declared.edge.Edge.{Edge}
use Rattle.tp_flow.specs.declared.range.LoopRange.{LoopRange}
use Rattle.tp_flow.specs.NestRanges.{ranges}
use Rattle.tp_flow.specs.NestKept.{KeepsNest}
use Rattle.tp_image.specs.Image.{ImageValue, InRange}
use Rattle.tp_state.specs.declared.state.State.{State}
use Rattle.tp_state.specs.declared.fault.StateFault.{StateFault}
use Rattle.tp_state.specs.declared.fault.StateFault.TheVariants.{Refused, Memory}
use Rattle.tp_check.specs.declared.passes.Passes.{Passes}
use Rattle.tp_check.specs.Tables.{Table, table_of}
use Rattle.tp_check.specs.EdgesRespect.{HasAbove}
use Rattle.tp_check.specs.Passes.{edges_from, passes, IsVerdict}
use Rattle.tp_check.specs.Carried.{over, target_of}
use Rattle.tp_check.specs.Arrivals.{HasPlaces}
use Rattle.tp_check.specs.Rising.{table_height}
use Rattle.tp_check.specs.UnderWay.{AreJoins, HasArrived, IsUnderWay, IsBefore, is_in}

-- ---- one step

-- a step's answer is the definition's, or a want of memory; and of the table that it gives, this holds
abbrev pub Carries : {X : Type 0} → Result X StateFault → Result Table StateFault → (Table → Type 0) → Type 0
Carries (Ok x) wanted P = (new : Table) × (wanted ≡ Ok new) × P new
Carries (Err (Refused code place)) wanted P = wanted ≡ Err (Refused code place)
Carries (Err Memory) wanted P = Unit {0}

-- there is a whole table, before the instruction at an address
abbrev pub HasWhole : ImageValue → List Cut → (ℕ → Bool) → Passes → ℕ → Type 0
HasWhole image cuts is_join p at = (whole : Table) × IsBefore image cuts is_join p at whole

-- from an instruction on these edges are taken as defined, and then the passes are before the instruction at `next`
abbrev pub TakesEdges : {X : Type 0} → ImageValue → List Cut → (ℕ → Bool) → List (Placed × Edge) → Passes → ℕ
    → Result X StateFault → Passes → ℕ → Type 0
TakesEdges image cuts is_join edges old at result new next =
    (whole : Table) → IsBefore image cuts is_join old at whole
    → Carries result (over image is_join edges whole) (IsBefore image cuts is_join new next)

-- An edge is taken: what was carried has become what is known after it, which has come to the target, and is carried on
-- if that is the next instruction. Where edges join states only rise, and elsewhere the target's alone is set.
pub record IsAfterEdge (image : ImageValue) (cuts : List Cut) (is_join : ℕ → Bool) (old new : Passes)
    (place : Placed) (edge : Edge) (later : List Edge) (whole table : Table) : Type 0 where
  pub way : IsUnderWay image cuts is_join new (edges_from place later) place.next table
  pub arrives : (to : ℕ) → target_of image (place, edge) ≡ Some to → HasArrived is_join table to new.carried
  pub here : table place.at ≡ whole place.at
  pub rises : (x : ℕ) (s : State) → is_join x ≡ true → HasAbove whole x s → HasAbove table x s
  pub stays : (x : ℕ) → is_join x ≡ false → target_of image (place, edge) ≢ Some x → table x ≡ whole x
  pub goes : target_of image (place, edge) ≡ Some place.next → new.is_carried ≡ true
  pub rests : target_of image (place, edge) ≢ Some place.next → new.is_carried ≡ old.is_carried

-- what is carried is carried on, if it reaches the next instruction
pub record IsLedOn (to there : ℕ) (old new : Passes) : Type 0 where
  pub same : new ≡ record old { is_carried = new.is_carried }
  pub next : to ≡ there → new.is_carried ≡ true
  pub elsewhere : to ≢ there → new.is_carried ≡ old.is_carried

-- an address is marked, where its state has changed
abbrev pub marked : Bool → ℕ → List Bool → List Bool
marked moved to flags = if moved then slice_set flags to true else flags

-- all but the states that are kept and the marks is as before
pub record SameButStates (old new : Passes) : Type 0 where
  pub is_carried : new.is_carried ≡ old.is_carried
  pub carried : new.carried ≡ old.carried
  pub is_again : new.is_again ≡ old.is_again
  pub taken : new.taken.items ≡ old.taken.items

-- The state that is kept at an address is carried, if it was marked and there is one: its edges are taken, again where
-- they were before. It is not marked any more.
pub record IsStarted (at : ℕ) (old new : Passes) : Type 0 where
  pub states : new.states.items ≡ old.states.items
  pub changed : new.changed.items ≡ slice_set old.changed.items at false
  pub yes : new.is_carried ≡ true → table_of old.states.items at ≡ Some new.carried
  pub again : new.is_carried ≡ true → new.is_again ≡ is_in old.taken.items at
  pub takes : new.is_carried ≡ true → new.taken.items ≡ slice_set old.taken.items at true
  pub rests : new.is_carried ≡ false → new.taken.items ≡ old.taken.items
  pub no : new.is_carried ≡ false
      → (new.carried ≡ old.carried) × ((is_in old.changed.items at ≡ false) ⊎ (table_of old.states.items at ≡ None))

-- ---- between two passes

-- a pass may be made: the code and the nest are an image's, edges join where they are said to, and no state is carried
pub record MayPass (image : ImageValue) (loops : List LoopRange) (cuts : List Cut) (is_join : ℕ → Bool) (p : Passes)
    : Type 0 where
  pub range : InRange image
  pub kept : KeepsNest image.loops image.workspace cuts
  pub spelled : AllByRecursion IsSpelled cuts
  pub nest : loops ≡ ranges image.loops
  pub join : AreJoins image cuts is_join
  pub places : HasPlaces cuts (length p.states.items)
  pub rests : p.is_carried ≡ false
  pub way : HasWhole image cuts is_join p 0

-- this many passes have been made
pub record IsAfter (image : ImageValue) (cuts : List Cut) (is_join : ℕ → Bool) (p : Passes) (number : ℕ) : Type 0 where
  pub places : HasPlaces cuts (length p.states.items)
  pub few : length p.states.items ≤ 2 ^ 32
  pub rests : p.is_carried ≡ false
  pub whole : Table
  pub before : IsBefore image cuts is_join p 0 whole
  pub arrives : passes image cuts number ≡ Ok whole

-- none has, over a code whose instructions stand at this many addresses
abbrev pub IsBeginning : ImageValue → ℕ → Passes → Type 0
IsBeginning image places p =
    (cuts : List Cut) (is_join : ℕ → Bool) → HasPlaces cuts places → KeepsNest image.loops image.workspace cuts
    → AreJoins image cuts is_join
    → IsAfter image cuts is_join p 0

-- a pass that leaves edges leaves fewer changes; one that leaves none has changed no state that is kept, or marked none
pub record Leaves (image : ImageValue) (is_left : Bool) (old new : Passes) : Type 0 where
  pub sized : length new.states.items ≡ length old.states.items
  pub falls : is_left ≡ true → table_height image new.states.items < table_height image old.states.items
  pub ends : is_left ≡ false → (new.states.items ≡ old.states.items) ⊎ ((at : ℕ) → is_in new.changed.items at ≡ false)

-- one more pass would change nothing, and where edges join these are the states of the table
pub record IsSettled (image : ImageValue) (cuts : List Cut) (is_join : ℕ → Bool)
    (states : List (Option State)) : Type 0 where
  pub few : length states ≤ 2 ^ 32
  pub whole : Table
  pub verdict : IsVerdict image cuts (Ok whole)
  pub there : (at : ℕ) → is_join at ≡ true → whole at ≡ table_of states at
