-- What holds while the passes are made: each edge waits, or has been propagated along.
use Rattle.std.specs.Prelude.{◌≡◌, ℕ, ◌<◌, ◌≢◌, ◌==◌, ◌&&◌, Bool, true, false, if◌then◌else◌, List, [], length}
use Rattle.std.specs.Prelude.{slice_index_or, ◌⊎◌, Some, Ok}
use Rattle.tp_decode.specs.declared.placed.Placed.{Placed}
use Rattle.tp_decode.specs.Cutting.{Cut}
use Rattle.tp_flow.specs.declared.edge.Edge.{Edge}
use Rattle.tp_flow.specs.declared.range.LoopRange.{LoopRange}
use Rattle.tp_flow.specs.NestRanges.{ranges}
use Rattle.tp_flow.specs.LoopsAround.{is_around}
use Rattle.tp_flow.specs.AroundKept.{KeepsAround}
use Rattle.tp_image.specs.Image.{ImageValue, InRange}
use Rattle.tp_state.specs.declared.state.State.{State}
use Rattle.tp_state.specs.Conditions.{IsPlaced}
use Rattle.tp_state.specs.Entry.{entry}
use Rattle.tp_state.specs.Sound.{IsSound, LoadsWord}
use Rattle.tp_state.specs.Live.{LiveWordsAre}
use Rattle.tp_state.specs.After.{after}
use Rattle.tp_check.specs.declared.passes.Passes.{Passes}
use Rattle.tp_check.specs.Tables.{Table, table_of}
use Rattle.tp_check.specs.EdgesRespect.{HasAbove}
use Rattle.tp_check.specs.Passes.{edges_from, edges_of, edges_in}
use Rattle.tp_check.specs.Carried.{AreWide, IsAmong, IsLone, target_of}

-- ---- a code, its joins and its states

-- a state before an instruction is one of the image's worker, and its live control words are those of the loops there
pub record IsPlacedAt (image : ImageValue) (at : ℕ) (s : State) : Type 0 where
  pub placed : IsPlaced image s
  pub live : LiveWordsAre image.loops (is_around (ranges image.loops) at) s.cells

-- the states of a table are such, and what is known at first is known at the first instruction or more
pub record HasGrown (image : ImageValue) (table : Table) : Type 0 where
  pub states : (at : ℕ) (s : State) → table at ≡ Some s → IsPlacedAt image at s
  pub begins : HasAbove table 0 (entry image)

-- an instruction and the targets of its edges lie among this many addresses, and no edge leads back to it
pub record MayBeTaken (image : ImageValue) (places : ℕ) (place : Placed) : Type 0 where
  pub inside : place.at < places
  pub targets : (edge : Edge) (to : ℕ) → target_of image (place, edge) ≡ Some to → to < places
  pub elsewhere : (edge : Edge) (to : ℕ) → target_of image (place, edge) ≡ Some to → to ≢ place.at
  pub around : KeepsAround image.loops image.workspace place.at place.next place.instr

-- what is known after an instruction is sound where what was known before it is
pub record KeepsSound (image : ImageValue) (place : Placed) : Type 0 where
  pub range : InRange image
  pub loads : LoadsWord place.instr

-- an instruction whose edges may be propagated along, in an image with this loop nest
pub record MayStep (image : ImageValue) (loops : List LoopRange) (places : ℕ) (p : Placed) : Type 0 where
  pub nest : loops ≡ ranges image.loops
  pub place : MayBeTaken image places p
  pub sound : KeepsSound image p

-- the edges of an instruction are those of a code that leave its address
pub record IsInCode (cuts : List Cut) (place : Placed) : Type 0 where
  pub all : (e : Placed × Edge) → IsAmong (edges_of place) e → IsAmong (edges_in cuts) e
  pub only : (e : Placed × Edge) → IsAmong (edges_in cuts) e → e.0.at ≡ place.at → IsAmong (edges_of place) e

-- edges join at each address that is kept, and at each target of one edge alone but the next instruction
pub record AreJoins (image : ImageValue) (cuts : List Cut) (is_join : ℕ → Bool) : Type 0 where
  pub wide : AreWide image cuts is_join
  pub lone : IsLone image is_join (IsAmong (edges_in cuts))
  pub falls : (e : Placed × Edge) (to : ℕ) → IsAmong (edges_in cuts) e → is_join to ≡ false
      → target_of image e ≡ Some to → to ≡ e.0.next

-- ---- an edge

-- a state has reached an address: where edges join, one above it is known there, and elsewhere it is known there itself
pub record HasArrived (is_join : ℕ → Bool) (table : Table) (to : ℕ) (s : State) : Type 0 where
  pub joined : is_join to ≡ true → HasAbove table to s
  pub alone : is_join to ≡ false → table to ≡ Some s

-- a state has been propagated along an edge: nothing is refused, and what is known after it has come to the target
pub record IsPropagated (image : ImageValue) (is_join : ℕ → Bool) (table : Table) (e : Placed × Edge)
    (s : State) : Type 0 where
  pub outcome : State
  pub goes_on : after image e.0.at e.0.next e.0.instr e.1 s ≡ Ok outcome
  pub arrives : (to : ℕ) → target_of image e ≡ Some to → HasArrived is_join table to outcome

-- an edge is done: what is known before its instruction has been propagated along it
abbrev pub IsDone : ImageValue → (ℕ → Bool) → Table → Placed × Edge → Type 0
IsDone image is_join table e = (s : State) → table e.0.at ≡ Some s → IsPropagated image is_join table e s

-- an edge was taken before: a state below what is known before its instruction has been propagated along it
pub record WasTaken (image : ImageValue) (is_join : ℕ → Bool) (table : Table) (e : Placed × Edge) : Type 0 where
  pub before : State
  pub sound : IsSound image before
  pub above : HasAbove table e.0.at before
  pub propagated : IsPropagated image is_join table e before

-- ---- between two edges

abbrev pub is_in : List Bool → ℕ → Bool
is_in flags at = slice_index_or flags at false

-- the edges out of an address wait: it is marked, where edges join; elsewhere, a state is carried there
abbrev pub waits : (ℕ → Bool) → Passes → ℕ → ℕ → Bool
waits is_join p ahead at = if is_join at then is_in p.changed.items at else (at == ahead) && p.is_carried

-- they are said to have been taken before
abbrev pub repeats : (ℕ → Bool) → Passes → ℕ → ℕ → Bool
repeats is_join p ahead at =
    if is_join at then is_in p.taken.items at else (at == ahead) && (p.is_carried && p.is_again)

-- an edge waits: it is left of the instruction being taken, or all out of its address wait
abbrev pub Waits : (ℕ → Bool) → Passes → List (Placed × Edge) → ℕ → Placed × Edge → Type 0
Waits is_join p left ahead e = IsAmong left e ⊎ (waits is_join p ahead e.0.at ≡ true)

-- where edges join the passes keep the states of a whole table, which are sound
pub record KeepsWhole (image : ImageValue) (is_join : ℕ → Bool) (p : Passes) (whole : Table) : Type 0 where
  pub flags : length p.changed.items ≡ length p.states.items
  pub takes : length p.taken.items ≡ length p.states.items
  pub carried : IsPlaced image p.carried
  pub states : (at : ℕ) → is_join at ≡ true → whole at ≡ table_of p.states.items at
  pub grown : HasGrown image whole
  pub sound : (at : ℕ) (s : State) → whole at ≡ Some s → IsSound image s

-- The invariant, where some edges are left of an instruction and the next one stands ahead: each edge waits or is done,
-- and one that is said to have been taken before was, or is left.
pub record IsUnderWay (image : ImageValue) (cuts : List Cut) (is_join : ℕ → Bool) (p : Passes)
    (left : List (Placed × Edge)) (ahead : ℕ) (whole : Table) : Type 0 where
  pub keeps : KeepsWhole image is_join p whole
  pub each : (e : Placed × Edge) → IsAmong (edges_in cuts) e
      → Waits is_join p left ahead e ⊎ IsDone image is_join whole e
  pub again : (e : Placed × Edge) → IsAmong (edges_in cuts) e → repeats is_join p ahead e.0.at ≡ true
      → IsAmong left e ⊎ WasTaken image is_join whole e
  pub left_again : p.is_again ≡ true → (e : Placed × Edge) → IsAmong left e → WasTaken image is_join whole e

-- before an instruction none is left, and the state that is carried has come there
pub record IsBefore (image : ImageValue) (cuts : List Cut) (is_join : ℕ → Bool) (p : Passes) (at : ℕ)
    (whole : Table) : Type 0 where
  pub way : IsUnderWay image cuts is_join p [] at whole
  pub here : p.is_carried ≡ true → HasArrived is_join whole at p.carried

-- the state that is carried stands before an instruction, of whose edges these are left
pub record AreLeft (image : ImageValue) (is_join : ℕ → Bool) (p : Passes) (place : Placed)
    (left : List Edge) : Type 0 where
  pub cuts : List Cut
  pub join : AreJoins image cuts is_join
  pub among : (e : Placed × Edge) → IsAmong (edges_from place left) e → IsAmong (edges_in cuts) e
  pub whole : Table
  pub way : IsUnderWay image cuts is_join p (edges_from place left) place.next whole
  pub here : whole place.at ≡ Some p.carried

-- an edge is not one of those that are left after it
abbrev pub IsApart : Edge → List Edge → Type 0
IsApart edge later = (place : Placed) → IsAmong (edges_from place later) (place, edge) → ⊥
