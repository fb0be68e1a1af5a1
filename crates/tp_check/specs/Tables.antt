-- Tables: what is known before the instructions.
use Rattle.std.specs.Prelude.{◌≡◌, ℕ, ◌==◌, if◌then◌else◌, List, Option, Some, None, slice_get}
use Rattle.std.specs.Option.{option_and_then}
use Rattle.tp_image.specs.Image.{ImageValue}
use Rattle.tp_state.specs.declared.state.State.{State}
use Rattle.tp_state.specs.Conditions.{IsPlaced}
pub use Rattle.tp_state.specs.After.{asked}

-- some addresses have a state
abbrev pub Table : Type 0
Table = ℕ → Option State

abbrev pub no_states : Table
no_states at = None

-- an address takes a state
abbrev pub with_state : ℕ → State → Table → Table
with_state to t table at = if at == to then Some t else table at

-- its states are those of an image's worker
abbrev pub HasPlacedStates : ImageValue → Table → Type 0
HasPlacedStates image table = (at : ℕ) (s : State) → table at ≡ Some s → IsPlaced image s

-- a table by its states in a list, one for each address or none
abbrev pub table_of : List (Option State) → Table
table_of states at = option_and_then (λ s. s) (slice_get states at)
