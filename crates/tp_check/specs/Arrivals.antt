-- What a state that reaches an address makes of a table.
use Rattle.std.specs.Prelude.{◌≡◌, ℕ, ◌<◌, List, Option, Some, Result, Ok, Err, IsTrue}
use Rattle.tp_decode.specs.Cutting.{Cut}
use Rattle.tp_flow.specs.RowRules.{is_start}
use Rattle.tp_state.specs.declared.state.State.{State}
use Rattle.tp_state.specs.declared.fault.StateFault.{StateFault}
use Rattle.tp_state.specs.declared.fault.StateFault.TheVariants.{Refused, Memory}
use Rattle.tp_state.specs.Order.{IsBelow}
use Rattle.tp_check.specs.Tables.{Table}

-- each instruction has its place
abbrev pub HasPlaces : List Cut → ℕ → Type 0
HasPlaces cuts places = (at : ℕ) → IsTrue (is_start cuts at) → at < places

-- something came to an address before that is below what comes now
pub record ArrivedBefore (there : Option State) (s : State) : Type 0 where
  pub before : State
  pub state : State
  pub is : there ≡ Some state
  pub rose : IsBelow before state
  pub below : IsBelow before s

-- an answer is the definition's, or a want of memory
abbrev pub Gives : {X : Type 0} → Result X StateFault → Table → Result Table StateFault → Type 0
Gives (Ok x) table wanted = wanted ≡ Ok table
Gives (Err (Refused code place)) table wanted = wanted ≡ Err (Refused code place)
Gives (Err Memory) table wanted = Unit {0}
