-- Tables that every edge respects.
use Rattle.std.specs.Prelude.{◌≡◌, ℕ, ◌+◌, List, length, All, Some, Ok}
use Rattle.tp_decode.specs.declared.instr.Instr.{Instr}
use Rattle.tp_decode.specs.Cutting.{Cut, cut_at}
use Rattle.tp_flow.specs.declared.edge.Edge.{Edge}
use Rattle.tp_flow.specs.NestRanges.{ranges}
use Rattle.tp_flow.specs.Edges.{target}
use Rattle.tp_image.specs.Image.{ImageValue}
use Rattle.tp_state.specs.declared.state.State.{State}
use Rattle.tp_state.specs.Order.{IsBelow}
use Rattle.tp_state.specs.Entry.{entry}
use Rattle.tp_state.specs.After.{after}
use Rattle.tp_check.specs.Tables.{Table, asked}

-- an address has a state above this one
pub record HasAbove (table : Table) (at : ℕ) (s : State) : Type 0 where
  pub state : State
  pub there : table at ≡ Some state
  pub below : IsBelow s state

-- from a state at an address nothing is refused on an edge, and the target has a state above what is known after it
pub record Respects (image : ImageValue) (table : Table) (at next : ℕ) (instr : Instr) (s : State)
    (edge : Edge) : Type 0 where
  pub outcome : State
  pub goes_on : after image at next instr edge s ≡ Ok outcome
  pub enters : (to : ℕ) → target (ranges image.loops) at next instr edge ≡ Some to → HasAbove table to outcome

-- each edge of the instruction at an address respects the table, from the address's state, if it has one
abbrev pub RespectsFrom : ImageValue → List Cut → Table → ℕ → Type 0
RespectsFrom image cuts table at =
    (cut : Cut) (s : State) → cut_at cuts at ≡ Some cut → table at ≡ Some s
    → All (Respects image table at (at + length cut.bytes) cut.instr s) (asked cut.instr)

-- Every edge respects a table:
pub record EveryEdgeRespects (image : ImageValue) (cuts : List Cut) (table : Table) : Type 0 where
  -- the first instruction has a state above the first one
  pub begins : HasAbove table 0 (entry image)
  pub each : (at : ℕ) → RespectsFrom image cuts table at

-- no table is such
abbrev pub HasNoTable : ImageValue → List Cut → Type 0
HasNoTable image cuts = (table : Table) → ¬ EveryEdgeRespects image cuts table
