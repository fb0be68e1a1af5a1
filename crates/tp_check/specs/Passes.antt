-- The passes: tables that are made from the first state, edge by edge, until a pass changes nothing.
use Rattle.std.specs.Prelude.{◌≡◌, ℕ, zero, suc, List, [], ◌∷◌, map, Option, Some, None, Result, Ok, Err}
use Rattle.std.specs.List.{flat_map}
use Rattle.tp_decode.specs.declared.placed.Placed.{Placed}
use Rattle.tp_decode.specs.Cutting.{Cut, placed_from}
use Rattle.tp_flow.specs.declared.edge.Edge.{Edge}
use Rattle.tp_flow.specs.NestRanges.{ranges}
use Rattle.tp_flow.specs.Edges.{target}
use Rattle.tp_image.specs.Image.{ImageValue}
use Rattle.tp_state.specs.declared.state.State.{State}
use Rattle.tp_state.specs.declared.fault.StateCode.{StateCode}
use Rattle.tp_state.specs.declared.fault.StateFault.{StateFault}
use Rattle.tp_state.specs.declared.fault.StateFault.TheVariants.{Refused, Memory}
use Rattle.tp_state.specs.Answer.{◌>>=◌}
use Rattle.tp_state.specs.Order.{meeting}
use Rattle.tp_state.specs.Entry.{entry}
use Rattle.tp_state.specs.After.{after}
use Rattle.tp_check.specs.Tables.{Table, no_states, with_state, asked}

-- ---- one edge

-- a refusal has its place
abbrev pub with_place : {A : Type 0} → ℕ → Result A StateCode → Result A StateFault
with_place place (Ok x) = Ok x
with_place place (Err code) = Err (Refused code place)

-- what is known where a state reaches an address: its first state, or what holds of both
abbrev pub meeting_if_any : Option State → State → Result State StateCode
meeting_if_any None s = Ok s
meeting_if_any (Some t) s = meeting t s

-- a state reaches an edge's target, if it has one: S6 and S9 at the target
unfoldable pub enter : Option ℕ → State → Table → Result Table StateFault
enter None s table = Ok table
enter (Some to) s table = do
  t ← with_place to (meeting_if_any (table to) s)
  Ok (with_state to t table)

-- what is known after an instruction reaches an edge's target, if there is a state before it
unfoldable pub go_along : ImageValue → Placed → Edge → Option State → Table → Result Table StateFault
go_along image p edge None table = Ok table
go_along image p edge (Some s) table = do
  t ← with_place p.at (after image p.at p.next p.instr edge s)
  enter (target (ranges image.loops) p.at p.next p.instr edge) t table

-- ---- one pass

-- edges of an instruction, and all that it is asked on, in their order
abbrev pub edges_from : Placed → List Edge → List (Placed × Edge)
edges_from p ways = map (λ edge. (p, edge)) ways

abbrev pub edges_of : Placed → List (Placed × Edge)
edges_of p = edges_from p (asked p.instr)

-- the edges of a code: by rising address
abbrev pub edges_in : List Cut → List (Placed × Edge)
edges_in cuts = flat_map edges_of (placed_from 0 cuts)

-- one edge after another
abbrev pub along_edges : ImageValue → List (Placed × Edge) → Table → Result Table StateFault
along_edges image [] table = Ok table
along_edges image (e ∷ more) table = do
  table ← go_along image e.0 e.1 (table e.0.at) table
  along_edges image more table

abbrev pub pass : ImageValue → List Cut → Table → Result Table StateFault
pass image cuts table = along_edges image (edges_in cuts) table

-- ---- the passes

-- at first the first instruction alone has a state
abbrev pub first_table : ImageValue → Table
first_table image = with_state 0 (entry image) no_states

-- the table after this many passes; the first refusal ends them
abbrev pub passes : ImageValue → List Cut → ℕ → Result Table StateFault
passes image cuts zero = Ok (first_table image)
passes image cuts (suc n) = passes image cuts n >>= pass image cuts

-- The verdict of the passes is what some number of them comes to and one more leaves as it is: a refusal, or a table
-- that a pass does not change.
pub record IsVerdict (image : ImageValue) (cuts : List Cut) (verdict : Result Table StateFault) : Type 0 where
  pub number : ℕ
  pub arrives : passes image cuts number ≡ verdict
  pub stays : (verdict >>= pass image cuts) ≡ verdict

-- a fault is the passes' refusal, or a want of memory
abbrev pub IsRefusalOf : ImageValue → List Cut → StateFault → Type 0
IsRefusalOf image cuts (Refused code place) = IsVerdict image cuts (Err (Refused code place))
IsRefusalOf image cuts Memory = Unit {0}
