-- Passes that carry one state from instruction to instruction, and keep states only at some addresses: at each other
-- address, which one edge alone reaches, what is known after that edge takes the place of what was known.
use Rattle.std.specs.Prelude.{◌≡◌, ◌≢◌, ℕ, zero, suc, ◌==◌, ◌||◌, nat_le, ◌<◌, Bool, false, if◌then◌else◌, IsTrue, List}
use Rattle.std.specs.Prelude.{[], ◌∷◌, Option, Some, None, Result, Ok, slice_get}
use Rattle.std.specs.List.{count_by, list_any}
use Rattle.tp_decode.specs.declared.placed.Placed.{Placed}
use Rattle.tp_decode.specs.Cutting.{Cut}
use Rattle.tp_flow.specs.declared.edge.Edge.{Edge}
use Rattle.tp_flow.specs.NestRanges.{ranges}
use Rattle.tp_flow.specs.Edges.{target}
use Rattle.tp_image.specs.Image.{ImageValue}
use Rattle.tp_state.specs.declared.state.State.{State}
use Rattle.tp_state.specs.declared.fault.StateFault.{StateFault}
use Rattle.tp_state.specs.Answer.{◌>>=◌}
use Rattle.tp_state.specs.After.{after}
use Rattle.tp_check.specs.Tables.{Table, with_state}
use Rattle.tp_check.specs.Passes.{with_place, enter, edges_in, first_table, IsVerdict}

-- where an edge of an instruction in its place leads
abbrev pub target_of : ImageValue → Placed × Edge → Option ℕ
target_of image e = target (ranges image.loops) e.0.at e.0.next e.0.instr e.1

-- what is known after it
abbrev pub outcome_of : ImageValue → Placed × Edge → State → Result State StateFault
outcome_of image e s = with_place e.0.at (after image e.0.at e.0.next e.0.instr e.1 s)

-- a state reaches an address: it joins what is known there, or takes its place
abbrev pub arrive : (ℕ → Bool) → Option ℕ → State → Table → Result Table StateFault
arrive is_join None s table = Ok table
arrive is_join (Some to) s table = if is_join to then enter (Some to) s table else Ok (with_state to s table)

abbrev pub go_over : ImageValue → (ℕ → Bool) → Placed × Edge → Option State → Table → Result Table StateFault
go_over image is_join e None table = Ok table
go_over image is_join e (Some s) table = outcome_of image e s >>= λ t. arrive is_join (target_of image e) t table

abbrev pub over : ImageValue → (ℕ → Bool) → List (Placed × Edge) → Table → Result Table StateFault
over image is_join [] table = Ok table
over image is_join (e ∷ more) table = go_over image is_join e (table e.0.at) table >>= over image is_join more

-- what is known where edges join, and nothing elsewhere
abbrev pub only_joins : (ℕ → Bool) → Table → Table
only_joins is_join table at = if is_join at then table at else None

-- ---- the addresses that join

-- how many edges lead to an address, of all instructions
abbrev pub leads_to : ℕ → Option ℕ → Bool
leads_to at None = false
leads_to at (Some to) = to == at

abbrev pub reached : ImageValue → List Cut → ℕ → ℕ
reached image cuts at = count_by (λ e. leads_to at (target_of image e)) (edges_in cuts)

abbrev pub is_head : ImageValue → ℕ → Bool
is_head image at = list_any (λ range. range.head == at) (ranges image.loops)

-- the first address, loops' heads, and those that two edges reach
abbrev pub is_kept : ImageValue → List Cut → ℕ → Bool
is_kept image cuts at = (at == 0) || is_head image at || nat_le 2 (reached image cuts at)

-- the addresses that join are those, or more
abbrev pub AreWide : ImageValue → List Cut → (ℕ → Bool) → Type 0
AreWide image cuts is_join = (at : ℕ) → is_join at ≡ false → is_kept image cuts at ≡ false

-- an edge is one of some
abbrev pub IsAmong : List (Placed × Edge) → Placed × Edge → Type 0
IsAmong es e = (i : ℕ) × (slice_get es i ≡ Some e)

-- Among some edges, each address that does not join is the target of one at most, and no edge leads from it to itself.
pub record IsLone (image : ImageValue) (is_join : ℕ → Bool) (IsEdge : Placed × Edge → Type 0) : Type 0 where
  pub one : (e f : Placed × Edge) (to : ℕ) → IsEdge e → IsEdge f → is_join to ≡ false → target_of image e ≡ Some to
      → target_of image f ≡ Some to → e ≡ f
  pub on : (e : Placed × Edge) (to : ℕ) → IsEdge e → is_join to ≡ false → target_of image e ≡ Some to → to ≢ e.0.at

-- ---- passes with one state carried

-- a pass from what is known where edges join; it gives the whole table
abbrev pub carried_pass : ImageValue → List Cut → (ℕ → Bool) → Table → Result Table StateFault
carried_pass image cuts is_join table = over image is_join (edges_in cuts) (only_joins is_join table)

abbrev pub carried : ImageValue → List Cut → (ℕ → Bool) → ℕ → Result Table StateFault
carried image cuts is_join zero = Ok (first_table image)
carried image cuts is_join (suc n) = carried image cuts is_join n >>= carried_pass image cuts is_join

-- ---- what is kept of a table

-- The states of a table at some addresses, by rising address; none at another.
pub record AreStatesOf (keeps : ℕ → Bool) (table : Table) (states : List (ℕ × State)) : Type 0 where
  pub rising : (i j : ℕ) (a b : ℕ × State) → i < j → slice_get states i ≡ Some a → slice_get states j ≡ Some b
      → a.0 < b.0
  pub each : (i : ℕ) (a : ℕ × State) → slice_get states i ≡ Some a → IsTrue (keeps a.0) × (table a.0 ≡ Some a.1)
  pub all : (at : ℕ) (s : State) → IsTrue (keeps at) → table at ≡ Some s → (i : ℕ) × (slice_get states i ≡ Some (at, s))

-- At the addresses that are kept these are the states of the verdict's table, which has one at each address to which a
-- way leads.
pub record IsTableOf (image : ImageValue) (cuts : List Cut) (states : List (ℕ × State)) : Type 0 where
  pub whole : Table
  pub verdict : IsVerdict image cuts (Ok whole)
  pub kept : AreStatesOf (is_kept image cuts) whole states
