-- How the loops around an address change along the edges of the instruction there.
use Rattle.std.specs.Prelude.{◌≡◌, ℕ, List, All, IsTrue, true, Some, IsSome, slice_get}
use Rattle.tp_image.specs.declared.image.LoopRow.{LoopRow}
use Rattle.tp_decode.specs.declared.instr.Instr.{Instr}
use Rattle.tp_decode.specs.declared.instr.Instr.TheVariants.{Lend}
use Rattle.tp_flow.specs.declared.edge.Edge.{Edge}
use Rattle.tp_flow.specs.declared.edge.Edge.TheVariants.{Back}
use Rattle.tp_flow.specs.NestRanges.{ranges, number_ended_at}
use Rattle.tp_flow.specs.Edges.{has_edge, target}
use Rattle.tp_flow.specs.NestKept.{IsGood}
use Rattle.tp_flow.specs.LoopsAround.{is_around, IsOutside, around_after}

-- the loop of row l, whose lend is at an address, is around it, and another turn begins at its head
pub record EndsOwnLoop (rows : List LoopRow) (at next : ℕ) (l : ℕ) (row : LoopRow) : Type 0 where
  pub around : is_around (ranges rows) at l ≡ true
  pub back : target (ranges rows) at next Lend Back ≡ Some row.head

-- Of an instruction at an address, where next follows it:
pub record KeepsAround (rows : List LoopRow) (workspace : ℕ) (at next : ℕ) (instr : Instr) : Type 0 where
  pub good : All (IsGood workspace) rows
  -- no loop is around the first instruction
  pub begins : IsOutside (ranges rows) 0
  -- each edge goes somewhere
  pub targets : (edge : Edge) → IsTrue (has_edge instr edge) → IsSome (target (ranges rows) at next instr edge)
  -- the loops around its target are those around its source, without the one that it leaves, with the one that it
  -- enters
  pub moves : (edge : Edge) (to : ℕ) → target (ranges rows) at next instr edge ≡ Some to → (l : ℕ)
      → is_around (ranges rows) to l ≡ around_after (ranges rows) at edge to l
  -- a lend ends a loop that is around it
  pub ends : (l : ℕ) (row : LoopRow) → number_ended_at (ranges rows) at ≡ Some l → slice_get rows l ≡ Some row
      → EndsOwnLoop rows at next l row
