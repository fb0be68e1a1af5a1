-- What the rules of flow are for: loops that make a nest, and edges that go to instructions and keep to the nest.
use Rattle.std.specs.Prelude.{◌≡◌, ◌≢◌, ℕ, ◌+◌, ◌<◌, ◌≤◌, ◌⊎◌, pos, ◌≤ℤ◌, List, length, count_by, All, AllPairs}
use Rattle.std.specs.Prelude.{Contains, IsTrue, Some, IsSome}
use Rattle.std.specs.List.{AllByRecursion}
use Rattle.tp_image.specs.declared.image.LoopRow.{LoopRow}
use Rattle.tp_decode.specs.Cutting.{Cut, cut_at}
use Rattle.tp_flow.specs.declared.edge.Edge.{Edge}
use Rattle.tp_flow.specs.declared.edge.Edge.TheVariants.{Back}
use Rattle.tp_flow.specs.declared.range.LoopRange.{LoopRange}
use Rattle.tp_flow.specs.Limits.{most_turns, greatest_index, most_depth}
use Rattle.tp_flow.specs.NestRanges.{ranges, contains, overlaps, lies_within}
use Rattle.tp_flow.specs.Edges.{has_edge, target}
use Rattle.tp_flow.specs.RowRules.{is_start, is_lend_at, last_index}
use Rattle.tp_flow.specs.LoopsAround.{IsOutside}

-- ---- rows

-- a loop's numbers: its two control words lie in the workspace, it makes its turns, and its indices are words
pub record IsGood (workspace : ℕ) (row : LoopRow) : Type 0 where
  pub block : row.control + 1 < workspace
  pub turns_least : 1 ≤ row.count
  pub turns_most : row.count ≤ most_turns
  pub ends : last_index row ≤ℤ pos greatest_index

-- a loop's place: an instruction behind the first one, and a lend behind that
pub record IsLoop (cuts : List Cut) (row : LoopRow) : Type 0 where
  pub later : 0 < row.head
  pub body : row.head < row.lend
  pub head : IsTrue (is_start cuts row.head)
  pub lend : IsTrue (is_lend_at cuts row.lend)

-- no two rows have one head
abbrev pub HasOwnHeads : List LoopRow → Type 0
HasOwnHeads rows = AllPairs (λ row other. row.head ≢ other.head) rows

-- nor one lend
abbrev pub HasOwnLends : List LoopRow → Type 0
HasOwnLends rows = AllPairs (λ row other. row.lend ≢ other.lend) rows

-- of two loops that overlap one lies within the other
abbrev pub IsNested : List LoopRange → Type 0
IsNested nest =
    (range other : LoopRange) → Contains nest range → Contains nest other → IsTrue (overlaps range other)
    → IsTrue (lies_within range other) ⊎ IsTrue (lies_within other range)

-- how many loops contain an address
abbrev pub depth_at : List LoopRange → ℕ → ℕ
depth_at nest at = count_by (λ range. contains range at) nest

-- no address lies in more loops than may nest
abbrev pub IsShallow : List LoopRange → Type 0
IsShallow nest = (at : ℕ) → depth_at nest at ≤ most_depth

-- ---- edges

-- the instruction at an address has the edge, and it goes there
pub record IsEdge (nest : List LoopRange) (cuts : List Cut) (at : ℕ) (edge : Edge) (to : ℕ) : Type 0 where
  pub cut : Cut
  pub stands : cut_at cuts at ≡ Some cut
  pub goes : target nest at (at + length cut.bytes) cut.instr edge ≡ Some to

-- each edge that an instruction has goes somewhere
abbrev pub HasTargets : List LoopRange → List Cut → Type 0
HasTargets nest cuts =
    (at : ℕ) (cut : Cut) (edge : Edge) → cut_at cuts at ≡ Some cut → IsTrue (has_edge cut.instr edge)
    → IsSome (target nest at (at + length cut.bytes) cut.instr edge)

-- to an instruction
abbrev pub GoesToStarts : List LoopRange → List Cut → Type 0
GoesToStarts nest cuts = (at to : ℕ) (edge : Edge) → IsEdge nest cuts at edge to → IsTrue (is_start cuts to)

-- each edge but Back goes forward, over the whole instruction
abbrev pub GoesForward : List LoopRange → List Cut → Type 0
GoesForward nest cuts =
    (at to : ℕ) (edge : Edge) (e : IsEdge nest cuts at edge to) → edge ≢ Back → at + length e.cut.bytes ≤ to

-- an edge from outside a loop to an address in it goes to the head
abbrev pub EntersAtHeads : List LoopRange → List Cut → Type 0
EntersAtHeads nest cuts =
    (at to : ℕ) (edge : Edge) (range : LoopRange) → IsEdge nest cuts at edge to → Contains nest range
    → ¬ IsTrue (contains range at) → IsTrue (contains range to) → to ≡ range.head

-- an edge from an address in a loop to one outside it comes from the lend
abbrev pub LeavesAtLends : List LoopRange → List Cut → Type 0
LeavesAtLends nest cuts =
    (at to : ℕ) (edge : Edge) (range : LoopRange) → IsEdge nest cuts at edge to → Contains nest range
    → IsTrue (contains range at) → ¬ IsTrue (contains range to) → at ≡ range.lend

-- The loops of these rows, in a workspace of this many words, are a nest in the code, and its edges keep to them.
pub record KeepsNest (rows : List LoopRow) (workspace : ℕ) (cuts : List Cut) : Type 0 where
  pub good : All (IsGood workspace) rows
  pub loops : All (IsLoop cuts) rows
  pub heads : HasOwnHeads rows
  pub lends : HasOwnLends rows
  pub nested : IsNested (ranges rows)
  pub shallow : IsShallow (ranges rows)
  -- no loop contains the first instruction
  pub begins : IsOutside (ranges rows) 0
  -- no instruction is spelled by no bytes
  pub spelled : AllByRecursion (λ cut. 0 < length cut.bytes) cuts
  pub targets : HasTargets (ranges rows) cuts
  pub starts : GoesToStarts (ranges rows) cuts
  pub forward : GoesForward (ranges rows) cuts
  pub enters : EntersAtHeads (ranges rows) cuts
  pub leaves : LeavesAtLends (ranges rows) cuts
