-- How far a run is from its end, at most.
use Rattle.std.specs.Prelude.{◌≡◌, ℕ, ◌+◌, ◌-◌, ◌*◌, ◌<◌, ◌==◌, ◌&&◌, List, filter, sum_by, Contains, IsTrue}
use Rattle.std.specs.Prelude.{if◌then◌else◌}
use Rattle.tp_image.specs.declared.image.LoopRow.{LoopRow}
use Rattle.tp_decode.specs.Cutting.{Cut}
use Rattle.tp_flow.specs.declared.edge.Edge.{Edge}
use Rattle.tp_flow.specs.declared.edge.Edge.TheVariants.{Back}
use Rattle.tp_flow.specs.NestRanges.{range_of, contains}
use Rattle.tp_flow.specs.Edges.{is_edge}
use Rattle.tp_accept.specs.Bound.{Costs, costs_of, behind}

-- the turns that each loop still has to make, the present one counted
abbrev pub Counts : Type 0
Counts = LoopRow → ℕ

-- a loop with this many turns to make, of which one has begun: the others, and what lies behind its lend
abbrev pub turns_left : List Cut → Costs → LoopRow → ℕ → ℕ
turns_left code costs row count = (costs (behind code row.lend)).whole + (count - 1) * (costs row.head).left

-- the loops around an address
abbrev pub loops_at : List LoopRow → ℕ → List LoopRow
loops_at rows at = filter (λ row. contains (range_of row) at) rows

-- at the instruction at an address, of which this many bytes were executed, with these counts of the loops around it
unfoldable pub measure : List LoopRow → List Cut → ℕ → ℕ → Counts → ℕ
measure rows code at executed counts =
    let costs = costs_of rows code in
    (costs at).left - executed + sum_by (λ row. turns_left code costs row (counts row)) (loops_at rows at)

-- the count of a loop around the place where an edge goes: a loop that is entered has all its turns, and a way back
-- takes one
abbrev pub count_after : ℕ → Edge → LoopRow → ℕ → ℕ
count_after at edge row count =
    if contains (range_of row) at
    then (if is_edge edge Back && (row.lend == at) then count - 1 else count)
    else row.count

abbrev pub AreCountsAfter : List LoopRow → ℕ → Edge → ℕ → Counts → Counts → Type 0
AreCountsAfter rows at edge to counts later =
    (row : LoopRow) → Contains rows row → IsTrue (contains (range_of row) to)
    → later row ≡ count_after at edge row (counts row)

-- a way back is taken only where turns are left
abbrev pub HasTurns : List LoopRow → ℕ → Counts → Type 0
HasTurns rows at counts = (row : LoopRow) → Contains rows row → row.lend ≡ at → 1 < counts row
