-- Ways through a code, with the counts of its loops.
use Rattle.std.specs.Prelude.{◌≡◌, ℕ, ◌+◌, List, length, Some}
use Rattle.tp_image.specs.declared.image.LoopRow.{LoopRow}
use Rattle.tp_decode.specs.Cutting.{Cut, cut_at}
use Rattle.tp_flow.specs.declared.edge.Edge.{Edge}
use Rattle.tp_flow.specs.declared.edge.Edge.TheVariants.{Back}
use Rattle.tp_flow.specs.NestRanges.{ranges}
use Rattle.tp_flow.specs.NestKept.{IsEdge}
use Rattle.tp_accept.specs.Measure.{Counts, AreCountsAfter, HasTurns}

-- from an address on, with these counts, over one or more instructions, of this many bytes in all
pub data Walk (rows : List LoopRow) (code : List Cut) : ℕ → Counts → ℕ → Type 0 where
  Ends : (at : ℕ) (counts : Counts) (cut : Cut) → cut_at code at ≡ Some cut
      → Walk rows code at counts (length cut.bytes)
  Goes : (at to n : ℕ) (edge : Edge) (counts later : Counts) (e : IsEdge (ranges rows) code at edge to)
      → (edge ≡ Back → HasTurns rows at counts) → AreCountsAfter rows at edge to counts later
      → Walk rows code to later n → Walk rows code at counts (length e.cut.bytes + n)
