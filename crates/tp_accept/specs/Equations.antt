-- The bound by equations: what the cost L of each instruction, and the cost V of each address as it is seen from one
-- before it, have to meet. They determine both.
use Rattle.std.specs.Prelude.{◌≡◌, ℕ, ◌+◌, ◌<◌, ◌==◌, ◌&&◌, not, List, length, find, Option, Some, IsTrue}
use Rattle.tp_image.specs.declared.image.LoopRow.{LoopRow}
use Rattle.tp_decode.specs.Cutting.{Cut, cut_at}
use Rattle.tp_flow.specs.NestRanges.{range_of, contains}
use Rattle.tp_flow.specs.RowRules.{is_start}
use Rattle.tp_accept.specs.Bound.{Costs, left_of, whole_of}

-- costs as they are seen from an address
abbrev pub seen_from : (ℕ → ℕ) → (ℕ → ℕ → ℕ) → ℕ → Costs
seen_from L V at = λ to. record { left = L to; whole = V at to }

-- the loop that begins at an address and does not contain the one from which it is seen
abbrev pub entered_at : List LoopRow → ℕ → ℕ → Option LoopRow
entered_at rows at to = find (λ row. (row.head == to) && not (contains (range_of row) at)) rows

pub record AreCosts (rows : List LoopRow) (code : List Cut) (L : ℕ → ℕ) (V : ℕ → ℕ → ℕ) : Type 0 where
  pub each : (at : ℕ) (cut : Cut) → cut_at code at ≡ Some cut
      → L at ≡ left_of (seen_from L V at) (length cut.bytes) (at + length cut.bytes) cut.instr
  pub seen : (at to : ℕ) → at < to → IsTrue (is_start code to)
      → V at to ≡ whole_of code (seen_from L V at) (L to) (entered_at rows at to)
