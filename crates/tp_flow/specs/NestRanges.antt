-- The ranges of loops, from the head to the lend. Both ends belong to a range.
use Rattle.std.specs.Prelude.{ℕ, Bool, ◌&&◌, ◌||◌, not, nat_le, ◌==◌, List, map, Option, position, slice_get}
use Rattle.std.specs.Option.{option_map}
use Rattle.tp_image.specs.declared.image.LoopRow.{LoopRow}
use Rattle.tp_flow.specs.declared.range.LoopRange.{LoopRange}

abbrev pub range_of : LoopRow → LoopRange
range_of row = record { head = row.head; lend = row.lend }

-- the ranges of all rows, in their order: the loop nest
abbrev pub ranges : List LoopRow → List LoopRange
ranges rows = map range_of rows

abbrev pub contains : LoopRange → ℕ → Bool
contains range at = nat_le range.head at && nat_le at range.lend

-- they have an address in common
abbrev pub overlaps : LoopRange → LoopRange → Bool
overlaps range other = nat_le range.head other.lend && nat_le other.head range.lend

-- each address of the first is one of the second; equal ranges lie within one another
abbrev pub lies_within : LoopRange → LoopRange → Bool
lies_within range other = nat_le other.head range.head && nat_le range.lend other.lend

-- they overlap, and neither lies within the other
abbrev pub crosses : LoopRange → LoopRange → Bool
crosses range other = overlaps range other && not (lies_within range other || lies_within other range)

abbrev pub shares_an_end : LoopRange → LoopRange → Bool
shares_an_end range other = (range.head == other.head) || (range.lend == other.lend)

-- the number of the row whose lend is at an address
abbrev pub number_ended_at : List LoopRange → ℕ → Option ℕ
number_ended_at nest at = position (λ range. range.lend == at) nest

-- the head of a row's loop
abbrev pub head_of : List LoopRange → ℕ → Option ℕ
head_of nest l = option_map (λ range. range.head) (slice_get nest l)
