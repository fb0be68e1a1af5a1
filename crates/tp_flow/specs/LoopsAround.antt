-- The loops around an address, by the numbers of their rows, and how they change along an edge.
use Rattle.std.specs.Prelude.{◌≡◌, ℕ, Bool, false, ◌&&◌, ◌||◌, not, ◌==◌, List, Option, Some, None, slice_get, position}
use Rattle.std.specs.Prelude.{filter, length}
use Rattle.std.specs.Option.{option_map_or}
use Rattle.std.specs.List.{range_with_len}
use Rattle.tp_flow.specs.declared.edge.Edge.{Edge}
use Rattle.tp_flow.specs.declared.edge.Edge.TheVariants.{Out}
use Rattle.tp_flow.specs.declared.range.LoopRange.{LoopRange}
use Rattle.tp_flow.specs.NestRanges.{contains, number_ended_at}

-- the loop of row l contains an address
abbrev pub is_around : List LoopRange → ℕ → ℕ → Bool
is_around nest at l = option_map_or (λ range. contains range at) (slice_get nest l) false

-- no loop contains an address
abbrev pub IsOutside : List LoopRange → ℕ → Type 0
IsOutside nest at = (l : ℕ) → is_around nest at l ≡ false

-- the numbers of the loops that contain an address, rising
abbrev pub rows_around : List LoopRange → ℕ → List ℕ
rows_around nest at = filter (is_around nest at) (range_with_len 0 (length nest))

-- an edge's target is the head of a loop that does not contain its source
abbrev pub is_entered : ℕ → ℕ → LoopRange → Bool
is_entered at to range = (range.head == to) && not (contains range at)

-- the loop that an edge enters, if it enters one
abbrev pub entered_by : List LoopRange → ℕ → ℕ → Option ℕ
entered_by nest at to = position (is_entered at to) nest

-- the loop that an edge leaves, if it leaves one: the Out edge of a lend leaves the loop that ends there
abbrev pub left_by : List LoopRange → ℕ → Edge → Option ℕ
left_by nest at Out = number_ended_at nest at
left_by nest at edge = None

-- loops without one of them, if any, and with one more, if any
abbrev pub without : Option ℕ → (ℕ → Bool) → ℕ → Bool
without None around l = around l
without (Some e) around l = around l && not (l == e)

abbrev pub along_with : Option ℕ → (ℕ → Bool) → ℕ → Bool
along_with None around l = around l
along_with (Some e) around l = around l || (l == e)

-- the loops around an edge's target, from those around its source
abbrev pub around_after : List LoopRange → ℕ → Edge → ℕ → ℕ → Bool
around_after nest at edge to = along_with (entered_by nest at to) (without (left_by nest at edge) (is_around nest at))
