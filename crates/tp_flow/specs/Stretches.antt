-- Stretches of a code: addresses in a row that lie in the same loops.
use Rattle.std.specs.Prelude.{◌≡◌, ℕ, ◌≤◌, List, All}
use Rattle.tp_flow.specs.declared.range.LoopRange.{LoopRange}
use Rattle.tp_flow.specs.NestRanges.{contains}

-- each loop contains both addresses or neither
abbrev pub IsAlike : List LoopRange → ℕ → ℕ → Type 0
IsAlike nest at to = All (λ range. contains range at ≡ contains range to) nest

-- the addresses from the first to the last are alike
abbrev pub IsStretch : List LoopRange → ℕ → ℕ → Type 0
IsStretch nest first last = (at : ℕ) → first ≤ at → at ≤ last → IsAlike nest first at
