-- What a code may cost.
use Rattle.std.specs.Prelude.{ℕ}

-- the greatest budget, in instruction bytes
abbrev pub most_budget : ℕ
most_budget = 16777216
