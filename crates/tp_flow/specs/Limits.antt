-- What loops may do.
use Rattle.std.specs.Prelude.{ℕ, ◌-◌, ◌^◌}

-- the most turns of a loop
abbrev pub most_turns : ℕ
most_turns = 10000

-- the greatest index of a turn: the greatest signed word
abbrev pub greatest_index : ℕ
greatest_index = 2 ^ 31 - 1

-- the most loops that lie within one another
abbrev pub most_depth : ℕ
most_depth = 4
