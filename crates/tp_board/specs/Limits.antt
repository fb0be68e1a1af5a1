-- How many packets and members there can be.
use Rattle.std.specs.Prelude.{ℕ}

abbrev pub most_packets : ℕ
most_packets = 1024

abbrev pub most_members : ℕ
most_members = 64
