-- The ranges of an image's fields.
use Rattle.std.specs.Prelude.{ℕ}
use Rattle.tp_image.specs.declared.image.Version.{Version}
use Rattle.tp_image.specs.declared.image.Version.TheVariants.{One, Two}

-- the most code bytes
abbrev pub most_code : Version → ℕ
most_code One = 2048
most_code Two = 8192

-- the fewest and the most workspace words
abbrev pub least_workspace : ℕ
least_workspace = 8

abbrev pub most_workspace : Version → ℕ
most_workspace One = 256
most_workspace Two = 512

-- the least start word: below it are the words that a process loses when it is descheduled
abbrev pub least_start : ℕ
least_start = 5

-- the most words of a packet, and of a result
abbrev pub most_message : ℕ
most_message = 64

-- the most loop rows
abbrev pub most_loops : ℕ
most_loops = 16
