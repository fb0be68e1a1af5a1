-- What a text may have at most.
use Rattle.std.specs.Prelude.{ℕ}

-- lines and labels
abbrev pub most : ℕ
most = 16384

-- words of a workspace
abbrev pub most_words : ℕ
most_words = 4096

-- the largest number of 16 bits
abbrev pub most_count : ℕ
most_count = 65535

-- bytes of a spelling
abbrev pub most_bytes : ℕ
most_bytes = 8
