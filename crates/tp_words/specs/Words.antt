-- Words: a word is a number below 2 ^ 32, which reads unsigned as it is.
use Rattle.std.specs.Prelude.{ℕ, ◌-◌, ◌%◌, ◌^◌, ℤ, pos, negsuc}
use Rattle.std.specs.Int.{w32, cast_signed}

-- the word read in two's complement
abbrev pub signed : ℕ → ℤ
signed n = cast_signed w32 n

-- wrapping: the low 32 bits of a whole number
abbrev pub low_word : ℤ → ℕ
low_word (pos n) = n % 2 ^ 32
low_word (negsuc n) = 2 ^ 32 - 1 - n % 2 ^ 32

-- every bit of a word turned
abbrev pub complement : ℕ → ℕ
complement word = 2 ^ 32 - 1 - word
