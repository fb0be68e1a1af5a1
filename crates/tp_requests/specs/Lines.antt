-- The lines of an input.
use Rattle.std.specs.Prelude.{ℕ, ◌-◌, ◌==◌, Bool, true, false, if◌then◌else◌, List, [], ◌∷◌, length, take, slice_index}
use Rattle.std.specs.List.{filter}

-- a line feed, and a carriage return
abbrev pub line_feed : ℕ
line_feed = 10

abbrev pub carriage_return : ℕ
carriage_return = 13

-- the bytes of a line up to its line feed, and whether it has one: the rest of an input has none
pub record Line : Type 0 where
  pub bytes : List ℕ
  pub ended : Bool

-- a byte in front of the first line
abbrev pub onto_first : ℕ → List Line → List Line
onto_first b [] = record { bytes = b ∷ []; ended = false } ∷ []
onto_first b (line ∷ lines) = record line { bytes = b ∷ line.bytes } ∷ lines

-- each line is the bytes up to a line feed; a rest that is not empty is a line
unfoldable pub lines_of : List ℕ → List Line
lines_of [] = []
lines_of (b ∷ input) =
    if b == line_feed then record { bytes = []; ended = true } ∷ lines_of input
    else onto_first b (lines_of input)

-- without a carriage return at the end
abbrev pub without_return : List ℕ → List ℕ
without_return bytes =
    if slice_index bytes (length bytes - 1) == carriage_return then take (length bytes - 1) bytes else bytes

-- what a line says: a carriage return just before its line feed is dropped
abbrev pub said_in : Line → List ℕ
said_in line = if line.ended then without_return line.bytes else line.bytes

-- the lines that a line feed ends
abbrev pub ended_lines : List ℕ → List Line
ended_lines input = filter (λ line. line.ended) (lines_of input)
