-- Runs of bytes
use Rattle.std.specs.Prelude.{ℕ, ◌+◌, ◌<◌, Bool, ◌==◌, ◌&&◌, ◌||◌, not, nat_le, if◌then◌else◌, is_some, List, [], ◌∷◌, length, slice_index}
use Rattle.tpw_occam_terms.specs.Spelling.{digit}
use Rattle.tpw_occam_lexing.specs.declared.bytes.Class.{Class}
use Rattle.tpw_occam_lexing.specs.declared.bytes.Class.TheVariants as class

-- A to Z, a to z
abbrev pub is_letter : ℕ → Bool
is_letter c = (nat_le 65 c && nat_le c 90) || (nat_le 97 c && nat_le c 122)

-- 0 to 9
abbrev pub is_digit : ℕ → Bool
is_digit c = nat_le 48 c && nat_le c 57

-- whether a byte is of a class
unfoldable pub has : Class → ℕ → Bool
has class.Word c = is_letter c || is_digit c || (c == 46)
has class.Digit c = is_digit c
has class.Hexadecimal c = is_some (digit c)
has class.Space c = c == 32
has class.Line c = not (c == 10)
has class.Wide c = nat_le 128 c
has class.Tab c = c == 9

-- how many bytes at the front are of a class
abbrev pub run : Class → List ℕ → ℕ
run kind [] = 0
run kind (c ∷ more) = if has kind c then 1 + run kind more else 0

-- a class of ASCII
abbrev pub IsNarrow : Class → Type 0
IsNarrow class.Word = Unit {0}
IsNarrow class.Digit = Unit {0}
IsNarrow class.Hexadecimal = Unit {0}
IsNarrow other = ⊥

-- the first byte is ASCII
abbrev pub IsMarked : List ℕ → Type 0
IsMarked bytes = (0 < length bytes) × (slice_index bytes 0 < 128)
