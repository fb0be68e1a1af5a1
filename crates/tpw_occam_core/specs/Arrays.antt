-- The elements of an array, which is a list of bytes, seen as words or as bytes.
use Rattle.std.specs.Prelude.{ℕ, ◌+◌, ◌*◌, ◌/◌, ◌%◌, List, [], ◌∷◌, length, slice_index, slice_set}
use Rattle.std.specs.Int.{w32, to_le_bytes, from_le_bytes}
use Rattle.tpw_occam_core.specs.declared.kind.Kind.{Kind}
use Rattle.tpw_occam_core.specs.declared.kind.Kind.TheVariants.{Word, Byte}

-- how many elements there are
abbrev pub size : Kind → List ℕ → ℕ
size Word bytes = length bytes / 4
size Byte bytes = length bytes

-- the element at a subscript; a word has its low byte first
abbrev pub element : Kind → List ℕ → ℕ → ℕ
element Word bytes i =
    from_le_bytes w32
    (slice_index bytes (4 * i) ∷ slice_index bytes (4 * i + 1) ∷ slice_index bytes (4 * i + 2)
    ∷ slice_index bytes (4 * i + 3) ∷ [])
element Byte bytes i = slice_index bytes i

-- what a place of a kind takes of a word: a byte its low byte
abbrev pub kept : Kind → ℕ → ℕ
kept Word word = word
kept Byte word = word % 256

-- these bytes from a place on
abbrev pub written : List ℕ → ℕ → List ℕ → List ℕ
written bytes at [] = bytes
written bytes at (byte ∷ more) = written (slice_set bytes at byte) (at + 1) more

-- an array in which an element takes a word
abbrev pub with_element : Kind → List ℕ → ℕ → ℕ → List ℕ
with_element Word bytes i word = written bytes (4 * i) (to_le_bytes w32 word)
with_element Byte bytes i word = slice_set bytes i (word % 256)
