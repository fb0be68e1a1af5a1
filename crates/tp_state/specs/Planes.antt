-- How what is known of words is kept: two bits of each word, in two planes, and a value.
use Rattle.std.specs.Prelude.{◌≡◌, ℕ, ◌+◌, ◌-◌, ◌*◌, ◌/◌, ◌%◌, ◌^◌, ◌<◌, ◌≤◌, ◌==◌, Bool, true, false, not, nat_lt}
use Rattle.std.specs.Prelude.{if◌then◌else◌, List, map, length, slice_index_or, bit_and, bit_or, bit_xor, ◌⊎◌}
use Rattle.std.specs.Int.{bit_at}
use Rattle.std.specs.List.{range_with_len}
use Rattle.tp_words.specs.Words.{signed}
use Rattle.tp_state.specs.declared.cell.Cell.{Cell}
use Rattle.tp_state.specs.declared.cell.Cell.TheVariants.{Undef, Any, Known, Index, Count}
use Rattle.tp_state.specs.declared.planes.Bits.{Bits}
use Rattle.tp_state.specs.CellRules.{has_value}

-- ---- one word

abbrev pub is_set : ℕ → ℕ → Bool
is_set n j = bit_at n j == 1

-- a live control word: the index of a row below 256, or the count of a row that 256 is added to
abbrev pub live_of : ℕ → Cell
live_of v = if nat_lt v 256 then Index v else Count (v - 256)

-- Known has the bits 00, Any 10, Undef 11, and a live control word 01
abbrev pub cell_of : Bool → Bool → ℕ → Cell
cell_of false false v = Known (signed v)
cell_of true false v = Any
cell_of true true v = Undef
cell_of false true v = live_of v

-- the row of a live control word is a byte
abbrev pub HasByteRow : Cell → Type 0
HasByteRow (Index l) = l < 256
HasByteRow (Count l) = l < 256
HasByteRow cell = Unit {0}

-- ---- 64 words

-- the cell of one of 64 words, with this value
abbrev pub bits_cell : Bits → ℕ → ℕ → Cell
bits_cell b j v = cell_of (is_set b.first j) (is_set b.second j) v

-- the words of a mask have this bit now
abbrev pub with_mask : Bool → ℕ → ℕ → ℕ
with_mask true mask n = bit_or n mask
with_mask false mask n = bit_xor (bit_or n mask) mask

-- the words of a mask may have taken something
abbrev pub blurred_bits : ℕ → Bits → Bits
blurred_bits mask b = record { first = bit_or b.first (bit_xor (bit_and b.second mask) mask); second = b.second }

-- the live control words, and those that are undefined
abbrev pub live_bits : Bits → ℕ
live_bits b = bit_and b.second (bit_xor b.first b.second)

abbrev pub undefined_bits : Bits → ℕ
undefined_bits b = bit_and b.first b.second

-- what holds of both, where d has the words whose values differ
abbrev pub joined_bits : ℕ → Bits → Bits → Bits
joined_bits d b c = record {
  first = bit_or (bit_or (bit_or b.first c.first) (bit_xor b.second c.second)) d;
  second = bit_or b.second c.second;
}

-- the words of which the first does not say as much as the second, where d has the words whose values differ
abbrev pub unlike_bits : ℕ → Bits → Bits → ℕ
unlike_bits d b c = bit_or (bit_or b.first (bit_xor b.second c.second)) d

abbrev pub live_under_free : Bits → Bits → ℕ
live_under_free b c = bit_and c.first b.second

abbrev pub failing_bits : ℕ → Bits → Bits → ℕ
failing_bits d b c =
    bit_or (bit_xor (unlike_bits d b c) (bit_and (unlike_bits d b c) c.first))
    (bit_xor (live_under_free b c) (bit_and (bit_and (live_under_free b c) c.second) b.first))

-- ---- the words of a workspace

abbrev pub no_bits : Bits
no_bits = record { first = 0; second = 0 }

unfoldable pub cell_in : List ℕ → List Bits → ℕ → Cell
cell_in values planes x = bits_cell (slice_index_or planes (x / 64) no_bits) (x % 64) (slice_index_or values x 0)

-- the cells of all words
unfoldable pub seen : List ℕ → List Bits → List Cell
seen values planes = map (cell_in values planes) (range_with_len 0 (length values))

-- the planes have a bit for each word, and no word more of bits than it takes; behind the workspace their words are
-- undefined
pub record IsWhole (values : List ℕ) (planes : List Bits) : Type 0 where
  pub few : length values < 2 ^ 32
  pub enough : length values ≤ 64 * length planes
  pub no_more : 64 * length planes < length values + 64
  pub padded : (x : ℕ) → length values ≤ x → x < 64 * length planes → cell_in values planes x ≡ Undef
  pub rows : (x : ℕ) → x < length values → HasByteRow (cell_in values planes x)

-- this many words are known, with the values that they have; and behind these nothing is
abbrev pub AreKnown : ℕ → List Bits → Type 0
AreKnown words planes =
    (values : List ℕ) (i : ℕ) → i < words → cell_in values planes i ≡ cell_of false false (slice_index_or values i 0)

abbrev pub ArePadded : ℕ → List Bits → Type 0
ArePadded words planes =
    (values : List ℕ) (i : ℕ) → words ≤ i → i < 64 * length planes → cell_in values planes i ≡ Undef

-- whatever the values are, each word from x to an end is such; or one of them is not
abbrev pub EachIs : (Cell → Bool) → List Bits → (x end : ℕ) → Type 0
EachIs test planes x end = (values : List ℕ) (i : ℕ) → x ≤ i → i < end → test (cell_in values planes i) ≡ true

abbrev pub OneIsNot : (Cell → Bool) → List Bits → (x end : ℕ) → Type 0
OneIsNot test planes x end =
    (values : List ℕ) → (i : ℕ) × (x ≤ i) × (i < end) × (test (cell_in values planes i) ≡ false)

-- what is known of some word has changed
abbrev pub OneChanges : List ℕ → (old new : List Bits) → Type 0
OneChanges values old new = (i : ℕ) × (i < 64 * length old) × ¬ (cell_in values new i ≡ cell_in values old i)

-- a word has these bits, whatever it had before
abbrev pub with_bits : Bool → Bool → List ℕ → ℕ → Cell → Cell
with_bits first second values i c = cell_of first second (slice_index_or values i 0)

-- two words have different values
abbrev pub differ_at : (values others : List ℕ) → ℕ → Bool
differ_at values others i = not (slice_index_or values i 0 == slice_index_or others i 0)

-- the words from x to an end changed by a function of their numbers and cells, and no others
pub record ChangesPlanes (values : List ℕ) (old new : List Bits) (f : ℕ → Cell → Cell) (x end : ℕ) : Type 0 where
  pub long : length new ≡ length old
  pub inside : (i : ℕ) → x ≤ i → i < end → cell_in values new i ≡ f i (cell_in values old i)
  pub outside : (i : ℕ) → (i < x) ⊎ (end ≤ i) → cell_in values new i ≡ cell_in values old i

-- words that have a value in both have the same, and all values are words
pub record Agree (values other_values : List ℕ) (planes others : List Bits) : Type 0 where
  pub words : (i : ℕ) → slice_index_or values i 0 < 2 ^ 32
  pub other_words : (i : ℕ) → slice_index_or other_values i 0 < 2 ^ 32
  pub alike : (i : ℕ) → i < 64 * length planes → has_value (cell_in values planes i) ≡ true
      → has_value (cell_in other_values others i) ≡ true → cell_in values planes i ≡ cell_in other_values others i

-- these words of two planes' words differ in a bit
abbrev pub Moves : Bits → Bits → Type 0
Moves b c = (j : ℕ) × (j < 64) × ¬ ((is_set c.first j ≡ is_set b.first j) × (is_set c.second j ≡ is_set b.second j))
