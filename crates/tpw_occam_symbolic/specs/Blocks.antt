-- Memory in blocks: each item has bytes of its own, so nothing is said of where it lies (CompCert's memory model).
use Rattle.std.specs.Prelude.{ℕ, zero, suc, ◌+◌, ◌-◌, Bool, ◌&&◌, ◌==◌, nat_le, nat_lt, if◌then◌else◌, List, [], ◌∷◌}
use Rattle.std.specs.Prelude.{length, slice_index}
use Rattle.std.specs.Int.{w32, to_le_bytes, from_le_bytes}
use Rattle.tpw_occam_symbolic.specs.declared.items.Item.{Item}
use Rattle.tpw_occam_symbolic.specs.declared.items.Item.TheVariants.{Variable, Temporary, Constant, Array, Zeros}

-- the byte of an item at a place in it
abbrev pub Blocks : Type 0
Blocks = Item → ℕ → ℕ

-- what an item is, and its number among those that are the same
abbrev pub sort_of : Item → ℕ
sort_of (Variable x) = 0
sort_of (Temporary t) = 1
sort_of (Constant c) = 2
sort_of (Array a) = 3
sort_of Zeros = 4

abbrev pub number_of : Item → ℕ
number_of (Variable x) = x
number_of (Temporary t) = t
number_of (Constant c) = c
number_of (Array a) = a
number_of Zeros = 0

abbrev pub is_item : Item → Item → Bool
is_item one other = (sort_of one == sort_of other) && (number_of one == number_of other)

-- the bytes of an item from a place on are these, and all else is as it was
unfoldable pub with_bytes : Item → ℕ → List ℕ → Blocks → Blocks
with_bytes item at bytes blocks other k =
    if is_item item other && nat_le at k && nat_lt k (at + length bytes) then slice_index bytes (k - at)
    else blocks other k

-- this many bytes of an item from a place on
unfoldable pub bytes_at : Blocks → Item → ℕ → ℕ → List ℕ
bytes_at blocks item at zero = []
bytes_at blocks item at (suc n) = blocks item at ∷ bytes_at blocks item (at + 1) n

-- a word is four bytes, least first
unfoldable pub word_at : Blocks → Item → ℕ → ℕ
word_at blocks item at = from_le_bytes w32 (bytes_at blocks item at 4)

unfoldable pub with_word : Item → ℕ → ℕ → Blocks → Blocks
with_word item at word blocks = with_bytes item at (to_le_bytes w32 word) blocks
