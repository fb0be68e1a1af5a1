-- What code does, wherever it stands in a worker's code: from the place before it control gets to the place behind it.
use Rattle.std.specs.Prelude.{◌≡◌, ℕ, ◌+◌, ◌*◌, ◌/◌, ◌^◌, ◌<◌, ◌≤◌, false, nat_le, if◌then◌else◌, List, ◌++◌, length}
use Rattle.std.specs.Prelude.{slice_get, Some}
use Rattle.std.specs.Prelude.{slice_index}
use Rattle.tpw_occam_symbolic.specs.declared.items.Item.{Item}
use Rattle.tpw_occam_symbolic.specs.declared.items.Item.TheVariants.{Constant, Array, Zeros}
use Rattle.tpw_occam_symbolic.specs.declared.code.Step.{Step}
use Rattle.tpw_occam_symbolic.specs.declared.code.Step.TheVariants.{Load, Store, Pointer}
use Rattle.tpw_occam_symbolic.specs.declared.code.CodeLine.{CodeLine}
use Rattle.tpw_occam_symbolic.specs.Code.{Lines, place_behind}
use Rattle.std.specs.Int.{w32, to_le_bytes}
use Rattle.tpw_occam_symbolic.specs.Blocks.{bytes_at, word_at}
use Rattle.tpw_occam_symbolic.specs.Symbolic.{Machine, Leads, at_place}

-- whole words of this many bytes
abbrev pub word_bytes : ℕ → ℕ
word_bytes bytes = 4 * ((bytes + 3) / 4)

-- how many words one `move` clears at most
abbrev pub most_cleared : ℕ
most_cleared = 32

-- the bytes that one `move` clears of an array of this many
abbrev pub cleared_bytes : ℕ → ℕ
cleared_bytes bytes = if nat_le (word_bytes bytes) (4 * most_cleared) then word_bytes bytes else 4 * most_cleared

-- Items are large enough for what a step does with them, where arrays have this many bytes. A pointer to an array may go
-- to each of its words.
abbrev pub Serves : List ℕ → (Item → ℕ) → Step → Type 0
Serves arrays sizes (Load item word) = 4 * word + 4 ≤ sizes item
Serves arrays sizes (Store item word) = 4 * word + 4 ≤ sizes item
Serves arrays sizes (Pointer (Array a) word) = word_bytes (slice_index arrays a) ≤ sizes (Array a)
Serves arrays sizes (Pointer Zeros word) = Unit {0}
Serves arrays sizes (Pointer item word) = 4 * word + 4 ≤ sizes item
Serves arrays sizes step = Unit {0}

-- the lines stand at their place in the code of a machine
abbrev pub HasLines : Lines → Machine → Type 0
HasLines code m = (i : ℕ) → i < length code.lines → slice_get m.code (code.base + i) ≡ slice_get code.lines i

-- code has a line with this step
pub record HasStep (m : Machine) (made : Step) : Type 0 where
  pub place : ℕ
  pub line : CodeLine
  pub there : slice_get m.code place ≡ Some line
  pub is : line.step ≡ made

-- A machine before the lines by which code was lengthened.
pub record IsBefore (arrays : List ℕ) (old new : Lines) (m : Machine) : Type 0 where
  pub place : m.place ≡ place_behind old
  pub lines : HasLines new m
  pub served : (i : ℕ) (line : CodeLine) → slice_get m.code i ≡ Some line → Serves arrays m.sizes line.step
  pub running : m.stopped ≡ false

-- Control gets from a machine to the place behind the last line, and leaves what is said of both.
pub record Arrives (code : Lines) (m : Machine) (After : Machine → Machine → Type 0) : Type 0 where
  pub end : Machine
  pub way : Leads m end
  pub place : end.place ≡ place_behind code
  pub running : end.stopped ≡ false
  pub same_code : end.code ≡ m.code
  pub same_sizes : end.sizes ≡ m.sizes
  pub after : After m end

-- Code was lengthened, and the new lines lead each machine of which something is said before to one of which something
-- is said after.
pub record Does (arrays : List ℕ) (old new : Lines) (Before : Machine → Type 0) (After : Machine → Machine → Type 0)
    : Type 0 where
  pub base : new.base ≡ old.base
  pub more : List CodeLine
  pub lines : new.lines ≡ old.lines ++ more
  pub arrives : (m : Machine) → IsBefore arrays old new m → Before m → Arrives new m After

-- the words of constants hold them
abbrev pub HasConstants : Machine → Type 0
HasConstants m = (c : ℕ) → c < 2 ^ 32 → word_at m.blocks (Constant c) 0 ≡ c

-- an array's bytes are those of its item
abbrev pub HasArray : ℕ → List ℕ → Machine → Type 0
HasArray a bytes m = (i : ℕ) → i < length bytes → m.blocks (Array a) i ≡ slice_index bytes i

-- the first word of an item
abbrev pub HasWord : Item → ℕ → Machine → Type 0
HasWord i word m = bytes_at m.blocks i 0 4 ≡ to_le_bytes w32 word

-- the lines lengthen code, and make of each machine with its constants what f says
abbrev pub Makes : Lines → Lines → (Machine → Type 0) → (Machine → Machine) → Type 0
Makes old new Before f = (arrays : List ℕ) → Does arrays old new Before
    (λ m end. end ≡ at_place (place_behind new) (f m))
