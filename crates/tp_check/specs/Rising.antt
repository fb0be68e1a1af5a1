-- How many changes are left to a table.
use Rattle.std.specs.Prelude.{◌≡◌, ℕ, ◌+◌, ◌*◌, ◌-◌, ◌^◌, ◌<◌, Bool, true, false, ℤ, pos, negsuc, ◌+ℤ◌, ◌-ℤ◌, List}
use Rattle.std.specs.Prelude.{length, sum_by, Option, Some, None}
use Rattle.tp_image.specs.Image.{ImageValue}
use Rattle.tp_state.specs.declared.kind.Kind.{Kind}
use Rattle.tp_state.specs.declared.kind.Kind.TheVariants as kind
use Rattle.tp_state.specs.declared.cell.Cell.{Cell}
use Rattle.tp_state.specs.declared.cell.Cell.TheVariants as cell
use Rattle.tp_state.specs.declared.state.State.{State}

-- a whole number, or 0 in place of one below 0
abbrev pub size : ℤ → ℕ
size (pos n) = n
size (negsuc n) = 0

-- how many changes are left to a register
abbrev pub kind_height : Kind → ℕ
kind_height kind.Undef = 0
kind_height (kind.Int low high) = 1 + size (low +ℤ pos (2 ^ 31)) + size (pos (2 ^ 31 - 1) -ℤ high)
kind_height (kind.Ptr low high) = 1 + low + (2 ^ 32 - 1 - high)
kind_height (kind.BytePtr low high) = 1 + low + (2 ^ 32 - 1 - high)

-- to a word
abbrev pub cell_height : Cell → ℕ
cell_height cell.Undef = 0
cell_height cell.Any = 1
cell_height c = 2

-- to an address
unfoldable pub state_height : State → ℕ
state_height s = kind_height s.a + kind_height s.b + kind_height s.c + sum_by cell_height s.cells

abbrev pub height : ImageValue → Option State → ℕ
height image None = 2 ^ 35 + 2 * image.workspace
height image (Some s) = state_height s

-- and to a table
unfoldable pub table_height : ImageValue → List (Option State) → ℕ
table_height image states = sum_by (height image) states

-- it answers whether a table has changed, and where it has, fewer changes are left
pub record Moves (image : ImageValue) (moved : Bool) (old new : List (Option State)) : Type 0 where
  pub sized : length new ≡ length old
  pub stays : moved ≡ false → new ≡ old
  pub falls : moved ≡ true → table_height image new < table_height image old
