-- The order of what is known, and joins: of two things that may be known, what holds of both.
use Rattle.std.specs.Prelude.{◌≡◌, ◌≢◌, ℕ, ◌==◌, nat_le, min, max, Bool, true, false, ◌&&◌, if◌then◌else◌, IsTrue}
use Rattle.std.specs.Prelude.{int_le, List, map, length, Result, Ok}
use Rattle.std.specs.Ordering.{int_eq}
use Rattle.std.specs.Int.{int_min, int_max}
use Rattle.std.specs.List.{zip}
use Rattle.tp_state.specs.declared.kind.Kind.{Kind}
use Rattle.tp_state.specs.declared.kind.Kind.TheVariants as kind
use Rattle.tp_state.specs.declared.cell.Cell.{Cell}
use Rattle.tp_state.specs.declared.cell.Cell.TheVariants as cell
use Rattle.tp_state.specs.declared.state.State.{State}
use Rattle.tp_state.specs.declared.fault.StateCode.{StateCode}
use Rattle.tp_state.specs.declared.fault.StateCode.TheVariants.{S6, S9}
use Rattle.tp_state.specs.Answer.{◌>>◌, unless}
use Rattle.tp_state.specs.CellRules.{cell_at, is_free, has_value}

-- ---- kinds

-- the first is below the second where it says as much or more: a range lies within the other, and all is below Undef
abbrev pub kind_below : Kind → Kind → Bool
kind_below k kind.Undef = true
kind_below (kind.Int a b) (kind.Int c d) = int_le c a && int_le b d
kind_below (kind.Ptr p q) (kind.Ptr r s) = nat_le r p && nat_le q s
kind_below (kind.BytePtr p q) (kind.BytePtr r s) = nat_le r p && nat_le q s
kind_below k l = false

-- of two ranges of one form, the least range that has both
abbrev pub join_kinds : Kind → Kind → Kind
join_kinds (kind.Int a b) (kind.Int c d) = kind.Int (int_min a c) (int_max b d)
join_kinds (kind.Ptr p q) (kind.Ptr r s) = kind.Ptr (min p r) (max q s)
join_kinds (kind.BytePtr p q) (kind.BytePtr r s) = kind.BytePtr (min p r) (max q s)
join_kinds k l = kind.Undef

-- ---- cells

-- Known is below Any, and Any below Undef; a live control word is below itself alone
abbrev pub cell_below : Cell → Cell → Bool
cell_below c cell.Undef = is_free c
cell_below (cell.Known n) cell.Any = true
cell_below cell.Any cell.Any = true
cell_below (cell.Known n) (cell.Known m) = int_eq n m
cell_below (cell.Index l) (cell.Index k) = l == k
cell_below (cell.Count l) (cell.Count k) = l == k
cell_below c d = false

abbrev pub join_cells : Cell → Cell → Cell
join_cells (cell.Known n) (cell.Known m) = if int_eq n m then cell.Known n else cell.Any
join_cells (cell.Known n) cell.Any = cell.Any
join_cells cell.Any (cell.Known m) = cell.Any
join_cells cell.Any cell.Any = cell.Any
join_cells (cell.Index l) (cell.Index k) = if l == k then cell.Index l else cell.Undef
join_cells (cell.Count l) (cell.Count k) = if l == k then cell.Count l else cell.Undef
join_cells c d = cell.Undef

-- each word of the first says as much as the second's, or more; or one does not
abbrev pub AreBelow : List Cell → List Cell → Type 0
AreBelow cells others = (i : ℕ) → IsTrue (cell_below (cell_at cells i) (cell_at others i))

abbrev pub OneIsNotBelow : List Cell → List Cell → Type 0
OneIsNotBelow cells others = (i : ℕ) × (cell_below (cell_at cells i) (cell_at others i) ≡ false)

-- words that have a value in both have the same
abbrev pub AgreeOnValues : List Cell → List Cell → Type 0
AgreeOnValues cells others =
    (i : ℕ) → has_value (cell_at cells i) ≡ true → has_value (cell_at others i) ≡ true
    → cell_at cells i ≡ cell_at others i

-- two cells of one word are live control words alike, or none of them is one: else nothing is above both
abbrev pub cells_agree : Cell → Cell → Bool
cells_agree (cell.Index l) (cell.Index k) = l == k
cells_agree (cell.Count l) (cell.Count k) = l == k
cells_agree c d = is_free c && is_free d

-- ---- states

-- what is known in the first is known in the second, or more is known in the first
pub record IsBelow (s t : State) : Type 0 where
  pub wptr : s.wptr ≡ t.wptr
  pub phase : s.phase ≡ t.phase
  pub a : IsTrue (kind_below s.a t.a)
  pub b : IsTrue (kind_below s.b t.b)
  pub c : IsTrue (kind_below s.c t.c)
  pub sized : length s.cells ≡ length t.cells
  pub cells : AreBelow s.cells t.cells

-- something is above both: Wptr and the phase are those of both, and the same words are live control words
pub record MayMeet (s t : State) : Type 0 where
  pub wptr : s.wptr ≡ t.wptr
  pub phase : s.phase ≡ t.phase
  pub sized : length s.cells ≡ length t.cells
  pub cells : (i : ℕ) → IsTrue (cells_agree (cell_at s.cells i) (cell_at t.cells i))

abbrev pub joined_cells : List Cell → List Cell → List Cell
joined_cells cells others = map (λ pair. join_cells pair.0 pair.1) (zip cells others)

-- whether a value changed is answered
pub record ReportsChange {X : Type 0} (changed : Bool) (old new : X) : Type 0 where
  pub stays : changed ≡ false → new ≡ old
  pub moves : changed ≡ true → new ≢ old

-- what holds of both states
abbrev pub join : State → State → State
join t s = record {
  wptr = t.wptr;
  a = join_kinds t.a s.a;
  b = join_kinds t.b s.b;
  c = join_kinds t.c s.c;
  phase = t.phase;
  cells = joined_cells t.cells s.cells;
}

-- where two edges meet: S6, S9
abbrev pub meeting : State → State → Result State StateCode
meeting t s = do
  unless S6 (t.wptr == s.wptr)
  unless S9 (t.phase == s.phase)
  Ok (join t s)
