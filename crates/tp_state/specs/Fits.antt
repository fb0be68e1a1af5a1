-- When the state of a worker's machine fits what is known of it at an address.
use Rattle.std.specs.Prelude.{◌≡◌, ℕ, ◌+◌, ◌*◌, ◌^◌, ◌<◌, ◌≤◌, Bool, true, false, ℤ, pos, ◌+ℤ◌, ◌≤ℤ◌, List, Option}
use Rattle.std.specs.Prelude.{Some, length, slice_get, All}
use Rattle.tp_words.specs.Words.{signed}
use Rattle.tp_image.specs.declared.image.LoopRow.{LoopRow}
use Rattle.tp_image.specs.Image.{ImageValue}
use Rattle.tp_flow.specs.RowRules.{last_index}
use Rattle.tp_flow.specs.NestRanges.{ranges}
use Rattle.tp_flow.specs.LoopsAround.{is_around}
use Rattle.tp_step.specs.Memory.{Memory, word_at}
use Rattle.tp_step.specs.State.{mem_start}
use Rattle.tp_step.specs.State.{State as Machine}
use Rattle.tp_state.specs.declared.kind.Kind.{Kind}
use Rattle.tp_state.specs.declared.kind.Kind.TheVariants as kind
use Rattle.tp_state.specs.declared.cell.Cell.{Cell}
use Rattle.tp_state.specs.declared.cell.Cell.TheVariants as cell
use Rattle.tp_state.specs.declared.state.State.{State}
use Rattle.tp_state.specs.CellRules.{cell_at}
use Rattle.tp_state.specs.Live.{AreInBlocks}

-- the address of a workspace word
abbrev pub word_address : ℕ → ℕ
word_address x = mem_start + 4 * x

-- a word whose signed value lies in a range
pub record InRange (low high : ℤ) (v : ℕ) : Type 0 where
  pub word : v < 2 ^ 32
  pub above : low ≤ℤ signed v
  pub below : signed v ≤ℤ high

-- ---- registers

abbrev pub KindFits : ImageValue → Kind → Option ℕ → Type 0
KindFits image kind.Undef r = Unit {0}
KindFits image (kind.Int low high) r = (v : ℕ) × (r ≡ Some v) × InRange low high v
KindFits image (kind.Ptr p q) r = (x : ℕ) × (r ≡ Some (word_address x)) × (p ≤ x) × (x ≤ q) × (x < image.workspace)
KindFits image (kind.BytePtr p q) r =
    (x : ℕ) × (r ≡ Some (mem_start + x)) × (p ≤ x) × (x ≤ q) × (x < 4 * image.workspace)

pub record RegistersFit (image : ImageValue) (t : State) (s : Machine) : Type 0 where
  pub a : KindFits image t.a s.areg
  pub b : KindFits image t.b s.breg
  pub c : KindFits image t.c s.creg

-- ---- words

abbrev pub CellFits : List LoopRow → Cell → Option ℕ → Type 0
CellFits rows cell.Undef r = Unit {0}
CellFits rows cell.Any r = (v : ℕ) × (r ≡ Some v) × (v < 2 ^ 32)
CellFits rows (cell.Known n) r = (v : ℕ) × (r ≡ Some v) × InRange n n v
CellFits rows (cell.Index l) r =
    (row : LoopRow) × (slice_get rows l ≡ Some row) × (v : ℕ) × (r ≡ Some v) × InRange row.start (last_index row) v
CellFits rows (cell.Count l) r =
    (row : LoopRow) × (slice_get rows l ≡ Some row) × (v : ℕ) × (r ≡ Some v) × InRange (pos 1) (pos row.count) v

-- each word of the workspace fits its cell
pub record WordsFit (rows : List LoopRow) (workspace : ℕ) (cells : List Cell) (m : Memory) : Type 0 where
  pub sized : length cells ≡ workspace
  pub word : (x : ℕ) → x < workspace → CellFits rows (cell_at cells x) (word_at m (word_address x))

-- each defined byte is one, in memory and in the packet still to come
pub record AreBytes (s : Machine) : Type 0 where
  pub memory : (a byte : ℕ) → s.memory a ≡ Some byte → byte < 256
  pub packet : All (λ byte. byte < 256) s.to_come

-- before a worker has its packet, all of it is still to come
abbrev pub HasPacket : ImageValue → Machine → Type 0
HasPacket image s = s.phase ≡ 0 → 4 * image.packet ≤ length s.to_come

-- ---- loops

-- the block of the loop of row l is live: its cells name the row, and index and count add up to the declared sum
pub record IsLive (cells : List Cell) (m : Memory) (l : ℕ) (row : LoopRow) : Type 0 where
  pub index_cell : cell_at cells row.control ≡ cell.Index l
  pub count_cell : cell_at cells (row.control + 1) ≡ cell.Count l
  pub index : ℕ
  pub left : ℕ
  pub index_is : word_at m (word_address row.control) ≡ Some index
  pub left_is : word_at m (word_address (row.control + 1)) ≡ Some left
  pub sum : (signed index +ℤ signed left) ≡ (row.start +ℤ pos row.count)

-- the live control words are those of the blocks of some loops
pub record LoopsFit (rows : List LoopRow) (around : ℕ → Bool) (cells : List Cell) (m : Memory) : Type 0 where
  pub live : (l : ℕ) (row : LoopRow) → around l ≡ true → slice_get rows l ≡ Some row → IsLive cells m l row
  pub only : AreInBlocks rows around cells

-- ---- states

-- Iptr is at an address, between instructions, and Wptr is the word that is known, with five words below it
pub record IsAtAddress (image : ImageValue) (at x : ℕ) (s : Machine) : Type 0 where
  pub running : s.stopped ≡ false
  pub iptr : s.iptr ≡ pos at
  pub oreg : s.oreg ≡ 0
  pub wptr : s.wptr ≡ word_address x
  pub roomy : 5 ≤ x
  pub inside : x < image.workspace

-- the same among given loops
pub record FitsAmong (image : ImageValue) (around : ℕ → Bool) (at : ℕ) (t : State) (s : Machine) : Type 0 where
  pub place : IsAtAddress image at t.wptr s
  pub phase : s.phase ≡ t.phase
  pub registers : RegistersFit image t s
  pub words : WordsFit image.loops image.workspace t.cells s.memory
  pub bytes : AreBytes s
  pub packet : HasPacket image s
  pub loops : LoopsFit image.loops around t.cells s.memory

-- The machine's state fits what is known at an address: it is running, Iptr, Wptr and the phase agree, registers, words
-- and bytes fit, the packet that it waits for is there, and the live control words are those of the loops around the
-- address.
abbrev pub Fits : ImageValue → (at : ℕ) → State → Machine → Type 0
Fits image at t s = FitsAmong image (is_around (ranges image.loops) at) at t s
