-- Where items are placed, and what a program is made of.
use Rattle.std.specs.Prelude.{◌≡◌, ℕ, ◌+◌, ◌*◌, ◌<◌, ◌≤◌, ◌^◌, if◌then◌else◌, List, [], ◌∷◌, map, slice_index, All}
use Rattle.std.specs.Prelude.{slice_index_or, None, IsTrue, pos, ◌+ℤ◌, ◌-ℤ◌, ◌≤ℤ◌}
use Rattle.std.specs.Int.{w32, to_le_bytes}
use mir.Val.{SFits}
use Rattle.tp_words.specs.Words.{signed}
use Rattle.tp_decode.specs.Table.{entry}
use Rattle.tp_flow.specs.Limits.{most_turns, greatest_index}
use Rattle.tpw_asm.specs.declared.program.Spot.TheVariants.{Place}
use Rattle.tpw_asm.specs.declared.program.Loop.{Loop}
use Rattle.tpw_asm.specs.declared.program.Line.{Line}
use Rattle.tpw_asm.specs.declared.program.Line.TheVariants.{Spelled}
use Rattle.tpw_asm.specs.declared.program.Program.{Program}
use Rattle.tpw_occam_core.specs.declared.worker.Worker.{Worker}
use Rattle.tpw_occam_core.specs.Meaning.{first_bytes}
use Rattle.tpw_occam_core.specs.Sound.{are_declared, is_sound, globals, is_new_array, bytes_of}
use Rattle.tpw_occam_symbolic.specs.declared.code.Step.{Step}
use Rattle.tpw_occam_symbolic.specs.declared.code.Step.TheVariants.{Plain, Load, Store, Pointer}
use Rattle.tpw_occam_symbolic.specs.declared.code.CodeLine.{CodeLine}
use Rattle.tpw_occam_symbolic.specs.declared.code.Turns.{Turns}
use Rattle.tpw_occam_symbolic.specs.declared.items.Item.{Item}
use Rattle.tpw_occam_symbolic.specs.declared.items.Item.TheVariants.{Variable, Constant, Array, Zeros}
use Rattle.tpw_occam_symbolic.specs.declared.items.Placed.{Placed}
use Rattle.tpw_occam_symbolic.specs.Program.{place_bytes, message_bytes}
use Rattle.tpw_occam_symbolic.specs.Code.{Lines}
use Rattle.tpw_occam_symbolic.specs.Blocks.{Blocks, is_item, bytes_at}
use Rattle.tpw_occam_symbolic.specs.Leading.{Serves, cleared_bytes}
use Rattle.tpw_occam_symbolic.specs.MatchStates.{Site, operation_of}

-- how many words an item has, and the local word that it begins with
abbrev pub words_at : List Placed → Item → ℕ
words_at [] item = 0
words_at (one ∷ placed) item = if is_item one.item item then one.words else words_at placed item

abbrev pub local_at : List Placed → Item → ℕ
local_at [] item = 0
local_at (one ∷ placed) item = if is_item one.item item then one.local else local_at placed item

-- items follow one another, from one local word to another
abbrev pub AreBetween : ℕ → ℕ → List Placed → Type 0
AreBetween first most [] = first ≤ most
AreBetween first most (one ∷ placed) = (first ≤ one.local) × AreBetween (one.local + one.words) most placed

-- code and placed items
abbrev pub site_of : List CodeLine → List ℕ → ℕ → List Placed → Site
site_of code addresses wptr placed = record {
  code = code;
  addresses = addresses;
  wptr = wptr;
  sizes = λ item. 4 * words_at placed item;
  locals = λ item. local_at placed item;
}

-- ---- lines

-- placed items, of no code
abbrev pub places : List Placed → Site
places placed = site_of [] [] 0 placed

-- the line of a program that a line of code becomes
abbrev pub line_at : Site → CodeLine → Line
line_at site line = Spelled (operation_of site line.step) None

-- operands are those of instructions
abbrev pub HasOperand : Site → Step → Type 0
HasOperand site (Plain instr) = SFits w32 (entry instr).operand
HasOperand site (Load item word) = site.locals item + word < 2 ^ 31
HasOperand site (Store item word) = site.locals item + word < 2 ^ 31
HasOperand site (Pointer item word) = site.locals item + word < 2 ^ 31
HasOperand site step = Unit {0}

-- this many words are enough for the zeros of each array that may be declared
abbrev pub AreEnough : Worker → ℕ → Type 0
AreEnough w words =
    IsTrue (are_declared w) → (a : ℕ) → IsTrue (is_new_array w.arrays.items (globals w) a)
    → cleared_bytes (slice_index (map bytes_of w.arrays.items) a) ≤ 4 * words

-- the items that a step uses are large enough
pub record IsServed (w : Worker) (placed : List Placed) (step : Step) : Type 0 where
  pub serves : IsTrue (are_declared w) → Serves (map bytes_of w.arrays.items) (places placed).sizes step
  pub zeros : (word : ℕ) → step ≡ Pointer Zeros word → AreEnough w (words_at placed Zeros)

pub record IsPlaced (w : Worker) (placed : List Placed) (line : CodeLine) : Type 0 where
  pub operand : HasOperand (places placed) line.step
  pub served : IsServed w placed line.step

-- ---- loops

-- the loop of a program that turns become, where the local words begin with a word of the workspace
abbrev pub loop_at : Site → (start : ℕ) → Turns → Loop
loop_at site start turns = record {
  head = Place turns.head;
  lend = Place turns.lend;
  control = start + site.locals (Variable turns.index);
  count = turns.count;
  start = signed turns.start;
}

-- turns are as many as a loop may have, and the last index is a word
pub record AreTurns (turns : Turns) : Type 0 where
  pub some : 1 ≤ turns.count
  pub few : turns.count ≤ most_turns
  pub ends : (signed turns.start +ℤ pos turns.count -ℤ pos 1) ≤ℤ pos greatest_index

-- .. and the index has a word, and the count behind it
pub record IsRow (placed : List Placed) (row : Turns) : Type 0 where
  pub turns : AreTurns row
  pub room : 2 ≤ words_at placed (Variable row.index)

-- ---- words

-- what the items of a worker hold at first: constants, tables, and else zeros
abbrev pub first_blocks : Worker → Blocks
first_blocks w (Constant c) i = slice_index (to_le_bytes w32 c) i
first_blocks w (Array a) i = slice_index (slice_index_or (map first_bytes w.arrays.items) a []) i
first_blocks w item i = 0

-- the words of an item, behind this many words of the workspace, are what the item is at first
abbrev pub HoldsFirst : Worker → ℕ → List ℕ → Placed → Type 0
HoldsFirst w start words one =
    (i : ℕ) → i < one.words
    → to_le_bytes w32 (slice_index words (start + one.local + i)) ≡ bytes_at (first_blocks w) one.item (4 * i) 4

-- ---- programs

-- A program is made of a worker's code, whose items are placed.
pub record IsBuilt (w : Worker) (code : Lines) (placed : List Placed) (program : Program) : Type 0 where
  pub lines : program.lines.items ≡ map (line_at (places placed)) code.lines
  pub steps : All (IsPlaced w placed) code.lines
  pub loops : program.loops.items ≡ map (loop_at (places placed) program.start) code.loops
  pub rows : All (IsRow placed) code.loops
  pub words : All (HoldsFirst w program.start program.initial.items) placed
  pub most : ℕ
  pub between : AreBetween 0 most placed
  pub room : program.workspace ≤ 512 → program.start + most ≤ program.workspace
  pub packet : IsTrue (is_sound w) → 4 * program.packet ≡ place_bytes w.arrays.items w.receive
  pub result : IsTrue (is_sound w) → 4 * program.result ≡ message_bytes w.arrays.items w.send
