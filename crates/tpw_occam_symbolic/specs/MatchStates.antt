-- What carries a symbolic machine: the states of a worker, once items and places have addresses.
--
-- A byte or a register that is undefined carries anything.
use Rattle.std.specs.Prelude.{◌≡◌, ℕ, ◌+◌, ◌-◌, ◌*◌, ◌%◌, ◌^◌, ◌<◌, ◌≤◌, pos, List, slice_get, slice_index}
use Rattle.std.specs.Prelude.{Option, Some, None}
use Rattle.tp_decode.specs.Spelling.{IsSpelledAt}
use Rattle.tp_decode.specs.Table.{entry}
use Rattle.tp_decode.specs.declared.instr.Instr.{Instr}
use Rattle.tp_decode.specs.declared.instr.Instr.TheVariants.{Ldl, Stl, Ldlp}
use Rattle.tp_image.specs.Image.{ImageValue}
use Rattle.tp_step.specs.Memory.{Memory}
use Rattle.tp_step.specs.State.{State, mem_start}
use Rattle.tpw_asm.specs.Layout.{instr_at}
use Rattle.tpw_asm.specs.declared.program.Operation.{Operation}
use Rattle.tpw_asm.specs.declared.program.Operation.TheVariants as operation
use Rattle.tpw_occam_symbolic.specs.declared.items.Item.{Item}
use Rattle.tpw_occam_symbolic.specs.declared.code.Step.{Step}
use Rattle.tpw_occam_symbolic.specs.declared.code.Step.TheVariants.{Plain, Load, Store, Pointer, JumpTo, CjTo, Distance}
use Rattle.tpw_occam_symbolic.specs.declared.code.CodeLine.{CodeLine}
use Rattle.tpw_occam_symbolic.specs.Blocks.{Blocks}
use Rattle.tpw_occam_symbolic.specs.Symbolic.{Machine, Contents, number, address, distance}

-- where code and items lie
pub record Site : Type 0 where
  pub code : List CodeLine
  -- the addresses of places
  pub addresses : List ℕ
  pub wptr : ℕ
  -- how many bytes each item has, and the local word that it begins with
  pub sizes : Item → ℕ
  pub locals : Item → ℕ

abbrev pub address_of : Site → ℕ → ℕ
address_of site place = slice_index site.addresses place

-- the address of an item's first byte
abbrev pub base_of : Site → Item → ℕ
base_of site item = site.wptr + 4 * site.locals item

-- the operation of a step
abbrev pub operation_of : Site → Step → Operation
operation_of site (Plain instr) = operation.Plain instr
operation_of site (Load item word) = operation.Plain (Ldl (pos (site.locals item + word)))
operation_of site (Store item word) = operation.Plain (Stl (pos (site.locals item + word)))
operation_of site (Pointer item word) = operation.Plain (Ldlp (pos (site.locals item + word)))
operation_of site (JumpTo to) = operation.JumpTo to
operation_of site (CjTo to) = operation.CjTo to
operation_of site (Distance from to) = operation.Distance from to

-- the instruction of the step at a place
abbrev pub instr_of : Site → ℕ → Step → Instr
instr_of site place step = instr_at site.addresses place (operation_of site step)

-- jumps go forward, and distances are those of places that follow
abbrev pub GoesOn : Site → ℕ → Step → Type 0
GoesOn site place (JumpTo to) = address_of site (place + 1) ≤ address_of site to
GoesOn site place (CjTo to) = address_of site (place + 1) ≤ address_of site to
GoesOn site place (Distance from to) = address_of site from ≤ address_of site to
GoesOn site place step = Unit {0}

-- the step of each line is spelled in an image, from its place to the next
pub record IsSpelledIn (image : ImageValue) (site : Site) (place : ℕ) (step : Step) : Type 0 where
  pub spelled : IsSpelledAt image.code (address_of site place) record {
    function = (entry (instr_of site place step)).function;
    operand = (entry (instr_of site place step)).operand;
    next = address_of site (place + 1);
  }
  pub goes_on : GoesOn site place step

-- Code and items lie in an image: lines are spelled, one behind another, and items are in the workspace, each in words
-- of its own.
pub record LiesIn (image : ImageValue) (site : Site) : Type 0 where
  pub lines : (place : ℕ) (line : CodeLine) → slice_get site.code place ≡ Some line
      → IsSpelledIn image site place line.step
  pub small : (place : ℕ) → address_of site place < 2 ^ 16
  pub inside : (item : Item) → 0 < site.sizes item
      → (mem_start ≤ base_of site item) × (base_of site item + site.sizes item ≤ mem_start + 4 * image.workspace)
  pub few : image.workspace ≤ 512
  pub apart : (one other : Item) (i k : ℕ) → i < site.sizes one → k < site.sizes other
      → base_of site one + i ≡ base_of site other + k → one ≡ other

-- a word carries what a register of the symbolic machine holds
abbrev pub StandsFor : Site → Contents → ℕ → Type 0
StandsFor site (number n) word = word ≡ n
StandsFor site (address item at) word = word ≡ (base_of site item + at) % 2 ^ 32
StandsFor site (distance from to) word =
    (word ≡ address_of site to - address_of site from) × (address_of site from ≤ address_of site to)

abbrev pub IsHeld : Site → Contents → Option ℕ → Type 0
IsHeld site contents None = Unit {0}
IsHeld site contents (Some word) = StandsFor site contents word

-- defined bytes of memory are those of items
abbrev pub Agrees : Site → Blocks → Memory → Type 0
Agrees site blocks memory =
    (item : Item) (k byte : ℕ) → k < site.sizes item → memory (base_of site item + k) ≡ Some byte
    → byte ≡ blocks item k

-- a state carries a symbolic machine
pub record MatchStates (site : Site) (m : Machine) (s : State) : Type 0 where
  pub code : m.code ≡ site.code
  pub sizes : m.sizes ≡ site.sizes
  pub place : s.iptr ≡ pos (address_of site m.place)
  pub oreg : s.oreg ≡ 0
  pub wptr : s.wptr ≡ site.wptr
  pub areg : IsHeld site m.areg s.areg
  pub breg : IsHeld site m.breg s.breg
  pub creg : IsHeld site m.creg s.creg
  pub memory : Agrees site m.blocks s.memory
  pub error : s.error ≡ m.error
  pub stopped : s.stopped ≡ m.stopped
  pub to_come : s.to_come ≡ m.to_come
  pub sent : s.sent ≡ m.sent
  pub traced : s.traced ≡ m.traced
