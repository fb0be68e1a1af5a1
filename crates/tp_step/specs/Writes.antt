-- What is written: the stretches of memory that an instruction may change.
use Rattle.std.specs.Prelude.{◌≡◌, ℕ, ◌+◌, ◌-◌, ◌*◌, ◌<◌, ◌≤◌, ◌⊎◌, List, [], ◌∷◌, All, Option, if◌then◌else◌, ◌||◌}
use Rattle.std.specs.Prelude.{None}
use Rattle.std.specs.Option.{option_map_or, option_and_then}
use Rattle.tp_words.specs.Words.{signed}
use Rattle.tp_decode.specs.Spelling.{function_of, digit_of, is_pfix, is_nfix}
use Rattle.tp_decode.specs.Table.{instruction}
use Rattle.tp_decode.specs.declared.instr.Instr.{Instr}
use Rattle.tp_decode.specs.declared.instr.Instr.TheVariants.{Jump, Stl, Stnl, Input, Output, Lend, Sb, MoveBytes}
use Rattle.tp_image.specs.Image.{ImageValue}
use Rattle.tp_words.specs.Numbers.{words_on}
use Rattle.tp_step.specs.Memory.{Memory}
use Rattle.tp_step.specs.State.{State, mem_start, local}
use Rattle.tp_step.specs.Steps.{code_byte}

-- a number of bytes, from an address
pub record Stretch : Type 0 where
  pub from : ℕ
  pub bytes : ℕ

abbrev pub stretch : ℕ → ℕ → Stretch
stretch from bytes = record { from = from; bytes = bytes }

-- what the number in a register stands for; nothing where it is undefined
abbrev pub where_defined : Option ℕ → (ℕ → List Stretch) → List Stretch
where_defined register there = option_map_or there register []

-- the five words below Wptr
abbrev pub below_wptr : State → Stretch
below_wptr s = stretch (s.wptr - 20) 20

-- Who writes what. Every other instruction writes nothing.
abbrev pub written : Instr → State → List Stretch
-- local n
written (Stl n) s = stretch (local s n) 4 ∷ []
-- the word n words on from Areg
written (Stnl n) s = where_defined s.areg (λ a. stretch (words_on a n) 4 ∷ [])
-- the byte at Areg
written Sb s = where_defined s.areg (λ a. stretch a 1 ∷ [])
-- Areg bytes at Breg
written MoveBytes s = where_defined s.areg (λ n. where_defined s.breg (λ target. stretch target n ∷ []))
-- the index and the count at Breg, and a place to deschedule
written Lend s = below_wptr s ∷ where_defined s.breg (λ block. stretch block 8 ∷ [])
-- Areg bytes at Creg, and a place to deschedule
written Input s = below_wptr s ∷ where_defined s.areg (λ n. where_defined s.creg (λ target. stretch target n ∷ []))
-- places to deschedule
written Output s = below_wptr s ∷ []
written (Jump n) s = below_wptr s ∷ []
written instr s = []

-- the instruction that the byte at Iptr ends; none where it is a prefix
abbrev pub instruction_ended : State → ℕ → Option Instr
instruction_ended s byte =
    if is_pfix byte || is_nfix byte then None else instruction (function_of byte) (signed (s.oreg + digit_of byte))

-- what the next step may write
abbrev pub written_next : ImageValue → State → List Stretch
written_next image s =
    option_map_or (λ instr. written instr s) (option_and_then (instruction_ended s) (code_byte image.code s.iptr)) []

-- an address lies in none of the stretches
abbrev pub IsOutside : List Stretch → ℕ → Type 0
IsOutside stretches x = All (λ (part : Stretch). (x < part.from) ⊎ (part.from + part.bytes ≤ x)) stretches

-- each byte that lies in none of the stretches is as it was
abbrev pub ChangesOnly : List Stretch → Memory → Memory → Type 0
ChangesOnly stretches before after = (x : ℕ) → IsOutside stretches x → after x ≡ before x

-- all of a stretch belongs to another
abbrev pub LiesIn : Stretch → Stretch → Type 0
LiesIn whole part = (whole.from ≤ part.from) × (part.from + part.bytes ≤ whole.from + whole.bytes)

-- the workspace
abbrev pub workspace : ImageValue → Stretch
workspace image = stretch mem_start (4 * image.workspace)

-- What is written from one memory to another: the listed stretches and no other byte, and they lie in the workspace.
pub record Writes (image : ImageValue) (stretches : List Stretch) (before after : Memory) : Type 0 where
  pub inside : All (LiesIn (workspace image)) stretches
  pub only : ChangesOnly stretches before after
