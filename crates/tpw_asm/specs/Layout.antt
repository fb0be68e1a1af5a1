-- Layouts: how long the lines of a program are, and what they are spelled as.
use Rattle.std.specs.Prelude.{◌≡◌, ◌≤◌, ℕ, ◌+◌, ◌-◌, pos, List, [], ◌∷◌, ◌++◌, length, map, replicate, slice_index}
use Rattle.std.specs.Prelude.{unwrap_or}
use Rattle.std.specs.List.{concat}
use Rattle.tp_decode.specs.declared.instr.Instr.{Instr}
use Rattle.tp_decode.specs.declared.instr.Instr.TheVariants.{Jump, Cj, Ldc}
use Rattle.tp_decode.specs.Lines.{shortest}
use Rattle.tpw_asm.specs.declared.program.Operation.{Operation}
use Rattle.tpw_asm.specs.declared.program.Operation.TheVariants.{Plain, JumpTo, CjTo, Distance}
use Rattle.tpw_asm.specs.declared.program.Line.{Line}
use Rattle.tpw_asm.specs.declared.program.Line.TheVariants.{Byte, Spelled}

-- the addresses of the places of lines that are this many bytes long, the first of which is at an address: one more
-- than lines
abbrev pub addresses_from : ℕ → List ℕ → List ℕ
addresses_from at [] = at ∷ []
addresses_from at (bytes ∷ lengths) = at ∷ addresses_from (at + bytes) lengths

-- how many bytes lie from one place to another
abbrev pub distance : List ℕ → ℕ → ℕ → ℕ
distance addresses from to = slice_index addresses to - slice_index addresses from

-- the instruction of a line, with labels as their addresses; a jump counts from the place behind it
abbrev pub instr_at : List ℕ → ℕ → Operation → Instr
instr_at addresses line (Plain instr) = instr
instr_at addresses line (JumpTo target) = Jump (pos (distance addresses (line + 1) target))
instr_at addresses line (CjTo target) = Cj (pos (distance addresses (line + 1) target))
instr_at addresses line (Distance from to) = Ldc (pos (distance addresses from to))

-- a spelling filled up by pfix 0 to this many bytes
abbrev pub filled : ℕ → List ℕ → List ℕ
filled bytes spelling = replicate (bytes - length spelling) 0x20 ++ spelling

-- what a line is spelled as: canonically, where no more bytes are stated
abbrev pub spelled_at : List ℕ → ℕ → Line → List ℕ
spelled_at addresses line (Byte byte) = byte ∷ []
spelled_at addresses line (Spelled operation bytes) = filled (unwrap_or bytes 0)
    (shortest (instr_at addresses line operation))

-- what lines are spelled as, the first of which has a number
abbrev pub spelled_from : List ℕ → ℕ → List Line → List (List ℕ)
spelled_from addresses number [] = []
spelled_from addresses number (line ∷ lines) = spelled_at addresses number line ∷ spelled_from addresses (number + 1)
    lines

-- what lines that are this many bytes long are spelled as
abbrev pub spellings : List ℕ → List Line → List (List ℕ)
spellings lengths lines = spelled_from (addresses_from 0 lengths) 0 lines

-- a layout: where lines are this many bytes long, that many bytes spell them
abbrev pub IsLayout : List Line → List ℕ → Type 0
IsLayout lines lengths = map length (spellings lengths lines) ≡ lengths

-- no line is longer than in the other
abbrev pub AreAtMost : List ℕ → List ℕ → Type 0
AreAtMost [] [] = Unit {0}
AreAtMost [] (y ∷ ys) = ⊥
AreAtMost (x ∷ xs) [] = ⊥
AreAtMost (x ∷ xs) (y ∷ ys) = (x ≤ y) × AreAtMost xs ys

-- the layout in which no line is longer than in any other
pub record IsLeastLayout (lines : List Line) (lengths : List ℕ) : Type 0 where
  pub layout : IsLayout lines lengths
  pub least : (others : List ℕ) → IsLayout lines others → AreAtMost lengths others

-- the code that lines are assembled to
abbrev pub code_of : List ℕ → List Line → List ℕ
code_of lengths lines = concat (spellings lengths lines)
