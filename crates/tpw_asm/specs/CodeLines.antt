-- A code as lines.
use Rattle.std.specs.Prelude.{◌≡◌, ◌⊎◌, ℕ, ◌-◌, ◌==◌, Bool, ◌&&◌, if◌then◌else◌, List, [], ◌∷◌, ◌++◌, length, map, take}
use Rattle.std.specs.Prelude.{drop, Option, Some, None}
use Rattle.std.specs.List.{list_all, flat_map, AllByRecursion}
use Rattle.std.specs.Str.{bytes_eq}
use Rattle.tp_decode.specs.declared.instr.Instr.{Instr}
use Rattle.tp_decode.specs.declared.fault.DecodeFault.{DecodeFault}
use Rattle.tp_decode.specs.Lines.{shortest}
use Rattle.tp_decode.specs.Cutting.{Cut, IsSpelled, code_of as code_of_cuts}
use Rattle.tp_decode.specs.Front.{Stops}
use Rattle.tpw_asm.specs.declared.program.Operation.TheVariants.{Plain}
use Rattle.tpw_asm.specs.declared.program.Line.{Line}
use Rattle.tpw_asm.specs.declared.program.Line.TheVariants.{Byte, Spelled}

-- the spelling is the shortest, or the shortest behind pfix 0
abbrev pub is_filled : List ℕ → List ℕ → Bool
is_filled spelling least =
    list_all (λ byte. byte == 0x20) (take (length spelling - length least) spelling)
    && bytes_eq (drop (length spelling - length least) spelling) least

-- the length that is stated: none for the shortest spelling
abbrev pub stated : List ℕ → List ℕ → Option ℕ
stated spelling least = if length spelling == length least then None else Some (length spelling)

-- the lines of an instruction with this spelling: one, or its bytes where no stated length gives the spelling
abbrev pub spelling_lines : List ℕ → Instr → List Line
spelling_lines spelling instr =
    if is_filled spelling (shortest instr) then Spelled (Plain instr) (stated spelling (shortest instr)) ∷ []
    else map Byte spelling

abbrev pub cut_lines : Cut → List Line
cut_lines cut = spelling_lines cut.bytes cut.instr

-- the lines of a code: those of the instructions that it is cut into, as far as it can be cut, and bytes behind them
pub record AreLinesOf (code : List ℕ) (lines : List Line) : Type 0 where
  pub cuts : List Cut
  pub rest : List ℕ
  pub joined : code ≡ code_of_cuts cuts ++ rest
  pub each : AllByRecursion IsSpelled cuts
  pub ends : (rest ≡ []) ⊎ ((e : DecodeFault) × Stops rest (length (code_of_cuts cuts)) e)
  pub are : lines ≡ flat_map cut_lines cuts ++ map Byte rest
