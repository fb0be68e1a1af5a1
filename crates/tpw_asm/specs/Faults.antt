-- What is wrong with lines and loops by themselves.
use Rattle.std.specs.Prelude.{◌≡◌, ℕ, ◌+◌, Bool, true, false, ◌||◌, ◌==◌, nat_lt, if◌then◌else◌, List, [], ◌∷◌, length}
use Rattle.std.specs.Prelude.{Option, Some, None, unwrap_or}
use Rattle.std.specs.Option.{option_map, option_or}
use Rattle.tpw_asm.specs.declared.program.Operation.{Operation}
use Rattle.tpw_asm.specs.declared.program.Operation.TheVariants.{Plain, JumpTo, CjTo, Distance}
use Rattle.tpw_asm.specs.declared.program.Line.{Line}
use Rattle.tpw_asm.specs.declared.program.Line.TheVariants.{Byte, Spelled}
use Rattle.tpw_asm.specs.declared.program.Spot.{Spot}
use Rattle.tpw_asm.specs.declared.program.Spot.TheVariants.{Place, Address}
use Rattle.tpw_asm.specs.declared.program.Loop.{Loop}
use Rattle.tpw_asm.specs.declared.fault.LineFault.{LineFault}
use Rattle.tpw_asm.specs.declared.fault.LineFault.TheVariants.{TooWide, NoPlace, Backward}
use Rattle.tpw_asm.specs.declared.fault.AssemblyFault.{AssemblyFault}
use Rattle.tpw_asm.specs.declared.fault.AssemblyFault.TheVariants.{Line as LineRefused, Row, Narrow}

-- of a way from one place to another, among this many lines
abbrev pub way_fault : ℕ → ℕ → ℕ → Option LineFault
way_fault count from to = if nat_lt count to then Some NoPlace else if nat_lt to from then Some Backward else None

abbrev pub operation_fault : ℕ → ℕ → Operation → Option LineFault
operation_fault count line (Plain instr) = None
operation_fault count line (JumpTo target) = way_fault count (line + 1) target
operation_fault count line (CjTo target) = way_fault count (line + 1) target
operation_fault count line (Distance from to) = way_fault count from to

abbrev pub line_fault : ℕ → ℕ → Line → Option LineFault
line_fault count number (Byte byte) = None
line_fault count number (Spelled operation bytes) =
    if nat_lt 8 (unwrap_or bytes 0) then Some TooWide else operation_fault count number operation

-- the fault of the first line that has one, in a program of this many lines; the first of these has a number
abbrev pub first_fault : ℕ → ℕ → List Line → Option AssemblyFault
first_fault count number [] = None
first_fault count number (line ∷ lines) =
    option_or (option_map (λ fault. LineRefused number fault) (line_fault count number line))
    (first_fault count (number + 1) lines)

-- no line has a fault
abbrev pub AreSound : List Line → Type 0
AreSound lines = first_fault (length lines) 0 lines ≡ None

-- a place behind the last one, among this many lines
abbrev pub is_behind : ℕ → Spot → Bool
is_behind count (Place place) = nat_lt count place
is_behind count (Address address) = false

abbrev pub is_row_behind : ℕ → Loop → Bool
is_row_behind count row = is_behind count row.head || is_behind count row.lend

-- the first loop with such a place
abbrev pub first_row : ℕ → ℕ → List Loop → Option AssemblyFault
first_row count number [] = None
first_row count number (row ∷ rows) =
    if is_row_behind count row then Some (Row number) else first_row count (number + 1) rows

-- as many bytes as are stated
abbrev pub is_stated : Line → ℕ → Bool
is_stated (Byte byte) length = true
is_stated (Spelled operation None) length = true
is_stated (Spelled operation (Some bytes)) length = bytes == length

-- the first line that is not as long as is stated
abbrev pub first_narrow : ℕ → List Line → List ℕ → Option AssemblyFault
first_narrow number [] lengths = None
first_narrow number (line ∷ lines) [] = None
first_narrow number (line ∷ lines) (bytes ∷ lengths) =
    if is_stated line bytes then first_narrow (number + 1) lines lengths else Some (Narrow number)
