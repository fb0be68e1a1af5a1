-- Which programs are read back when they are written.
use Rattle.std.specs.Prelude.{ℕ, ◌≤◌, ◌<◌, ◌^◌, length, Option, Some, None, FitsSigned}
use Rattle.std.specs.Int.{w32}
use Rattle.std.specs.List.{AllByRecursion}
use Rattle.tp_decode.specs.Table.{entry}
use Rattle.tpw_asm.specs.declared.program.Operation.{Operation}
use Rattle.tpw_asm.specs.declared.program.Operation.TheVariants.{Plain, JumpTo, CjTo, Distance}
use Rattle.tpw_asm.specs.declared.program.Line.{Line}
use Rattle.tpw_asm.specs.declared.program.Line.TheVariants.{Byte, Spelled}
use Rattle.tpw_asm.specs.declared.program.Spot.{Spot}
use Rattle.tpw_asm.specs.declared.program.Spot.TheVariants.{Place, Address}
use Rattle.tpw_asm.specs.declared.program.Loop.{Loop}
use Rattle.tp_image.specs.Limits.{most_loops}
use Rattle.tpw_text.specs.Limits.{most, most_words, most_count, most_bytes}
use Rattle.tpw_text.specs.Programs.{ProgramSaid}
use Rattle.tpw_text_laws.specs.Sources.{labels_of}

-- a place among this many lines, or an address of 16 bits
abbrev pub MayBeSpot : ℕ → Spot → Type 0
MayBeSpot count (Place place) = place ≤ count
MayBeSpot count (Address address) = address ≤ most_count

-- a row, among this many lines
pub record MayBeRow (count : ℕ) (row : Loop) : Type 0 where
  pub head : MayBeSpot count row.head
  pub lend : MayBeSpot count row.lend
  pub control : row.control ≤ most_count
  pub turns : row.count ≤ most_count
  pub start : FitsSigned w32 row.start

-- operands of 32 bits, and places among this many lines
abbrev pub MayBeOperation : ℕ → Operation → Type 0
MayBeOperation count (Plain i) = FitsSigned w32 (entry i).operand
MayBeOperation count (JumpTo to) = to ≤ count
MayBeOperation count (CjTo to) = to ≤ count
MayBeOperation count (Distance from to) = (from ≤ count) × (to ≤ count)

-- no length is stated, or one of 1 to 8 bytes
abbrev pub MayBeStated : Option ℕ → Type 0
MayBeStated None = Unit {0}
MayBeStated (Some bytes) = (0 < bytes) × (bytes ≤ most_bytes)

abbrev pub MayBeLine : ℕ → Line → Type 0
MayBeLine count (Byte byte) = byte < 2 ^ 8
MayBeLine count (Spelled operation bytes) = MayBeOperation count operation × MayBeStated bytes

-- the operand of an instruction is one of 32 bits, as each operand in a program of the code
abbrev pub HasOperand : Line → Type 0
HasOperand (Spelled (Plain i) bytes) = FitsSigned w32 (entry i).operand
HasOperand line = Unit {0}

-- each number is as small as a text may have it, and there are no more lines and labels than it may have
pub record MayBeWritten (p : ProgramSaid) : Type 0 where
  pub workspace : p.workspace ≤ most_count
  pub start : p.start ≤ most_count
  pub packet : p.packet ≤ most_count
  pub result : p.result ≤ most_count
  pub rows : length p.loops ≤ most_loops
  pub loops : AllByRecursion (MayBeRow (length p.lines)) p.loops
  pub words : length p.initial ≤ most_words
  pub initial : AllByRecursion (λ word. word < 2 ^ 32) p.initial
  pub count : length p.lines ≤ most
  pub labels : length (labels_of p) ≤ most
  pub lines : AllByRecursion (MayBeLine (length p.lines)) p.lines
