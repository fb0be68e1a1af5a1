-- The image that a program is assembled to, or why there is none.
use Rattle.std.specs.Prelude.{◌≡◌, ◌≤◌, ℕ, List, length, map, slice_index, sum, Option, Some, None}
use Rattle.std.specs.Option.{option_and_then}
use Rattle.tp_image.specs.declared.image.LoopRow.{LoopRow}
use Rattle.tp_image.specs.declared.fault.ImageCode.{ImageCode}
use Rattle.tp_image.specs.declared.fault.ImageFault.{ImageFault}
use Rattle.tp_image.specs.declared.fault.ImageFault.TheVariants.{Refused, Memory}
use Rattle.tp_image.specs.declared.header.Header.{Header}
use Rattle.tp_image.specs.Limits.{most_code}
use Rattle.tp_image.specs.Image.{ImageValue, InRange}
use Rattle.tp_image.specs.Text.{header_of}
use Rattle.tp_image.specs.Faults.{field_fault}
use Rattle.tpw_asm.specs.declared.program.Spot.{Spot}
use Rattle.tpw_asm.specs.declared.program.Spot.TheVariants.{Place, Address}
use Rattle.tpw_asm.specs.declared.program.Loop.{Loop}
use Rattle.tpw_asm.specs.declared.program.Program.{Program}
use Rattle.tpw_asm.specs.declared.fault.AssemblyFault.{AssemblyFault}
use Rattle.tpw_asm.specs.declared.fault.AssemblyFault.TheVariants.{Line as LineRefused, Row, TooLong, Narrow, Field}
use Rattle.tpw_asm.specs.declared.fault.AssemblyFault.TheVariants.{Memory as NoMemory}
use Rattle.tpw_asm.specs.Layout.{addresses_from, code_of, IsLeastLayout}
use Rattle.tpw_asm.specs.Faults.{AreSound, first_fault, first_row, first_narrow}
use Rattle.tpw_asm.specs.Outcome.{IsLong}

-- the address of a spot, where places have these
abbrev pub address_of : List ℕ → Spot → ℕ
address_of addresses (Place place) = slice_index addresses place
address_of addresses (Address address) = address

-- a loop's row
abbrev pub row_of : List ℕ → Loop → LoopRow
row_of addresses row = record {
  head = address_of addresses row.head;
  lend = address_of addresses row.lend;
  control = row.control;
  count = row.count;
  start = row.start;
}

-- the image that a program says with these rows and this code
abbrev pub said : Program → List LoopRow → List ℕ → ImageValue
said program loops code = record {
  version = program.version;
  workspace = program.workspace;
  start = program.start;
  packet = program.packet;
  result = program.result;
  loops = loops;
  initial = program.initial.items;
  code = code;
}

-- what a program says, where its lines are this many bytes long
abbrev pub assembled : Program → List ℕ → ImageValue
assembled program lengths =
    said program (map (row_of (addresses_from 0 lengths)) program.loops.items) (code_of lengths program.lines.items)

-- no label is wrong
pub record HasPlaces (program : Program) : Type 0 where
  pub lines : AreSound program.lines.items
  pub rows : first_row (length program.lines.items) 0 program.loops.items ≡ None

-- these are the lengths of the least layout of a program, and its code is not too long
pub record HasLayout (program : Program) (lengths : List ℕ) : Type 0 where
  pub places : HasPlaces program
  pub least : IsLeastLayout program.lines.items lengths
  pub short : sum lengths ≤ most_code program.version

-- each line is as long as it states in the least layout
pub record HasLengths (program : Program) (lengths : List ℕ) : Type 0 where
  pub layout : HasLayout program lengths
  pub stated : first_narrow 0 program.lines.items lengths ≡ None

-- the addresses of the places of a program, in its least layout
pub record AreItsAddresses (program : Program) (addresses : List ℕ) : Type 0 where
  pub lengths : List ℕ
  pub laid_out : HasLengths program lengths
  pub placed : addresses ≡ addresses_from 0 lengths

abbrev pub code_of_fault : ImageFault → Option ImageCode
code_of_fault (Refused code place) = Some code
code_of_fault Memory = None

-- the format's first refusal of the fields of a header
unfoldable pub field_refusal : Header → Option ImageCode
field_refusal header = option_and_then code_of_fault (field_fault header)

-- the image is the one that the program is assembled to
pub record IsAssembly (program : Program) (image : ImageValue) : Type 0 where
  pub lengths : List ℕ
  pub laid_out : HasLengths program lengths
  pub said : image ≡ assembled program lengths
  pub in_range : InRange image

-- a program has no image, for this reason and for none before it
abbrev pub IsRefused : Program → AssemblyFault → Type 0
IsRefused program (LineRefused number fault) =
    first_fault (length program.lines.items) 0 program.lines.items ≡ Some (LineRefused number fault)
IsRefused program (Row number) =
    AreSound program.lines.items × (first_row (length program.lines.items) 0 program.loops.items ≡ Some (Row number))
IsRefused program TooLong = HasPlaces program × IsLong program.lines.items (most_code program.version)
IsRefused program (Narrow number) =
    (lengths : List ℕ) × HasLayout program lengths × (first_narrow 0 program.lines.items lengths ≡ Some (Narrow number))
IsRefused program (Field code) =
    (lengths : List ℕ) × HasLengths program lengths
    × (field_refusal (header_of (assembled program lengths)) ≡ Some code)
IsRefused program NoMemory = Unit {0}
