-- Addresses as places.
use Rattle.std.specs.Prelude.{◌≡◌, ℕ, ◌+◌, ◌==◌, ℤ, pos, negsuc, List, [], ◌∷◌, map, drop, slice_index, Option, Some}
use Rattle.std.specs.Prelude.{None}
use Rattle.std.specs.List.{position}
use Rattle.std.specs.Option.{option_map}
use Rattle.tp_decode.specs.declared.instr.Instr.TheVariants.{Jump, Cj}
use Rattle.tp_image.specs.declared.image.LoopRow.{LoopRow}
use Rattle.tp_image.specs.Image.{ImageValue}
use Rattle.tpw_asm.specs.declared.program.Operation.{Operation}
use Rattle.tpw_asm.specs.declared.program.Operation.TheVariants.{Plain, JumpTo, CjTo}
use Rattle.tpw_asm.specs.declared.program.Line.{Line}
use Rattle.tpw_asm.specs.declared.program.Line.TheVariants.{Byte, Spelled}
use Rattle.tpw_asm.specs.declared.program.Spot.{Spot}
use Rattle.tpw_asm.specs.declared.program.Spot.TheVariants.{Place, Address}
use Rattle.tpw_asm.specs.declared.program.Loop.{Loop}
use Rattle.tpw_asm.specs.declared.program.Program.{Program}
use Rattle.tpw_asm.specs.Layout.{addresses_from, IsLeastLayout}
use Rattle.tpw_asm.specs.CodeLines.{AreLinesOf}

-- the place that lies this many bytes behind another
abbrev pub place_ahead : List ℕ → ℕ → ℤ → Option ℕ
place_ahead addresses from (pos bytes) =
    option_map (λ k. from + k)
    (position (λ address. address == slice_index addresses from + bytes) (drop from addresses))
place_ahead addresses from (negsuc bytes) = None

-- a jump to the place, if there is one
abbrev pub to_place : (ℕ → Operation) → Operation → Option ℕ → Operation
to_place jump plain None = plain
to_place jump plain (Some place) = jump place

-- an operation with a place for the distance of a jump
abbrev pub placed : List ℕ → ℕ → Operation → Operation
placed addresses line (Plain (Jump bytes)) =
    to_place JumpTo (Plain (Jump bytes)) (place_ahead addresses (line + 1) bytes)
placed addresses line (Plain (Cj bytes)) = to_place CjTo (Plain (Cj bytes)) (place_ahead addresses (line + 1) bytes)
placed addresses line operation = operation

abbrev pub labelled : List ℕ → ℕ → Line → Line
labelled addresses number (Byte byte) = Byte byte
labelled addresses number (Spelled operation bytes) = Spelled (placed addresses number operation) bytes

-- lines with places, the first of which has a number
abbrev pub labelled_from : List ℕ → ℕ → List Line → List Line
labelled_from addresses number [] = []
labelled_from addresses number (line ∷ lines) =
    labelled addresses number line ∷ labelled_from addresses (number + 1) lines

-- the place that has an address, or else that address
abbrev pub spot_from : ℕ → Option ℕ → Spot
spot_from address None = Address address
spot_from address (Some place) = Place place

unfoldable pub spot_of : List ℕ → ℕ → Spot
spot_of addresses address = spot_from address (position (λ a. a == address) addresses)

abbrev pub loop_of : List ℕ → LoopRow → Loop
loop_of addresses row = record {
  head = spot_of addresses row.head;
  lend = spot_of addresses row.lend;
  control = row.control;
  count = row.count;
  start = row.start;
}

-- a program's lines are those of the image's code, and its loops those of the image's rows, with places for addresses
-- that have one
pub record IsDisassembly (image : ImageValue) (program : Program) : Type 0 where
  pub code_lines : List Line
  pub lengths : List ℕ
  pub are_code_lines : AreLinesOf image.code code_lines
  pub layout : IsLeastLayout code_lines lengths
  pub lines : program.lines.items ≡ labelled_from (addresses_from 0 lengths) 0 code_lines
  pub loops : program.loops.items ≡ map (loop_of (addresses_from 0 lengths)) image.loops
