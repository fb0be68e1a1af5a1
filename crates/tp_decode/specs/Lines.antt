-- Listing lines.
use Rattle.std.specs.Prelude.{ℕ, ◌+◌, ◌==◌, if◌then◌else◌, List, [], ◌∷◌, ◌++◌, length, codes}
use Rattle.std.specs.Fmt.{decimal, signed_decimal}
use Rattle.std.specs.Str.{bytes_eq}
use Rattle.hex.specs.Hex.{encode_lower}
use Rattle.tp_prefix.specs.Canonical.{canonical}
use Rattle.tp_decode.specs.declared.instr.Instr.{Instr}
use Rattle.tp_decode.specs.Table.{entry}
use Rattle.tp_decode.specs.Cutting.{Cut}

-- a function's name and its operand; an operation's name alone
abbrev pub instruction_text : Instr → List ℕ
instruction_text i =
    if (entry i).function == 0xF then (entry i).name
    else (entry i).name ++ codes " " ++ signed_decimal (entry i).operand

-- the canonical spelling of an instruction
abbrev pub shortest : Instr → List ℕ
shortest i = canonical (entry i).function (entry i).operand

-- the canonical spelling, behind one that is another
abbrev pub least_note : Cut → List ℕ
least_note cut =
    if bytes_eq (shortest cut.instr) cut.bytes then []
    else codes " least " ++ encode_lower (shortest cut.instr)

-- address, bytes and instruction
abbrev pub plain_line : ℕ → Cut → List ℕ
plain_line at cut = decimal at ++ codes " " ++ encode_lower cut.bytes ++ codes " " ++ instruction_text cut.instr

-- the line of the instruction at an address, without its line feed
unfoldable pub line : ℕ → Cut → List ℕ
line at cut = plain_line at cut ++ least_note cut

-- the lines of instructions, the first of them at an address
abbrev pub lines_from : ℕ → List Cut → List (List ℕ)
lines_from at [] = []
lines_from at (cut ∷ cuts) = line at cut ∷ lines_from (at + length cut.bytes) cuts
