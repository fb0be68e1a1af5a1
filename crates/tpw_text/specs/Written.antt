-- A program as text.
use Rattle.std.specs.Prelude.{ℕ, ◌+◌, ◌*◌, ◌-◌, ◌^◌, ◌==◌, ◌≡◌, ◌<◌, ◌≤◌, ◌||◌, min, Bool, false, if◌then◌else◌, List}
use Rattle.std.specs.Prelude.{[], ◌∷◌, ◌++◌, codes, length, slice_get, slice_index_or, Option, Some, None}
use Rattle.std.specs.Fmt.{decimal, signed_decimal, digits, padded_integral, format_spec}
use Rattle.std.specs.List.{flat_map, list_any}
use Rattle.tp_image.specs.declared.image.Version.{Version}
use Rattle.tp_image.specs.declared.image.Version.TheVariants.{One, Two}
use Rattle.tp_decode.specs.declared.instr.Instr.{Instr}
use Rattle.tp_decode.specs.Table.{entry}
use Rattle.tpw_asm.specs.declared.program.Operation.{Operation}
use Rattle.tpw_asm.specs.declared.program.Operation.TheVariants.{Plain, JumpTo, CjTo, Distance}
use Rattle.tpw_asm.specs.declared.program.Line.{Line}
use Rattle.tpw_asm.specs.declared.program.Line.TheVariants.{Byte, Spelled}
use Rattle.tpw_asm.specs.declared.program.Spot.{Spot}
use Rattle.tpw_asm.specs.declared.program.Spot.TheVariants.{Place, Address}
use Rattle.tpw_asm.specs.declared.program.Loop.{Loop}
use Rattle.tpw_text.specs.declared.remarks.Remarks.{Remarks}
use Rattle.tpw_text.specs.declared.remarks.LoopRemark.{LoopRemark}
use Rattle.tpw_text.specs.declared.remarks.LineRemark.{LineRemark}
use Rattle.tpw_text.specs.Programs.{ProgramSaid}

-- a text as a line
abbrev pub as_line : List ℕ → List ℕ
as_line text = text ++ codes "\n"

-- the label of a place
abbrev pub label_text : ℕ → List ℕ
label_text place = codes "L" ++ decimal place

unfoldable pub spot_text : Spot → List ℕ
spot_text (Place place) = label_text place
spot_text (Address address) = decimal address

-- a row
unfoldable pub loop_text : Loop → List ℕ
loop_text row =
    as_line (codes "loop head " ++ spot_text row.head ++ codes " lend " ++ spot_text row.lend
    ++ codes " control " ++ decimal row.control ++ codes " turns " ++ decimal row.count
    ++ codes " start " ++ signed_decimal row.start)

-- how many bytes are stated
unfoldable pub stated_text : Option ℕ → List ℕ
stated_text None = []
stated_text (Some bytes) = codes "/" ++ decimal bytes

-- an instruction's own operand
unfoldable pub operand_text : Instr → List ℕ
operand_text i = if (entry i).function == 0xF then [] else codes " " ++ signed_decimal (entry i).operand

-- a name with the number of its bytes, and an operand
unfoldable pub operation_text : Option ℕ → Operation → List ℕ
operation_text bytes (Plain i) = (entry i).name ++ stated_text bytes ++ operand_text i
operation_text bytes (JumpTo place) = codes "j" ++ stated_text bytes ++ codes " " ++ label_text place
operation_text bytes (CjTo place) = codes "cj" ++ stated_text bytes ++ codes " " ++ label_text place
operation_text bytes (Distance from to) =
    codes "ldc" ++ stated_text bytes ++ codes " " ++ label_text to ++ codes " - " ++ label_text from

-- two hexadecimal digits
abbrev pub byte_text : ℕ → List ℕ
byte_text byte = padded_integral (format_spec 32 0 4 2 (2 ^ 64 - 1)) false [] (digits 16 false byte)

unfoldable pub line_text : Line → List ℕ
line_text (Byte byte) = codes "        byte #" ++ byte_text byte
line_text (Spelled operation bytes) = codes "        " ++ operation_text bytes operation

-- it names a place
abbrev pub is_at : ℕ → Spot → Bool
is_at place (Place p) = p == place
is_at place (Address address) = false

abbrev pub names_from_row : ℕ → Loop → Bool
names_from_row place row = is_at place row.head || is_at place row.lend

abbrev pub names_from_operation : ℕ → Operation → Bool
names_from_operation place (Plain i) = false
names_from_operation place (JumpTo to) = to == place
names_from_operation place (CjTo to) = to == place
names_from_operation place (Distance from to) = (from == place) || (to == place)

abbrev pub names_from_line : ℕ → Line → Bool
names_from_line place (Byte byte) = false
names_from_line place (Spelled operation bytes) = names_from_operation place operation

-- a row or a line names a place
unfoldable pub is_named : ProgramSaid → ℕ → Bool
is_named p place = list_any (names_from_row place) p.loops || list_any (names_from_line place) p.lines

-- those places are marked, of which a test is true, beside those that were
abbrev pub IsMarked : (ℕ → Bool) → List Bool → List Bool → Type 0
IsMarked test before after =
    (k : ℕ) → k < length before → slice_index_or after k false ≡ (slice_index_or before k false || test k)

-- of this many lines, the places up to the last are marked where a test is true
abbrev pub AreMarks : (ℕ → Bool) → List Bool → ℕ → Type 0
AreMarks test marks lines = (k : ℕ) → k ≤ lines → slice_index_or marks k false ≡ test k

-- a label on a line of its own, where its place is named
unfoldable pub label_there : Bool → ℕ → List ℕ
label_there named place = if named then as_line (label_text place ++ codes ":") else []

-- version 1 is not written
unfoldable pub version_text : Version → List ℕ
version_text One = []
version_text Two = as_line (codes "version 2")

-- initial workspace words, the first of which has a number
abbrev pub initial_text : ℕ → List ℕ → List ℕ
initial_text i [] = []
initial_text i (word ∷ words) =
    as_line (codes "init " ++ decimal i ++ codes ": #" ++ digits 16 false word) ++ initial_text (i + 1) words

abbrev pub sizes_text : ProgramSaid → List ℕ
sizes_text p =
    as_line (codes "workspace " ++ decimal p.workspace) ++ as_line (codes "start " ++ decimal p.start)
    ++ as_line (codes "packet " ++ decimal p.packet) ++ as_line (codes "result " ++ decimal p.result)

-- what a program says beside its lines
unfoldable pub fields_text : ProgramSaid → List ℕ
fields_text p = version_text p.version ++ sizes_text p ++ initial_text 0 p.initial ++ flat_map loop_text p.loops

-- what is remarked of a loop: the bytes in all are written up to 2^64 - 1
unfoldable pub loop_remark : LoopRemark → List ℕ
loop_remark r =
    as_line (codes "; loop " ++ decimal r.head ++ codes " to " ++ decimal r.lend ++ codes ": " ++ decimal r.turns
    ++ codes " turns of " ++ decimal r.turn
    ++ codes ", " ++ decimal (min (r.turns * r.turn) (2 ^ 64 - 1)) ++ codes " in all")

abbrev pub legend : List ℕ
legend =
    codes
    "; behind an instruction: its address, and the bytes from it to the end of the loop around it, or of the run\n"

unfoldable pub remarks_above : Remarks → List ℕ
remarks_above r =
    as_line (codes "; at most " ++ decimal r.budget ++ codes " instruction bytes")
    ++ flat_map loop_remark r.loops.now ++ legend

-- what stands above the text
unfoldable pub above : Option Remarks → List ℕ
above None = []
above (Some remarks) = remarks_above remarks

-- the comment behind a line
abbrev pub line_remark : Option (Option LineRemark) → List ℕ
line_remark None = []
line_remark (Some None) = []
line_remark (Some (Some r)) = codes "  ; " ++ decimal r.address ++ codes ": " ++ decimal r.on

unfoldable pub behind : Option Remarks → ℕ → List ℕ
behind None number = []
behind (Some remarks) number = line_remark (slice_get remarks.lines.now number)

-- lines, the first of which has a number, each with its label and its remark; and the label behind the last
abbrev pub lines_text : (ℕ → Bool) → Option Remarks → ℕ → List Line → List ℕ
lines_text named remarks number [] = label_there (named number) number
lines_text named remarks number (line ∷ lines) =
    label_there (named number) number ++ as_line (line_text line ++ behind remarks number)
    ++ lines_text named remarks (number + 1) lines

-- a program as text, with remarks in comments
unfoldable pub text_of : ProgramSaid → Option Remarks → List ℕ
text_of p remarks = above remarks ++ fields_text p ++ lines_text (is_named p) remarks 0 p.lines
