-- What a statement says, by its words alone.
use Rattle.std.specs.Prelude.{ℕ, ◌+◌, ℤ, ◌==◌, ◌&&◌, not, Bool, false, if◌then◌else◌, List, [], ◌∷◌, codes, Option}
use Rattle.std.specs.Prelude.{Some, None, option_map, Result, Ok, Err, slice_get}
use Rattle.std.specs.Int.{w32, cast_unsigned}
use Rattle.std.specs.Str.{str_eq_ignore_ascii_case}
use Rattle.std.specs.Option.{ok_or}
use Rattle.tp_image.specs.declared.image.Version.{Version}
use Rattle.tp_image.specs.declared.image.Version.TheVariants.{One, Two}
use Rattle.tp_decode.specs.declared.instr.Instr.{Instr}
use Rattle.tp_decode.specs.Table.{instruction}
use Rattle.tpw_asm.specs.declared.program.Operation.TheVariants.{Plain}
use Rattle.tpw_asm.specs.declared.program.Line.TheVariants.{Byte, Spelled}
use Rattle.tpw_text.specs.declared.words.Word.{Word}
use Rattle.tpw_text.specs.declared.fault.SourceFault.{SourceFault}
use Rattle.tpw_text.specs.declared.fault.TextFault.TheVariants.{OutOfRange, NoLength, Unknown}
use Rattle.tpw_text.specs.declared.draft.DraftLine.{DraftLine}
use Rattle.tpw_text.specs.declared.draft.DraftLine.TheVariants.{Known, Jump, Cj, Distance}
use Rattle.tpw_text.specs.declared.draft.Row.{Row}
use Rattle.tpw_text.specs.declared.keyword.Keyword.{Keyword}
use Rattle.tpw_text.specs.declared.keyword.Keyword.TheVariants as keyword
use Rattle.tpw_text.specs.declared.statement.NewLine.{NewLine}
use Rattle.tpw_text.specs.declared.statement.Statement.{Statement}
use Rattle.tpw_text.specs.declared.statement.Statement.TheVariants as statement
use Rattle.tpw_text.specs.Limits.{most_count, most_words, most_bytes}
use Rattle.tpw_text.specs.Faults.{fault_at, ◌>>=◌}
use Rattle.tpw_text.specs.Numbers.{begins_number}
use Rattle.tpw_text.specs.Names.{function_named, operation_named}
use Rattle.tpw_text.specs.Keywords.{keyword_named}
use Rattle.tpw_text.specs.Statements.{word_said, expect_said, end_said, one_number_said, target_said, number_read}
use Rattle.tpw_text.specs.Statements.{count_read}

-- a word is this one, in capitals or not
abbrev pub is_word : Word → List ℕ → Bool
is_word word name = str_eq_ignore_ascii_case word.text.now name

abbrev pub is_word_here : Option Word → List ℕ → Bool
is_word_here None name = false
is_word_here (Some word) name = is_word word name

-- a number of 16 bits, alone
abbrev pub field_said : List Word → Word → Result ℕ SourceFault
field_said words first = one_number_said words first most_count

-- version N
abbrev pub version_numbered : Word → ℕ → Result Version SourceFault
version_numbered first n = if n == 1 then Ok One else if n == 2 then Ok Two else Err (fault_at first OutOfRange)

unfoldable pub version_said : List Word → Word → Result Version SourceFault
version_said words first = do
  n ← one_number_said words first 2
  version_numbered first n

-- init WORD: VALUE
unfoldable pub initial_said : List Word → Word → Result Statement SourceFault
initial_said words first = do
  at ← word_said words 1 first
  place ← count_read most_words at
  colon ← expect_said words 2 at (codes ":")
  word ← word_said words 3 colon
  value ← number_read word
  end ← end_said words 4
  Ok (statement.Initial at place (cast_unsigned w32 value))

-- byte N
unfoldable pub byte_said : List Word → Word → Result NewLine SourceFault
byte_said words first = do
  word ← word_said words 1 first
  end ← end_said words 2
  n ← count_read 255 word
  Ok (record { word = word; line = Known (Byte n) })

-- loop head SPOT lend SPOT control WORD turns COUNT start START
unfoldable pub row_said : List Word → Word → Result Row SourceFault
row_said words first = do
  heads ← expect_said words 1 first (codes "head")
  h ← word_said words 2 first
  head ← target_said h
  lends ← expect_said words 3 first (codes "lend")
  l ← word_said words 4 first
  lend ← target_said l
  controls ← expect_said words 5 first (codes "control")
  c ← word_said words 6 first
  word ← count_read most_count c
  turns ← expect_said words 7 first (codes "turns")
  t ← word_said words 8 first
  count ← count_read most_count t
  starts ← expect_said words 9 first (codes "start")
  s ← word_said words 10 first
  start ← number_read s
  end ← end_said words 11
  Ok (record { head = head; lend = lend; control = word; count = count; start = start })

-- the length that is stated behind a /, and at which word the operand stands
abbrev pub length_of : Word → ℕ → Result (Option ℕ × ℕ) SourceFault
length_of word n = if n == 0 then Err (fault_at word NoLength) else Ok (Some n, 3)

abbrev pub length_behind : List Word → Word → Result (Option ℕ × ℕ) SourceFault
length_behind words mark = do
  word ← word_said words 2 mark
  n ← count_read most_bytes word
  length_of word n

abbrev pub length_at : List Word → Option Word → Result (Option ℕ × ℕ) SourceFault
length_at words None = Ok (None, 1)
length_at words (Some mark) = if is_word mark (codes "/") then length_behind words mark else Ok (None, 1)

unfoldable pub length_said : List Word → Result (Option ℕ × ℕ) SourceFault
length_said words = length_at words (slice_get words 1)

-- a line with an instruction, that a word asks for
abbrev pub plain_line : Word → Option ℕ → Instr → NewLine
plain_line word bytes instr = record { word = word; line = Known (Spelled (Plain instr) bytes) }

-- a number behind the operand of an instruction of a function
abbrev pub number_line : Word → Option ℕ → ℕ → ℤ → Result NewLine SourceFault
number_line word bytes function n =
    ok_or (option_map (plain_line word bytes) (instruction function n)) (fault_at word Unknown)

-- j LABEL, cj LABEL, ldc LABEL - LABEL
abbrev pub label_line : List Word → Word → ℕ → DraftLine → Result NewLine SourceFault
label_line words first i line = do
  end ← end_said words i
  Ok (record { word = first; line = line })

unfoldable pub distance_said : List Word → Word → Option ℕ → ℕ → Word → Result NewLine SourceFault
distance_said words first bytes i to = do
  from ← word_said words (i + 1) to
  label_line words first (i + 2) (Distance to from bytes)

-- an instruction with a number as its operand
unfoldable pub number_said : List Word → Word → ℕ → Option ℕ → ℕ → Word → Result NewLine SourceFault
number_said words first function bytes i word = do
  end ← end_said words i
  n ← number_read word
  number_line first bytes function n

-- what stands behind a function's name: its operand, and what is behind that from a place on
unfoldable pub operand_said : List Word → Word → ℕ → Option ℕ → ℕ → Word → Result NewLine SourceFault
operand_said words first function bytes i word =
    if not (begins_number word.text.now) && is_word first (codes "j") then label_line words first i (Jump word bytes)
    else if not (begins_number word.text.now) && is_word first (codes "cj")
    then label_line words first i (Cj word bytes)
    else if is_word first (codes "ldc") && is_word_here (slice_get words i) (codes "-")
    then distance_said words first bytes i word
    else number_said words first function bytes i word

unfoldable pub with_operand_said : List Word → Word → ℕ → Result NewLine SourceFault
with_operand_said words first function = do
  stated ← length_said words
  word ← word_said words stated.1 first
  operand_said words first function stated.0 (stated.1 + 1) word

-- an operation
unfoldable pub operation_said : List Word → Word → Instr → Result NewLine SourceFault
operation_said words first instr = do
  stated ← length_said words
  end ← end_said words stated.1
  Ok (plain_line first stated.0 instr)

-- an instruction
abbrev pub of_operation : List Word → Word → Option Instr → Result NewLine SourceFault
of_operation words first None = Err (fault_at first Unknown)
of_operation words first (Some instr) = operation_said words first instr

abbrev pub of_function : List Word → Word → Option ℕ → Result NewLine SourceFault
of_function words first None = of_operation words first (operation_named first.text.now)
of_function words first (Some function) = with_operand_said words first function

unfoldable pub instruction_said : List Word → Word → Result NewLine SourceFault
instruction_said words first = of_function words first (function_named first.text.now)

-- a statement of a keyword
unfoldable pub keyword_said : Keyword → List Word → Word → Result Statement SourceFault
keyword_said keyword.Packet words first = field_said words first >>= λ n. Ok (statement.Packet first n)
keyword_said keyword.Results words first = field_said words first >>= λ n. Ok (statement.Results first n)
keyword_said keyword.Start words first = field_said words first >>= λ n. Ok (statement.Start first n)
keyword_said keyword.Workspace words first = field_said words first >>= λ n. Ok (statement.Workspace first n)
keyword_said keyword.Version words first = version_said words first >>= λ v. Ok (statement.Version first v)
keyword_said keyword.Init words first = initial_said words first
keyword_said keyword.Byte words first = byte_said words first >>= λ line. Ok (statement.Line line)
keyword_said keyword.Loop words first = row_said words first >>= λ row. Ok (statement.Row first row)

-- a statement with words
abbrev pub of_keyword : List Word → Word → Option Keyword → Result Statement SourceFault
of_keyword words first None = instruction_said words first >>= λ line. Ok (statement.Line line)
of_keyword words first (Some keyword) = keyword_said keyword words first

-- a statement, or none
unfoldable pub statement_said : List Word → Result Statement SourceFault
statement_said [] = Ok statement.Nothing
statement_said (first ∷ words) = of_keyword (first ∷ words) first (keyword_named first.text.now)
