-- What a program's text is read as.
use Rattle.std.specs.Prelude.{◌≡◌, ℕ, zero, suc, ◌+◌, ◌-◌, ◌<◌, Bool, if◌then◌else◌, List, [], ◌∷◌, ◌++◌, length}
use Rattle.std.specs.Prelude.{slice_get, Option, Some}
use Rattle.std.specs.Str.Lines.{lines}
use Rattle.tpw_asm.specs.declared.program.Line.{Line}
use Rattle.tpw_asm.specs.declared.program.Line.TheVariants.{Byte, Spelled}
use Rattle.tpw_text.specs.declared.words.Position.{Position}
use Rattle.tpw_text.specs.declared.remarks.Remarks.{Remarks}
use Rattle.tpw_text.specs.Programs.{ProgramSaid, LabelSaid, SourceSaid}
use Rattle.tpw_text.specs.Written.{label_text, line_text, is_named, behind, text_of}

abbrev pub label_at : ℕ → LabelSaid
label_at place = record { name = label_text place; place = place }

-- a label for each place below one that is named, in their order
abbrev pub labels_below : (ℕ → Bool) → ℕ → List LabelSaid
labels_below named zero = []
labels_below named (suc place) = labels_below named place ++ (if named place then label_at place ∷ [] else [])

-- of a program: the last place is behind its last line
abbrev pub labels_of : ProgramSaid → List LabelSaid
labels_of p = labels_below (is_named p) (suc (length p.lines))

-- what is written for a line, and the column of the word that asks for it
pub record WrittenLine : Type 0 where
  pub text : List ℕ
  pub column : ℕ

-- an instruction's name is behind 8 spaces, and a byte behind these and `byte `
abbrev pub column_of : Line → ℕ
column_of (Byte byte) = 14
column_of (Spelled operation bytes) = 9

abbrev pub written_line : Option Remarks → ℕ → Line → WrittenLine
written_line remarks number line = record { text = line_text line ++ behind remarks number; column = column_of line }

-- what is written for each line, the first of which has a number
abbrev pub written_lines : Option Remarks → ℕ → List Line → List WrittenLine
written_lines remarks number [] = []
written_lines remarks number (line ∷ more) = written_line remarks number line ∷ written_lines remarks (number + 1) more

-- at these positions of a text are the words that ask for these lines, in their order, each on a line below the one
-- before; the first line of a text is line 1
abbrev pub ArePositions : List (List ℕ) → ℕ → List Position → List WrittenLine → Type 0
ArePositions text above [] [] = Unit {0}
ArePositions text above [] (line ∷ more) = ⊥
ArePositions text above (p ∷ positions) [] = ⊥
ArePositions text above (p ∷ positions) (line ∷ more) =
    (above < p.line) × (slice_get text (p.line - 1) ≡ Some line.text) × (p.column ≡ line.column)
    × ArePositions text p.line positions more

-- a source is that of a program's text: the program, for each of its lines the position of the word that asks for it, and
-- the labels
pub record IsSource (p : ProgramSaid) (remarks : Option Remarks) (source : SourceSaid) : Type 0 where
  pub program : source.program ≡ p
  pub positions : ArePositions (lines (text_of p remarks)) 0 source.positions (written_lines remarks 0 p.lines)
  pub labels : source.labels ≡ labels_of p
