-- The program that a draft says, and its names.
use Rattle.std.specs.Prelude.{ℕ, if◌then◌else◌, List, [], ◌∷◌, map, Result, Ok}
use Rattle.std.specs.List.{flat_map}
use Rattle.std.specs.Option.{ok_or}
use Rattle.std.specs.Str.{is_utf8}
use Rattle.tp_image.specs.declared.image.Version.{Version}
use Rattle.tpw_asm.specs.declared.program.Operation.TheVariants as operation
use Rattle.tpw_asm.specs.declared.program.Line.{Line}
use Rattle.tpw_asm.specs.declared.program.Line.TheVariants.{Spelled}
use Rattle.tpw_asm.specs.declared.program.Spot.{Spot}
use Rattle.tpw_asm.specs.declared.program.Spot.TheVariants as spot
use Rattle.tpw_asm.specs.declared.program.Loop.{Loop}
use Rattle.tpw_asm.specs.declared.program.Program.{Program}
use Rattle.tpw_text.specs.declared.words.Position.{Position}
use Rattle.tpw_text.specs.declared.words.Word.{Word}
use Rattle.tpw_text.specs.declared.fault.SourceFault.{SourceFault}
use Rattle.tpw_text.specs.declared.fault.TextFault.TheVariants.{NoLabel}
use Rattle.tpw_text.specs.declared.draft.DraftLine.{DraftLine}
use Rattle.tpw_text.specs.declared.draft.DraftLine.TheVariants.{Known, Jump, Cj, Distance}
use Rattle.tpw_text.specs.declared.draft.Target.{Target}
use Rattle.tpw_text.specs.declared.draft.Target.TheVariants.{Label as Named, Address}
use Rattle.tpw_text.specs.declared.draft.LabelName.{LabelName}
use Rattle.tpw_text.specs.declared.draft.Row.{Row}
use Rattle.tpw_text.specs.declared.finish.Label.{Label}
use Rattle.tpw_text.specs.declared.finish.Source.{Source}
use Rattle.tpw_text.specs.Faults.{fault_at, then_read, each_read}
use Rattle.tpw_text.specs.Drafts.{Said, place_named}

-- the place of a label that a word names
unfoldable pub place_of_label : List LabelName → Word → Result ℕ SourceFault
place_of_label labels word = ok_or (place_named labels word) (fault_at word NoLabel)

-- a line with each label by its place
unfoldable pub line_placed : List LabelName → DraftLine → Result Line SourceFault
line_placed labels (Known line) = Ok line
line_placed labels (Jump to bytes) =
    then_read (place_of_label labels to) (λ place. Ok (Spelled (operation.JumpTo place) bytes))
line_placed labels (Cj to bytes) =
    then_read (place_of_label labels to) (λ place. Ok (Spelled (operation.CjTo place) bytes))
line_placed labels (Distance to from bytes) =
    then_read (place_of_label labels from) (λ first. then_read (place_of_label labels to) (λ last.
    Ok (Spelled (operation.Distance first last) bytes)))

unfoldable pub spot_placed : List LabelName → Target → Result Spot SourceFault
spot_placed labels (Named word) = then_read (place_of_label labels word) (λ place. Ok (spot.Place place))
spot_placed labels (Address address) = Ok (spot.Address address)

-- a row with each label by its place
unfoldable pub loop_placed : List LabelName → Row → Result Loop SourceFault
loop_placed labels row =
    then_read (spot_placed labels row.head) (λ head. then_read (spot_placed labels row.lend) (λ lend.
    Ok (record {
      head = head;
      lend = lend;
      control = row.control;
      count = row.count;
      start = row.start;
    })))

-- the fields of a program
pub record ProgramSaid : Type 0 where
  pub version : Version
  pub workspace : ℕ
  pub start : ℕ
  pub packet : ℕ
  pub result : ℕ
  pub loops : List Loop
  pub initial : List ℕ
  pub lines : List Line

-- what a program of the code says
abbrev pub program_said : Program → ProgramSaid
program_said p = record {
  version = p.version;
  workspace = p.workspace;
  start = p.start;
  packet = p.packet;
  result = p.result;
  loops = p.loops.items;
  initial = p.initial.items;
  lines = p.lines.items;
}

-- the program of a draft
unfoldable pub program_of : Said → Result ProgramSaid SourceFault
program_of d =
    then_read (each_read (line_placed d.labels) d.lines) (λ lines.
    then_read (each_read (loop_placed d.labels) d.rows) (λ loops. Ok (record {
      version = d.version;
      workspace = d.workspace;
      start = d.start;
      packet = d.packet;
      result = d.results;
      loops = loops;
      initial = d.initial;
      lines = lines;
    })))

-- a label: its name, and the place where it stands
pub record LabelSaid : Type 0 where
  pub name : List ℕ
  pub place : ℕ

abbrev pub label_of : Label → LabelSaid
label_of label = record { name = label.name.now; place = label.place }

-- what is handed out under a name, which has to be UTF-8, as each name of a text is
abbrev pub under : {A : Type 0} → List ℕ → A → List A
under name a = if is_utf8 name then a ∷ [] else []

unfoldable pub label_listed : LabelName → List LabelSaid
label_listed n = under n.word.text.now (record { name = n.word.text.now; place = n.place })

abbrev pub labels_listed : List LabelName → List LabelSaid
labels_listed names = flat_map label_listed names

-- a program, where the word stands that asks for each of its lines, and the labels that are handed out
pub record SourceSaid : Type 0 where
  pub program : ProgramSaid
  pub positions : List Position
  pub labels : List LabelSaid

abbrev pub source_said : Source → SourceSaid
source_said s = record {
  program = program_said s.program;
  positions = s.positions.items;
  labels = map label_of s.labels.items;
}

-- what a draft says at the end of its text
unfoldable pub finished : Said → Result SourceSaid SourceFault
finished d =
    then_read (program_of d) (λ program. Ok (record {
      program = program;
      positions = d.positions;
      labels = labels_listed d.labels;
    }))
