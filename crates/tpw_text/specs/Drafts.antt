-- What is read so far of a text.
use Rattle.std.specs.Prelude.{ℕ, nat_le, Bool, false, if◌then◌else◌, List, [], ◌∷◌, ◌++◌, length, Option, Result, Ok}
use Rattle.std.specs.Prelude.{Err, is_some}
use Rattle.std.specs.List.{find}
use Rattle.std.specs.Str.{bytes_eq}
use Rattle.std.specs.Option.{option_map}
use Rattle.tp_image.specs.declared.image.Version.{Version}
use Rattle.tp_image.specs.declared.image.Version.TheVariants.{One}
use Rattle.tp_image.specs.Limits.{most_loops}
use Rattle.tpw_text.specs.declared.words.Position.{Position}
use Rattle.tpw_text.specs.declared.words.Word.{Word}
use Rattle.tpw_text.specs.declared.fault.SourceFault.{SourceFault}
use Rattle.tpw_text.specs.declared.fault.TextFault.TheVariants.{Twice, TooMany, TooManyLoops}
use Rattle.tpw_text.specs.declared.draft.Draft.{Draft}
use Rattle.tpw_text.specs.declared.draft.Settled.{Settled}
use Rattle.tpw_text.specs.declared.draft.DraftLine.{DraftLine}
use Rattle.tpw_text.specs.declared.draft.LabelName.{LabelName}
use Rattle.tpw_text.specs.declared.draft.Row.{Row}
use Rattle.tpw_text.specs.Faults.{fault_at}
use Rattle.tpw_text.specs.Limits.{most}
use Rattle.tpw_text.specs.Words.{position_of}

-- the fields of a program and which of them are said, its lines and rows with labels as they stand, where the word
-- stands that asks for each line, and the labels so far
pub record Said : Type 0 where
  pub version : Version
  pub workspace : ℕ
  pub start : ℕ
  pub settled : Settled
  pub packet : ℕ
  pub results : ℕ
  pub initial : List ℕ
  pub lines : List DraftLine
  pub positions : List Position
  pub labels : List LabelName
  pub rows : List Row

-- what a draft of the code says
abbrev pub said : Draft → Said
said d = record {
  version = d.version;
  workspace = d.workspace;
  start = d.start;
  settled = d.settled;
  packet = d.packet;
  results = d.results;
  initial = d.initial.items;
  lines = d.lines.items;
  positions = d.positions.items;
  labels = d.labels.items;
  rows = d.rows.items;
}

-- before the first line
abbrev pub empty : Said
empty = record {
  version = One;
  workspace = 8;
  start = 5;
  settled = record { version = false; workspace = false; start = false; packet = false; results = false };
  packet = 1;
  results = 1;
  initial = [];
  lines = [];
  positions = [];
  labels = [];
  rows = [];
}

-- the place that a label names
unfoldable pub place_named : List LabelName → Word → Option ℕ
place_named labels word = option_map (λ n. n.place) (find (λ n. bytes_eq n.word.text.now word.text.now) labels)

-- no more lines or labels may stand
abbrev pub is_full : {A : Type 0} → List A → Bool
is_full xs = nat_le most (length xs)

-- a line more, that a word of the text asks for
unfoldable pub pushed : Word → DraftLine → Said → Result Said SourceFault
pushed word line d =
    if is_full d.lines then Err (fault_at word TooMany)
    else Ok (record d { lines = d.lines ++ line ∷ []; positions = d.positions ++ position_of word ∷ [] })

-- a label here
unfoldable pub label_set : Word → Said → Result Said SourceFault
label_set word d =
    if is_some (place_named d.labels word) then Err (fault_at word Twice)
    else if is_full d.labels then Err (fault_at word TooMany)
    else Ok (record d { labels = d.labels ++ (record { word = word; place = length d.lines }) ∷ [] })

-- a row more, that a word begins
unfoldable pub row_added : Word → Row → Said → Result Said SourceFault
row_added word row d =
    if nat_le most_loops (length d.rows) then Err (fault_at word TooManyLoops)
    else Ok (record d { rows = d.rows ++ row ∷ [] })
