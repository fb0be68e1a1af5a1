-- What is read of a text, apart from where the text lies in memory.
use Rattle.std.specs.Prelude.{map}
use Rattle.tpw_text.specs.declared.words.Word.{Word}
use Rattle.tpw_text.specs.declared.draft.DraftLine.{DraftLine}
use Rattle.tpw_text.specs.declared.draft.DraftLine.TheVariants.{Known, Jump, Cj, Distance}
use Rattle.tpw_text.specs.declared.draft.Target.{Target}
use Rattle.tpw_text.specs.declared.draft.Target.TheVariants.{Label, Address}
use Rattle.tpw_text.specs.declared.draft.LabelName.{LabelName}
use Rattle.tpw_text.specs.declared.draft.Row.{Row}
use Rattle.tpw_text.specs.Words.{Token, token}
use Rattle.tpw_text.specs.Drafts.{Said}

-- a word whose text lies nowhere
abbrev pub word_for : Token → Word
word_for t = record { text = record { ref_ptr = (0, 0); now = t.text }; line = t.line; column = t.column }

abbrev pub word_apart : Word → Word
word_apart word = word_for (token word)

abbrev pub line_apart : DraftLine → DraftLine
line_apart (Known line) = Known line
line_apart (Jump label bytes) = Jump (word_apart label) bytes
line_apart (Cj label bytes) = Cj (word_apart label) bytes
line_apart (Distance to from bytes) = Distance (word_apart to) (word_apart from) bytes

abbrev pub target_apart : Target → Target
target_apart (Label label) = Label (word_apart label)
target_apart (Address address) = Address address

abbrev pub row_apart : Row → Row
row_apart r = record r { head = target_apart r.head; lend = target_apart r.lend }

abbrev pub label_apart : LabelName → LabelName
label_apart l = record l { word = word_apart l.word }

abbrev pub draft_apart : Said → Said
draft_apart d = record d {
  lines = map line_apart d.lines;
  labels = map label_apart d.labels;
  rows = map row_apart d.rows;
}
