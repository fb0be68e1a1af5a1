-- What a text says: each line adds to a draft.
use Rattle.std.specs.Prelude.{ℕ, ◌-◌, nat_lt, Bool, if◌then◌else◌, List, [], ◌∷◌, ◌++◌, length, replicate, codes}
use Rattle.std.specs.Prelude.{Result, Ok, Err}
use Rattle.std.specs.Str.{str_eq_ignore_ascii_case}
use Rattle.tpw_text.specs.declared.words.Word.{Word}
use Rattle.tpw_text.specs.declared.fault.SourceFault.{SourceFault}
use Rattle.tpw_text.specs.declared.fault.TextFault.TheVariants.{InitialBelow}
use Rattle.tpw_text.specs.declared.statement.NewLine.{NewLine}
use Rattle.tpw_text.specs.declared.statement.Statement.{Statement}
use Rattle.tpw_text.specs.declared.statement.Statement.TheVariants.{Nothing, Packet, Results, Start, Workspace, Version}
use Rattle.tpw_text.specs.declared.statement.Statement.TheVariants.{Initial, Line, Row}
use Rattle.tpw_text.specs.Faults.{fault_at, ◌>>=◌}
use Rattle.tpw_text.specs.Drafts.{Said, pushed, label_set, row_added}
use Rattle.tpw_text.specs.Fields.{version_set, workspace_set, start_set, packet_set, results_set}
use Rattle.tpw_text.specs.Statements.{name_said}
use Rattle.tpw_text.specs.Grammar.{statement_said}

-- one after another, and the first fault ends it
unfoldable pub in_turn : {A : Type 0} → (A → Said → Result Said SourceFault) → List A → Said → Result Said SourceFault
in_turn add [] d = Ok d
in_turn add (x ∷ xs) d = add x d >>= in_turn add xs

-- the value of an initial word that is not before the end of those so far. Words between have the value 0
unfoldable pub initial_added : Word → ℕ → ℕ → Said → Result Said SourceFault
initial_added at place value d =
    if nat_lt place (length d.initial) then Err (fault_at at InitialBelow)
    else Ok (record d { initial = (d.initial ++ replicate (place - length d.initial) 0) ++ value ∷ [] })

-- what a statement adds to a draft
unfoldable pub added : Statement → Said → Result Said SourceFault
added Nothing d = Ok d
added (Packet word n) d = packet_set word n d
added (Results word n) d = results_set word n d
added (Start word n) d = start_set word n d
added (Workspace word n) d = workspace_set word n d
added (Version word v) d = version_set word v d
added (Initial at place value) d = initial_added at place value d
added (Line l) d = pushed l.word l.line d
added (Row word row) d = row_added word row d

-- a line: maybe a label with a colon, and a statement or none
abbrev pub unlabelled : List Word → Said → Result Said SourceFault
unlabelled words d = statement_said words >>= λ s. added s d

abbrev pub labelled : Word → List Word → Said → Result Said SourceFault
labelled word words d = do
  label ← name_said word
  s ← statement_said words
  e ← label_set label d
  added s e

abbrev pub is_colon : Word → Bool
is_colon word = str_eq_ignore_ascii_case word.text.now (codes ":")

unfoldable pub line_said : List Word → Said → Result Said SourceFault
line_said (label ∷ mark ∷ words) d =
    if is_colon mark then labelled label words d else unlabelled (label ∷ mark ∷ words) d
line_said (word ∷ []) d = unlabelled (word ∷ []) d
line_said [] d = unlabelled [] d
