-- Each line that a text adds to a draft has its position.
use Rattle.std.proofs.Common.{◌≡◌, ℕ, ◌+◌, nat_lt, nat_le, Bool, true, false, if◌then◌else◌, List, [], ◌∷◌, length}
use Rattle.std.proofs.Common.{map, is_some, Result, Ok, Err, refl, ap, arith, length-append}
use Rattle.std.specs.Str.Lines.{lines}
use Rattle.tpw_asm.specs.declared.program.Line.{Line as ProgramLine}
use Rattle.tp_image.specs.declared.image.Version.{Version}
use Rattle.tp_image.specs.Limits.{most_loops}
use Rattle.tpw_text.specs.declared.words.Word.{Word}
use Rattle.tpw_text.specs.declared.fault.SourceFault.{SourceFault}
use Rattle.tpw_text.specs.declared.draft.DraftLine.{DraftLine}
use Rattle.tpw_text.specs.declared.draft.Row.{Row}
use Rattle.tpw_text.specs.declared.statement.Statement.{Statement}
use Rattle.tpw_text.specs.declared.statement.Statement.TheVariants as statement
use Rattle.tpw_text.specs.Faults.{then_read, each_read}
use Rattle.tpw_text.specs.Words.{position_of}
use Rattle.tpw_text.specs.Drafts.{Said, empty, is_full, place_named, pushed, label_set, row_added}
use Rattle.tpw_text.specs.Fields.{version_set, workspace_set, start_set, packet_set, results_set}
use Rattle.tpw_text.specs.Statements.{name_said}
use Rattle.tpw_text.specs.Grammar.{statement_said}
use Rattle.tpw_text.specs.Meaning.{in_turn, initial_added, added, unlabelled, is_colon, line_said}
use Rattle.tpw_text.specs.Programs.{ProgramSaid, SourceSaid, line_placed, loop_placed, program_of, finished}
use Rattle.tpw_text.specs.Apart.{word_for}
use Rattle.tpw_text.specs.Texts.{words_of_lines, text_said, source_of}

-- as many positions as lines
record ArePaired (d : Said) : Type 0 where
  pairs : length d.positions ≡ length d.lines

-- of what is read, where it is read
abbrev pub WhereRead : {A : Type 0} → (A → Type 0) → Result A SourceFault → Type 0
WhereRead P (Ok a) = P a
WhereRead P (Err e) = Unit {0}

then_paired : {A B : Type 0} (P : A → Type 0) (Q : B → Type 0) (r : Result A SourceFault)
    (next : A → Result B SourceFault) → WhereRead P r → ((a : A) → P a → WhereRead Q (next a)) →
    WhereRead Q (then_read r next)
then_paired P Q (Ok a) next p go = go a p
then_paired P Q (Err e) next p go = tt

then_any : {A B : Type 0} (Q : B → Type 0) (r : Result A SourceFault) (next : A → Result B SourceFault) → ((a : A) → WhereRead Q (next a)) → WhereRead Q (then_read r next)
then_any Q (Ok a) next go = go a
then_any Q (Err e) next go = tt

abbrev Pairs : Result Said SourceFault → Type 0
Pairs r = WhereRead ArePaired r

if_paired : (t : Bool) (x y : Result Said SourceFault) → Pairs x → Pairs y → Pairs (if t then x else y)
if_paired true x y p q = p
if_paired false x y p q = q

line_pushed : (w : Word) (l : DraftLine) (d : Said) → ArePaired d → Pairs (pushed w l d)
unfolding pushed
line_pushed w l d p = if_paired (is_full d.lines) _ _ tt
    (record { pairs = omega (arith, p.pairs, length-append d.positions (position_of w ∷ []), length-append d.lines (l ∷ [])) })

turns : {A : Type 0} (add : A → Said → Result Said SourceFault) → ((x : A) (d : Said) → ArePaired d → Pairs (add x d)) → (xs : List A) (d : Said) → ArePaired d → Pairs (in_turn add xs d)
unfolding in_turn
turns add go [] d p = p
turns add go (x ∷ xs) d p = then_paired ArePaired ArePaired (add x d) (in_turn add xs) (go x d p) (λ e q. turns add go xs e q)

a_label : (w : Word) (d : Said) → ArePaired d → Pairs (label_set w d)
unfolding label_set
a_label w d p = if_paired (is_some (place_named d.labels w)) _ _ tt (if_paired (is_full d.labels) _ _ tt (record { pairs = p.pairs }))

a_version : (w : Word) (n : Version) (d : Said) → ArePaired d → Pairs (version_set w n d)
unfolding version_set
a_version w n d p = if_paired d.settled.version _ _ tt (record { pairs = p.pairs })

a_workspace : (w : Word) (n : ℕ) (d : Said) → ArePaired d → Pairs (workspace_set w n d)
unfolding workspace_set
a_workspace w n d p = if_paired d.settled.workspace _ _ tt (record { pairs = p.pairs })

a_start : (w : Word) (n : ℕ) (d : Said) → ArePaired d → Pairs (start_set w n d)
unfolding start_set
a_start w n d p = if_paired d.settled.start _ _ tt (record { pairs = p.pairs })

a_packet : (w : Word) (n : ℕ) (d : Said) → ArePaired d → Pairs (packet_set w n d)
unfolding packet_set
a_packet w n d p = if_paired d.settled.packet _ _ tt (record { pairs = p.pairs })

a_result : (w : Word) (n : ℕ) (d : Said) → ArePaired d → Pairs (results_set w n d)
unfolding results_set
a_result w n d p = if_paired d.settled.results _ _ tt (record { pairs = p.pairs })

an_initial : (at : Word) (place value : ℕ) (d : Said) → ArePaired d → Pairs (initial_added at place value d)
unfolding initial_added
an_initial at place value d p = if_paired (nat_lt place (length d.initial)) _ _ tt (record { pairs = p.pairs })

a_row : (w : Word) (row : Row) (d : Said) → ArePaired d → Pairs (row_added w row d)
unfolding row_added
a_row w row d p = if_paired (nat_le most_loops (length d.rows)) _ _ tt (record { pairs = p.pairs })

an_addition : (s : Statement) (d : Said) → ArePaired d → Pairs (added s d)
unfolding added
an_addition statement.Nothing d p = p
an_addition (statement.Packet word n) d p = a_packet word n d p
an_addition (statement.Results word n) d p = a_result word n d p
an_addition (statement.Start word n) d p = a_start word n d p
an_addition (statement.Workspace word n) d p = a_workspace word n d p
an_addition (statement.Version word v) d p = a_version word v d p
an_addition (statement.Initial at place value) d p = an_initial at place value d p
an_addition (statement.Line l) d p = line_pushed l.word l.line d p
an_addition (statement.Row word row) d p = a_row word row d p

without_label : (ws : List Word) (d : Said) → ArePaired d → Pairs (unlabelled ws d)
without_label ws d p = then_any ArePaired (statement_said ws) _ (λ s. an_addition s d p)

a_line : (ws : List Word) (d : Said) → ArePaired d → Pairs (line_said ws d)
unfolding line_said
a_line [] d p = without_label [] d p
a_line (w ∷ []) d p = without_label (w ∷ []) d p
a_line (label ∷ mark ∷ ws) d p =
    if_paired (is_colon mark) _ _
    (then_any ArePaired (name_said label) _ (λ name. then_any ArePaired (statement_said ws) _ (λ s.
    then_paired ArePaired ArePaired (label_set name d) _ (a_label name d p) (λ e q. an_addition s e q))))
    (without_label (label ∷ mark ∷ ws) d p)

a_text : (text : List ℕ) → Pairs (text_said text)
unfolding text_said
a_text text = turns line_said a_line (map (map word_for) (words_of_lines 1 (lines text))) empty (record { pairs = refl })

-- as many are read as there are
each_counted : {A B : Type 0} (read : A → Result B SourceFault) (xs : List A) → WhereRead (λ (ys : List B). length ys ≡ length xs) (each_read read xs)
each_counted read [] = refl
each_counted {A} {B} read (x ∷ xs) =
    then_any (λ (ys : List B). length ys ≡ length (x ∷ xs)) (read x) _
    (λ y. then_paired (λ (ys : List B). length ys ≡ length xs) (λ (ys : List B). length ys ≡ length (x ∷ xs))
    (each_read read xs) _ (each_counted read xs) (λ ys same. omega (arith, same)))

a_program : (d : Said) → WhereRead (λ (p : ProgramSaid). length p.lines ≡ length d.lines) (program_of d)
unfolding program_of
a_program d =
    then_paired (λ (ls : List ProgramLine). length ls ≡ length d.lines)
    (λ (p : ProgramSaid). length p.lines ≡ length d.lines) (each_read (line_placed d.labels) d.lines) _
    (each_counted (line_placed d.labels) d.lines) (λ ls same.
    then_any (λ (p : ProgramSaid). length p.lines ≡ length d.lines) (each_read (loop_placed d.labels) d.rows) _ (λ rows. same))

abbrev HasPositions : SourceSaid → Type 0
HasPositions s = length s.positions ≡ length s.program.lines

a_source : (d : Said) → ArePaired d → WhereRead HasPositions (finished d)
unfolding finished
a_source d p = then_paired (λ (p : ProgramSaid). length p.lines ≡ length d.lines) HasPositions (program_of d) _ (a_program d) (λ program same. omega (arith, p.pairs, same))

where_ok : (r : Result SourceSaid SourceFault) (s : SourceSaid) → r ≡ Ok s → WhereRead HasPositions r → HasPositions s
where_ok (Ok t) s is has = let same : t ≡ s = cc in omega (arith, has, ap (λ (u : SourceSaid). length u.positions) same, ap (λ (u : SourceSaid). length u.program.lines) same)
where_ok (Err e) s is has = cc

pub has_positions : (text : List ℕ) (source : SourceSaid) → source_of text ≡ Ok source → length source.positions ≡ length source.program.lines
has_positions text source is = where_ok (source_of text) source is (then_paired ArePaired HasPositions (text_said text) finished (a_text text) a_source)
