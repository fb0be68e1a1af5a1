-- What is added to a draft does not depend on where the text lies in memory.
use Rattle.std.proofs.Common.{◌≡◌, ℕ, nat_lt, nat_le, Bool, true, false, if◌then◌else◌, List, [], ◌∷◌, ◌++◌, length}
use Rattle.std.proofs.Common.{map, Option, Some, option_map, Result, Ok, is_some, refl, ap, sym, ◌∙◌}
use Rattle.std.specs.List.{find}
use Rattle.std.specs.Str.{bytes_eq}
use Rattle.std.proofs.lemmas.List.{length-map, map-append}
use Rattle.tp_image.specs.declared.image.Version.{Version}
use Rattle.tp_image.specs.Limits.{most_loops}
use Rattle.tpw_text.specs.declared.words.Word.{Word}
use Rattle.tpw_text.specs.declared.fault.SourceFault.{SourceFault}
use Rattle.tpw_text.specs.declared.draft.DraftLine.{DraftLine}
use Rattle.tpw_text.specs.declared.draft.LabelName.{LabelName}
use Rattle.tpw_text.specs.declared.draft.Row.{Row}
use Rattle.tpw_text.specs.declared.statement.Statement.{Statement}
use Rattle.tpw_text.specs.declared.statement.Statement.TheVariants as statement
use Rattle.tpw_text.specs.Drafts.{Said, is_full, place_named, pushed, label_set, row_added}
use Rattle.tpw_text.specs.Fields.{version_set, workspace_set, start_set, packet_set, results_set}
use Rattle.tpw_text.specs.Words.{position_of}
use Rattle.tpw_text.specs.Meaning.{initial_added, added, unlabelled, labelled, is_colon, line_said}
use Rattle.tpw_text.specs.Apart.{word_apart, line_apart, label_apart, row_apart, draft_apart}
use Rattle.tpw_text.proofs.Apart.{kept, then_kept, if_kept, named, statement_apart, a_statement}

-- what is found by a text
found : {A : Type 0} (view : A → A) (test : A → Bool) (f : A → ℕ) → ((x : A) → test (view x) ≡ test x) → ((x : A) → f (view x) ≡ f x) → (xs : List A)
    → option_map f (find test (map view xs)) ≡ option_map f (find test xs)
found view test f same value [] = refl
found view test f same value (x ∷ xs) =
    ap (λ t. option_map f (if t then Some (view x) else find test (map view xs))) (same x) ∙ by (test x) (found view test f same value xs)
  where
    by : (t : Bool) → option_map f (find test (map view xs)) ≡ option_map f (find test xs)
        → option_map f (if t then Some (view x) else find test (map view xs)) ≡ option_map f (if t then Some x else find test xs)
    by true rest = ap Some (value x)
    by false rest = rest

pub place : (labels : List LabelName) (w : Word) → place_named (map label_apart labels) (word_apart w) ≡ place_named labels w
unfolding place_named
place labels w = found label_apart (λ n. bytes_eq n.word.text.now w.text.now) (λ n. n.place) (λ x. refl) (λ x. refl) labels

is_taken : (w : Word) (d : Said) → is_some (place_named (map label_apart d.labels) (word_apart w)) ≡ is_some (place_named d.labels w)
is_taken w d = ap is_some (place d.labels w)

-- one more of a list
abbrev ok : Said → Result Said SourceFault
ok d = Ok d

one_more : {A : Type 0} (view : A → A) (put : List A → Said) (xs : List A) (x : A) → ok (put (map view xs ++ view x ∷ [])) ≡ ok (put (map view (xs ++ x ∷ [])))
one_more view put xs x = ap (λ ys. ok (put ys)) (sym (map-append view xs (x ∷ [])))

a_line_pushed : (w : Word) (line : DraftLine) (d : Said) → pushed (word_apart w) (line_apart line) (draft_apart d) ≡ kept draft_apart (pushed w line d)
unfolding pushed
a_line_pushed w line d =
    rw (length-map d.lines line_apart)
    (if_kept _ (is_full d.lines) _ _ refl (one_more line_apart (λ ls. record (draft_apart d) { lines = ls; positions = d.positions ++ position_of w ∷ [] }) d.lines line))

a_label_set : (w : Word) (d : Said) → label_set (word_apart w) (draft_apart d) ≡ kept draft_apart (label_set w d)
unfolding label_set
a_label_set w d =
    rw (is_taken w d, length-map d.labels label_apart, length-map d.lines line_apart)
    (if_kept _ (is_some (place_named d.labels w)) _ _ refl (if_kept _ (is_full d.labels) _ _ refl
    (one_more label_apart (λ ls. record (draft_apart d) { labels = ls }) d.labels (record { word = w; place = length d.lines }))))

a_version_set : (w : Word) (n : Version) (d : Said) → version_set (word_apart w) n (draft_apart d) ≡ kept draft_apart (version_set w n d)
unfolding version_set
a_version_set w n d = if_kept _ d.settled.version _ _ refl refl

a_workspace_set : (w : Word) (n : ℕ) (d : Said) → workspace_set (word_apart w) n (draft_apart d) ≡ kept draft_apart (workspace_set w n d)
unfolding workspace_set
a_workspace_set w n d = if_kept _ d.settled.workspace _ _ refl refl

a_start_set : (w : Word) (n : ℕ) (d : Said) → start_set (word_apart w) n (draft_apart d) ≡ kept draft_apart (start_set w n d)
unfolding start_set
a_start_set w n d = if_kept _ d.settled.start _ _ refl refl

a_packet_set : (w : Word) (n : ℕ) (d : Said) → packet_set (word_apart w) n (draft_apart d) ≡ kept draft_apart (packet_set w n d)
unfolding packet_set
a_packet_set w n d = if_kept _ d.settled.packet _ _ refl refl

a_results_set : (w : Word) (n : ℕ) (d : Said) → results_set (word_apart w) n (draft_apart d) ≡ kept draft_apart (results_set w n d)
unfolding results_set
a_results_set w n d = if_kept _ d.settled.results _ _ refl refl

an_initial : (at : Word) (place value : ℕ) (d : Said) → initial_added (word_apart at) place value (draft_apart d) ≡ kept draft_apart (initial_added at place value d)
unfolding initial_added
an_initial at place value d = if_kept _ (nat_lt place (length d.initial)) _ _ refl refl

a_row : (w : Word) (row : Row) (d : Said) → row_added (word_apart w) (row_apart row) (draft_apart d) ≡ kept draft_apart (row_added w row d)
unfolding row_added
a_row w row d =
    rw (length-map d.rows row_apart)
    (if_kept _ (nat_le most_loops (length d.rows)) _ _ refl (one_more row_apart (λ rs. record (draft_apart d) { rows = rs }) d.rows row))

an_addition : (s : Statement) (d : Said) → added (statement_apart s) (draft_apart d) ≡ kept draft_apart (added s d)
unfolding added
an_addition statement.Nothing d = refl
an_addition (statement.Packet word n) d = a_packet_set word n d
an_addition (statement.Results word n) d = a_results_set word n d
an_addition (statement.Start word n) d = a_start_set word n d
an_addition (statement.Workspace word n) d = a_workspace_set word n d
an_addition (statement.Version word v) d = a_version_set word v d
an_addition (statement.Initial at place value) d = an_initial at place value d
an_addition (statement.Line l) d = a_line_pushed l.word l.line d
an_addition (statement.Row word row) d = a_row word row d

without_label : (ws : List Word) (d : Said) → unlabelled (map word_apart ws) (draft_apart d) ≡ kept draft_apart (unlabelled ws d)
without_label ws d = then_kept _ _ _ _ (a_statement ws) (λ s. an_addition s d)

with_label : (label : Word) (ws : List Word) (d : Said) → labelled (word_apart label) (map word_apart ws) (draft_apart d) ≡ kept draft_apart (labelled label ws d)
with_label word ws d =
    then_kept _ _ _ _ (named word) (λ label. then_kept _ _ _ _ (a_statement ws) (λ s. then_kept _ _ _ _ (a_label_set label d) (λ e. an_addition s e)))

-- a line
pub a_line : (ws : List Word) (d : Said) → line_said (map word_apart ws) (draft_apart d) ≡ kept draft_apart (line_said ws d)
unfolding line_said
a_line [] d = without_label [] d
a_line (w ∷ []) d = without_label (w ∷ []) d
a_line (label ∷ mark ∷ ws) d = if_kept _ (is_colon mark) _ _ (with_label label ws d) (without_label (label ∷ mark ∷ ws) d)
