-- A program's text is read back as that program.
use Rattle.std.proofs.Common.{inl, inr, Err, add-one, ◌≡◌, ℕ, ◌+◌, ◌-◌, ◌*◌, ◌^◌, min, ◌&&◌, nat_lt, Bool, true}
use Rattle.std.proofs.Common.{false, if◌then◌else◌, List, [], ◌∷◌, ◌++◌, codes, length, take, Option, Some, None}
use Rattle.std.proofs.Common.{Result, Ok, refl, ap, sym, ◌∙◌, subst, arith}
use Rattle.std.specs.List.{list_any, flat_map}
use Rattle.std.specs.Str.Lines.{lines}
use Rattle.std.specs.Fmt.{decimal}
use Rattle.std.proofs.lemmas.List.Folds.{list_all-append}
use Rattle.std.proofs.lemmas.Bool.Decides.{nat_tests}
use Rattle.tpw_asm.specs.declared.program.Loop.{Loop}
use Rattle.tpw_text.specs.declared.words.Position.{Position}
use Rattle.tpw_text.specs.declared.fault.SourceFault.{SourceFault}
use Rattle.tpw_text.specs.declared.draft.LabelName.{LabelName}
use Rattle.tpw_text.specs.declared.remarks.Remarks.{Remarks}
use Rattle.tpw_text.specs.declared.remarks.LoopRemark.{LoopRemark}
use Rattle.tpw_text.specs.Faults.{then_read, each_read, IsRefusal, out_of_memory}
use Rattle.tpw_text.specs.Words.{before_comment, tokens}
use Rattle.tpw_text.specs.Drafts.{Said, empty, place_named}
use Rattle.tpw_text.specs.Grammar.{statement_said}
use Rattle.tpw_text.specs.Meaning.{added, line_said}
use Rattle.tpw_text.specs.Programs.{ProgramSaid, SourceSaid, line_placed, loop_placed, program_of, labels_listed, finished}
use Rattle.tpw_text.specs.Texts.{words_of_lines, words_say, text_said, source_of}
use Rattle.tpw_text.specs.Written.{as_line, is_named, names_from_row, names_from_line, fields_text, loop_remark, legend, remarks_above, above, text_of}
use Rattle.tpw_text_laws.specs.Sources.{labels_below, labels_of, written_lines, ArePositions, IsSource}
use Rattle.tpw_text_laws.specs.Conditions.{MayBeWritten}
use Rattle.tpw_text_laws.proofs.Tests.{and_false, or_left, or_right}
use Rattle.tpw_text_laws.proofs.TextLines.{IsLine, all_lines}
use Rattle.tpw_text_laws.proofs.Pieces.{IsTail}
use Rattle.tpw_text_laws.proofs.Leading.{Leads, nothing, behind, leads_as, leads_to, a_line}
use Rattle.tpw_text_laws.proofs.Fields.{Is, is_two, version_leads, sizes_lead, initials_lead}
use Rattle.tpw_text_laws.proofs.Rows.{AreLabels, Rowed, rows_lead, no_rows}
use Rattle.tpw_text_laws.proofs.WholeCode.{AreBelow, Coded, decimal_line, code_leads}

-- comments on lines of their own
comment_alone : (text : List ℕ) → IsLine (59 ∷ text) → IsTail (59 ∷ text)
unfolding before_comment tokens
comment_alone text shown = record { minus = refl; plain = refl; none = λ line column. refl; shown = shown }

says_nothing : (d : Said) → line_said [] d ≡ Ok d
unfolding line_said statement_said added
says_nothing d = refl

comment : {s : Said} (text rest : List ℕ) → text ≡ 59 ∷ rest → IsLine text → Leads (as_line text) (Is s) (Is s)
comment {s} text rest is shown =
    a_line {text = text} [] text refl tt (subst IsTail (sym is) (comment_alone rest (subst IsLine is shown))) (λ front d p. (d, says_nothing d, p))

loop_leads : {s : Said} (r : LoopRemark) → Leads (loop_remark r) (Is s) (Is s)
unfolding loop_remark
loop_leads {s} r =
    comment (codes "; loop " ++ decimal r.head ++ codes " to " ++ decimal r.lend ++ codes ": " ++ decimal r.turns ++
    codes " turns of " ++ decimal r.turn ++ codes ", " ++ decimal (min (r.turns * r.turn) (2 ^ 64 - 1)) ++
    codes " in all")
    _ refl (simp (list_all-append {X = ℕ}, decimal_line))

loops_lead : {s : Said} (rs : List LoopRemark) → Leads (flat_map loop_remark rs) (Is s) (Is s)
loops_lead {s} [] = nothing {P = Is s}
loops_lead {s} (r ∷ rs) = behind (loop_leads r) (loops_lead rs)

legend_leads : {s : Said} → Leads legend (Is s) (Is s)
legend_leads {s} = leads_as {s = as_line (take (length legend - 1) legend)} refl (comment (take (length legend - 1) legend) _ refl refl)

above_leads : {s : Said} (remarks : Option Remarks) → Leads (above remarks) (Is s) (Is s)
unfolding above remarks_above
above_leads {s} None = nothing {P = Is s}
above_leads {s} (Some r) =
    behind (behind (comment (codes "; at most " ++ decimal r.budget ++ codes " instruction bytes") _ refl (simp (list_all-append {X = ℕ}, decimal_line))) (loops_lead r.loops.now)) legend_leads

-- the draft behind the fields
abbrev fields_of : ProgramSaid → Said
fields_of p = record empty {
  version = p.version;
  settled = record { version = is_two p.version; workspace = true; start = true; packet = true; results = true };
  workspace = p.workspace;
  start = p.start;
  packet = p.packet;
  results = p.result;
  initial = p.initial;
}

none_below : (named : ℕ → Bool) (count : ℕ) (labels : List LabelName) → labels ≡ [] → AreBelow named count 0 labels
unfolding place_named
none_below named count labels none = λ w k is low.
    let below : nat_lt k 0 ≡ false = grind (arith, nat_tests) in
    ap (λ ls. place_named ls w) none ∙ sym (ap (λ t. if named k && t then Some k else None) below ∙ ap (λ t. if t then Some k else None) (and_false (named k)))

no_code : (s d : Said) (named : ℕ → Bool) (count : ℕ) (loops : List Loop) (remarks : Option Remarks)
    (front : List (List ℕ)) → s.lines ≡ [] → s.positions ≡ [] → s.labels ≡ [] → Rowed s named count loops d →
    Coded s named count loops remarks [] 0 front d
no_code s d named count loops remarks front no_lines no_positions no_labels rowed =
    let lines : d.lines ≡ [] = ap (λ (e : Said). e.lines) rowed.is ∙ no_lines in
    let positions : d.positions ≡ [] = ap (λ (e : Said). e.positions) rowed.is ∙ no_positions in
    let labels : d.labels ≡ [] = ap (λ (e : Said). e.labels) rowed.is ∙ no_labels in
    record {
      fields = d;
      rowed = rowed;
      is = refl;
      long = ap length lines;
      placed = λ ls are. ap (each_read (line_placed ls)) lines;
      labels = none_below named count d.labels labels;
      few = omega (arith, ap length labels);
      listed = ap labels_listed labels;
      positions = subst (λ (ps : List Position). ArePositions front 0 ps []) (sym positions) tt;
    }

row_named : (p : ProgramSaid) (k : ℕ) → list_any (names_from_row k) p.loops ≡ true → is_named p k ≡ true
unfolding is_named
row_named p k e = or_left (list_any (names_from_row k) p.loops) (list_any (names_from_line k) p.lines) e

line_named : (p : ProgramSaid) (k : ℕ) → list_any (names_from_line k) p.lines ≡ true → is_named p k ≡ true
unfolding is_named
line_named p k e = or_right (list_any (names_from_row k) p.loops) (list_any (names_from_line k) p.lines) e

text_leads : (p : ProgramSaid) (remarks : Option Remarks) → MayBeWritten p
    → Leads (text_of p remarks) (Is empty) (Coded (fields_of p) (is_named p) (length p.lines) p.loops remarks p.lines (length p.lines + 1))
unfolding text_of fields_text
text_leads p remarks may =
    behind (behind (above_leads remarks)
    (leads_to (λ front d r. no_code (fields_of p) d (is_named p) (length p.lines) p.loops remarks front refl refl refl r)
    (behind (leads_to (λ front d is. no_rows (fields_of p) d (is_named p) (length p.lines) refl is)
    (behind (behind (version_leads p.version empty refl refl) (sizes_lead p _ refl refl refl refl may.workspace may.start may.packet may.result))
    (initials_lead _ 0 p.initial refl (omega (arith, may.words)) may.initial)))
    (rows_lead (fields_of p) (is_named p) (length p.lines) [] p.loops (omega (arith, may.rows)) may.loops (row_named p)))))
    (code_leads (fields_of p) (is_named p) (length p.lines) p.loops remarks [] p.lines 0 refl (omega arith) (record { lines = may.count; labels = may.labels })
    may.lines (line_named p))

said_of : (text : List ℕ) (Q : List (List ℕ) → Said → Type 0) → Leads text (Is empty) Q → (d : Said) × (text_said text ≡ Ok d) × Q (lines text) d
unfolding text_said
said_of text Q leads =
    let r = leads.says [] empty refl in
    let is : lines text ≡ leads.lines = ap lines leads.is ∙ all_lines leads.lines leads.shown in
    (r.0, ap (λ ls. words_say (words_of_lines 1 ls)) is ∙ r.1, subst (λ (ls : List (List ℕ)). Q ls r.0) (sym is) r.2)

-- what the draft comes to
record HasProgram (p : ProgramSaid) (remarks : Option Remarks) (d : Said) : Type 0 where
  version : d.version ≡ p.version
  workspace : d.workspace ≡ p.workspace
  start : d.start ≡ p.start
  packet : d.packet ≡ p.packet
  results : d.results ≡ p.result
  initial : d.initial ≡ p.initial
  positions : ArePositions (lines (text_of p remarks)) 0 d.positions (written_lines remarks 0 p.lines)
  labels : labels_listed d.labels ≡ labels_of p
  lines : each_read (line_placed d.labels) d.lines ≡ Ok p.lines
  loops : each_read (loop_placed d.labels) d.rows ≡ Ok p.loops

program_is : (p : ProgramSaid) (remarks : Option Remarks) (d : Said) → HasProgram p remarks d → program_of d ≡ Ok p
unfolding program_of
program_is p remarks d has =
    let version = has.version in
    let start = has.start in
    let packet = has.packet in
    let results = has.results in
    let initial = has.initial in
    let workspace = has.workspace in
    let made : ProgramSaid = record {
      version = d.version;
      workspace = d.workspace;
      start = d.start;
      packet = d.packet;
      result = d.results;
      loops = p.loops;
      initial = d.initial;
      lines = p.lines;
    } in
    let same : made ≡ record {
      version = p.version;
      workspace = p.workspace;
      start = p.start;
      packet = p.packet;
      result = p.result;
      loops = p.loops;
      initial = p.initial;
      lines = p.lines;
    } = cc in
    rw (has.lines, has.loops) (ap Ok same)

source_is : (p : ProgramSaid) (remarks : Option Remarks) (d : Said) → HasProgram p remarks d → (source : SourceSaid) × (finished d ≡ Ok source) × IsSource p remarks source
unfolding finished
source_is p remarks d has =
    let make : ProgramSaid → Result SourceSaid SourceFault =
    λ program. Ok (record { program = program; positions = d.positions; labels = labels_listed d.labels }) in (
      record { program = p; positions = d.positions; labels = labels_listed d.labels },
      ap (λ r. then_read r make) (program_is p remarks d has),
      record { program = refl; positions = has.positions; labels = has.labels },
    )

are_labels : (named : ℕ → Bool) (count : ℕ) (labels : List LabelName) → AreBelow named count (count + 1) labels → AreLabels named count labels
are_labels named count labels are = λ w k is low there.
    let within : nat_lt k (count + 1) ≡ true = grind (arith, nat_tests) in
    are w k is low ∙ rw (there, within) refl

has_program : (p : ProgramSaid) (remarks : Option Remarks) (d : Said) →
    Coded (fields_of p) (is_named p) (length p.lines) p.loops remarks p.lines (length p.lines + 1)
    (lines (text_of p remarks)) d → HasProgram p remarks d
has_program p remarks d coded =
    let is : d ≡ record (fields_of p) { rows = coded.fields.rows; lines = d.lines; positions = d.positions; labels = d.labels } =
    coded.is ∙ ap (λ (f : Said). record f { lines = d.lines; positions = d.positions; labels = d.labels }) coded.rowed.is in
    let labels = are_labels (is_named p) (length p.lines) d.labels coded.labels in
    record {
      version = ap (λ (e : Said). e.version) is;
      workspace = ap (λ (e : Said). e.workspace) is;
      start = ap (λ (e : Said). e.start) is;
      packet = ap (λ (e : Said). e.packet) is;
      results = ap (λ (e : Said). e.results) is;
      initial = ap (λ (e : Said). e.initial) is;
      positions = coded.positions;
      labels = coded.listed ∙ ap (labels_below (is_named p)) (add-one (length p.lines));
      lines = coded.placed d.labels labels;
      loops =
          ap (each_read (loop_placed d.labels)) (ap (λ (e : Said). e.rows) is) ∙ coded.rowed.placed d.labels labels;
    }

pub read_back : (p : ProgramSaid) (remarks : Option Remarks) → MayBeWritten p → (source : SourceSaid) × (source_of (text_of p remarks) ≡ Ok source) × IsSource p remarks source
read_back p remarks may =
    let said = said_of (text_of p remarks) _ (text_leads p remarks may) in
    let source = source_is p remarks said.0 (has_program p remarks said.0 said.2) in
    (source.0, ap (λ r. then_read r finished) said.1 ∙ source.1, source.2)

abbrev read : SourceSaid → Result SourceSaid SourceFault
read source = Ok source

-- nothing else is refused of it
pub refused_for_memory : (p : ProgramSaid) (remarks : Option Remarks) → MayBeWritten p → (e : SourceFault) → IsRefusal (source_of (text_of p remarks)) e → e ≡ out_of_memory
refused_for_memory p remarks may e (inl is) = is
refused_for_memory p remarks may e (inr is) =
    let back = read_back p remarks may in
    let none : read back.0 ≡ Err e = sym back.1 ∙ is in
    cc
