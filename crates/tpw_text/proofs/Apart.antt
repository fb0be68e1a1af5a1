-- What is read of words does not depend on where they lie in memory.
use Rattle.std.proofs.Common.{◌≡◌, ℕ, ◌+◌, ◌&&◌, not, ℤ, Bool, true, false, if◌then◌else◌, List, [], ◌∷◌, map}
use Rattle.std.proofs.Common.{Option, Some, None, option_map, Result, Ok, Err, slice_get, codes, refl, ap, ◌∙◌}
use Rattle.std.specs.Option.{ok_or}
use Rattle.std.proofs.lemmas.Option.{slice_get-map}
use Rattle.tp_decode.specs.declared.instr.Instr.{Instr}
use Rattle.tp_decode.specs.Table.{instruction}
use Rattle.tpw_text.specs.declared.words.Word.{Word}
use Rattle.tpw_text.specs.declared.fault.SourceFault.{SourceFault}
use Rattle.tpw_text.specs.declared.fault.TextFault.TheVariants as fault
use Rattle.tpw_text.specs.declared.draft.DraftLine.{DraftLine}
use Rattle.tpw_text.specs.declared.draft.DraftLine.TheVariants.{Jump, Cj, Distance}
use Rattle.tpw_text.specs.declared.keyword.Keyword.{Keyword}
use Rattle.tpw_text.specs.declared.keyword.Keyword.TheVariants as keyword
use Rattle.tpw_text.specs.declared.statement.NewLine.{NewLine}
use Rattle.tpw_text.specs.declared.statement.Statement.{Statement}
use Rattle.tpw_text.specs.declared.statement.Statement.TheVariants as statement
use Rattle.tpw_text.specs.Faults.{fault_at, then_read}
use Rattle.tpw_text.specs.Numbers.{begins_number}
use Rattle.tpw_text.specs.Statements.{word_said, is_no_name, name_said, number_read, count_read, nothing_at, end_said}
use Rattle.tpw_text.specs.Statements.{one_number_said, expect_said, target_said}
use Rattle.tpw_text.specs.Grammar.{is_word, is_word_here, version_said, initial_said, byte_said, row_said, length_at}
use Rattle.tpw_text.specs.Grammar.{length_said, plain_line, number_line, label_line, distance_said, number_said}
use Rattle.tpw_text.specs.Grammar.{operand_said, with_operand_said, operation_said, of_operation, of_function}
use Rattle.tpw_text.specs.Grammar.{instruction_said, keyword_said, of_keyword, statement_said}
use Rattle.tpw_text.specs.Apart.{word_apart, line_apart, target_apart, row_apart}

-- what is read, by another view
abbrev pub kept : {A B : Type 0} → (A → B) → Result A SourceFault → Result B SourceFault
kept f (Ok a) = Ok (f a)
kept f (Err e) = Err e

-- two steps, of which the first or the second reads something that lies in memory, or neither does
pub then_kept : {A A' B B' : Type 0} {f : A → A'} (g : B → B') (r : Result A SourceFault) {r' : Result A' SourceFault} (next : A → Result B SourceFault) (next' : A' → Result B' SourceFault)
    → r' ≡ kept f r → ((a : A) → next' (f a) ≡ kept g (next a)) → then_read r' next' ≡ kept g (then_read r next)
then_kept {A = A} {f = f} g r next next' is go = ap (λ q. then_read q next') is ∙ by r
  where
    by : (q : Result A SourceFault) → then_read (kept f q) next' ≡ kept g (then_read q next)
    by (Ok a) = go a
    by (Err e) = refl

pub then_over : {A A' B : Type 0} {f : A → A'} (r : Result A SourceFault) {r' : Result A' SourceFault} (next : A → Result B SourceFault) (next' : A' → Result B SourceFault)
    → r' ≡ kept f r → ((a : A) → next' (f a) ≡ next a) → then_read r' next' ≡ then_read r next
then_over {A = A} {f = f} r next next' is go = ap (λ q. then_read q next') is ∙ by r
  where
    by : (q : Result A SourceFault) → then_read (kept f q) next' ≡ then_read q next
    by (Ok a) = go a
    by (Err e) = refl

pub then_in : {A B B' : Type 0} (g : B → B') (r : Result A SourceFault) {r' : Result A SourceFault} (next : A → Result B SourceFault) (next' : A → Result B' SourceFault)
    → r' ≡ r → ((a : A) → next' a ≡ kept g (next a)) → then_read r' next' ≡ kept g (then_read r next)
then_in {A = A} g r next next' is go = ap (λ q. then_read q next') is ∙ by r
  where
    by : (q : Result A SourceFault) → then_read q next' ≡ kept g (then_read q next)
    by (Ok a) = go a
    by (Err e) = refl

pub then_same : {A B : Type 0} (r : Result A SourceFault) {r' : Result A SourceFault} (next next' : A → Result B SourceFault)
    → r' ≡ r → ((a : A) → next' a ≡ next a) → then_read r' next' ≡ then_read r next
then_same {A = A} r next next' is go = ap (λ q. then_read q next') is ∙ by r
  where
    by : (q : Result A SourceFault) → then_read q next' ≡ then_read q next
    by (Ok a) = go a
    by (Err e) = refl

-- a choice
pub if_kept : {A B : Type 0} (f : A → B) (t : Bool) (x y : Result A SourceFault) {x' y' : Result B SourceFault} → x' ≡ kept f x → y' ≡ kept f y
    → (if t then x' else y') ≡ kept f (if t then x else y)
if_kept f true x y first other = first
if_kept f false x y first other = other

if_same : {A : Type 0} (t : Bool) {x y x' y' : A} → x' ≡ x → y' ≡ y → (if t then x' else y') ≡ (if t then x else y)
if_same true x y = x
if_same false x y = y

-- an option, or a fault
pub ok_or_kept : {A B : Type 0} (f : A → B) (o : Option A) (e : SourceFault) → ok_or (option_map f o) e ≡ kept f (ok_or o e)
ok_or_kept f (Some a) e = refl
ok_or_kept f None e = refl

-- ---- the words of a statement
module _ (ws : List Word) where
  said : (i : ℕ) (b : Word) → word_said (map word_apart ws) i (word_apart b) ≡ kept word_apart (word_said ws i b)
  unfolding word_said
  said i b = ap (λ o. ok_or o (fault_at b fault.Missing)) (slice_get-map word_apart ws i) ∙ ok_or_kept word_apart (slice_get ws i) (fault_at b fault.Missing)

  expected : (i : ℕ) (b : Word) (name : List ℕ) → expect_said (map word_apart ws) i (word_apart b) name ≡ kept word_apart (expect_said ws i b name)
  unfolding expect_said
  expected i b name = then_kept _ _ _ _ (said i b) (λ w. if_kept _ (is_word w name) _ _ refl refl)

  ended : (i : ℕ) → end_said (map word_apart ws) i ≡ end_said ws i
  unfolding end_said
  ended i = ap nothing_at (slice_get-map word_apart ws i) ∙ by (slice_get ws i)
    where
      by : (o : Option Word) → nothing_at (option_map word_apart o) ≡ nothing_at o
      by (Some w) = refl
      by None = refl

  here : (i : ℕ) (name : List ℕ) → is_word_here (slice_get (map word_apart ws) i) name ≡ is_word_here (slice_get ws i) name
  here i name = ap (λ o. is_word_here o name) (slice_get-map word_apart ws i) ∙ by (slice_get ws i)
    where
      by : (o : Option Word) → is_word_here (option_map word_apart o) name ≡ is_word_here o name
      by (Some w) = refl
      by None = refl

number : (w : Word) → number_read (word_apart w) ≡ number_read w
unfolding number_read
number w = refl

count : (most : ℕ) (w : Word) → count_read most (word_apart w) ≡ count_read most w
unfolding number_read count_read
count most w = refl

pub named : (w : Word) → name_said (word_apart w) ≡ kept word_apart (name_said w)
named w = if_kept word_apart (is_no_name w.text.now) _ _ refl refl

target : (w : Word) → target_said (word_apart w) ≡ kept target_apart (target_said w)
unfolding target_said
target w = if_kept _ (begins_number w.text.now) _ _ (then_in _ _ _ _ (count _ w) (λ n. refl)) refl

one_number : (ws : List Word) (first : Word) (most : ℕ) → one_number_said (map word_apart ws) (word_apart first) most ≡ one_number_said ws first most
unfolding one_number_said
one_number ws first most = then_over _ _ _ (said ws 1 first) (λ w. then_same _ _ _ (ended ws 2) (λ _. count most w))

-- ---- statements
abbrev pub new_line_apart : NewLine → NewLine
new_line_apart l = record { word = word_apart l.word; line = line_apart l.line }

abbrev pub statement_apart : Statement → Statement
statement_apart statement.Nothing = statement.Nothing
statement_apart (statement.Packet word n) = statement.Packet (word_apart word) n
statement_apart (statement.Results word n) = statement.Results (word_apart word) n
statement_apart (statement.Start word n) = statement.Start (word_apart word) n
statement_apart (statement.Workspace word n) = statement.Workspace (word_apart word) n
statement_apart (statement.Version word v) = statement.Version (word_apart word) v
statement_apart (statement.Initial at place value) = statement.Initial (word_apart at) place value
statement_apart (statement.Line l) = statement.Line (new_line_apart l)
statement_apart (statement.Row word row) = statement.Row (word_apart word) (row_apart row)

module _ (ws : List Word) (first : Word) where
  version : version_said (map word_apart ws) (word_apart first) ≡ version_said ws first
  unfolding version_said
  version = then_same _ _ _ (one_number ws first 2) (λ n. refl)

  initial : initial_said (map word_apart ws) (word_apart first) ≡ kept statement_apart (initial_said ws first)
  unfolding initial_said
  initial =
      then_kept _ _ _ _ (said ws 1 first) (λ at. then_in _ _ _ _ (count _ at) (λ place. then_kept _ _ _ _ (expected ws 2 at _) (λ colon.
      then_kept _ _ _ _ (said ws 3 colon) (λ word. then_in _ _ _ _ (number word) (λ value. then_in _ _ _ _ (ended ws 4) (λ _. refl))))))

  a_byte : byte_said (map word_apart ws) (word_apart first) ≡ kept new_line_apart (byte_said ws first)
  unfolding byte_said
  a_byte = then_kept _ _ _ _ (said ws 1 first) (λ word. then_in _ _ _ _ (ended ws 2) (λ _. then_in _ _ _ _ (count _ word) (λ n. refl)))

  row : row_said (map word_apart ws) (word_apart first) ≡ kept row_apart (row_said ws first)
  unfolding row_said
  row =
      then_kept _ _ _ _ (expected ws 1 first _) (λ _. then_kept _ _ _ _ (said ws 2 first) (λ h. then_kept _ _ _ _ (target h) (λ head.
      then_kept _ _ _ _ (expected ws 3 first _) (λ _. then_kept _ _ _ _ (said ws 4 first) (λ l. then_kept _ _ _ _ (target l) (λ lend.
      then_kept _ _ _ _ (expected ws 5 first _) (λ _. then_kept _ _ _ _ (said ws 6 first) (λ c. then_in _ _ _ _ (count _ c) (λ word.
      then_kept _ _ _ _ (expected ws 7 first _) (λ _. then_kept _ _ _ _ (said ws 8 first) (λ t. then_in _ _ _ _ (count _ t) (λ n.
      then_kept _ _ _ _ (expected ws 9 first _) (λ _. then_kept _ _ _ _ (said ws 10 first) (λ s. then_in _ _ _ _ (number s) (λ start.
      then_in _ _ _ _ (ended ws 11) (λ _. refl))))))))))))))))

  labelled_line : (i : ℕ) (line : DraftLine) → label_line (map word_apart ws) (word_apart first) i (line_apart line) ≡ kept new_line_apart (label_line ws first i line)
  labelled_line i line = then_in _ _ _ _ (ended ws i) (λ _. refl)

  distance : (bytes : Option ℕ) (i : ℕ) (to : Word) → distance_said (map word_apart ws) (word_apart first) bytes i (word_apart to) ≡ kept new_line_apart (distance_said ws first bytes i to)
  unfolding distance_said
  distance bytes i to = then_kept _ _ _ _ (said ws (i + 1) to) (λ from. labelled_line (i + 2) (Distance to from bytes))

numbered : (w : Word) (bytes : Option ℕ) (function : ℕ) (n : ℤ) → number_line (word_apart w) bytes function n ≡ kept new_line_apart (number_line w bytes function n)
numbered w bytes function n = by (instruction function n)
  where
    by : (o : Option Instr) → ok_or (option_map (plain_line (word_apart w) bytes) o) (fault_at w fault.Unknown) ≡ kept
        new_line_apart (ok_or (option_map (plain_line w bytes) o) (fault_at w fault.Unknown))
    by (Some i) = refl
    by None = refl

length_stated : (ws : List Word) → length_said (map word_apart ws) ≡ length_said ws
unfolding length_said
length_stated ws = ap (length_at (map word_apart ws)) (slice_get-map word_apart ws 1) ∙ by (slice_get ws 1)
  where
    by : (o : Option Word) → length_at (map word_apart ws) (option_map word_apart o) ≡ length_at ws o
    by (Some mark) = if_same (is_word mark (codes "/")) (then_over _ _ _ (said ws 2 mark) (λ w. then_same _ _ _ (count _ w) (λ n. refl))) refl
    by None = refl

module _ (ws : List Word) (first : Word) (function : ℕ) where
  with_number : (bytes : Option ℕ) (i : ℕ) (w : Word) → number_said (map word_apart ws) (word_apart first) function
      bytes i (word_apart w) ≡ kept new_line_apart (number_said ws first function bytes i w)
  unfolding number_said
  with_number bytes i w = then_in _ _ _ _ (ended ws i) (λ _. then_in _ _ _ _ (number w) (λ n. numbered first bytes function n))

  operand : (bytes : Option ℕ) (i : ℕ) (w : Word) → operand_said (map word_apart ws) (word_apart first) function bytes i
      (word_apart w) ≡ kept new_line_apart (operand_said ws first function bytes i w)
  unfolding operand_said
  operand bytes i w =
      if_kept _ (not (begins_number w.text.now) && is_word first (codes "j")) _ _ (labelled_line ws first i (Jump w bytes))
      (if_kept _ (not (begins_number w.text.now) && is_word first (codes "cj")) _ _ (labelled_line ws first i (Cj w bytes))
      (rw (here ws i (codes "-"))
      (if_kept _ (is_word first (codes "ldc") && is_word_here (slice_get ws i) (codes "-")) _ _ (distance ws first bytes i w)
      (with_number bytes i w))))

  with_operand : with_operand_said (map word_apart ws) (word_apart first) function ≡ kept new_line_apart (with_operand_said ws first function)
  unfolding with_operand_said
  with_operand = then_in _ _ _ _ (length_stated ws) (λ s. then_kept _ _ _ _ (said ws s.1 first) (λ w. operand s.0 (s.1 + 1) w))

module _ (ws : List Word) (first : Word) where
  operation : (instr : Instr) → operation_said (map word_apart ws) (word_apart first) instr ≡ kept new_line_apart (operation_said ws first instr)
  unfolding operation_said
  operation instr = then_in _ _ _ _ (length_stated ws) (λ s. then_in _ _ _ _ (ended ws s.1) (λ _. refl))

  by_operation : (o : Option Instr) → of_operation (map word_apart ws) (word_apart first) o ≡ kept new_line_apart (of_operation ws first o)
  by_operation (Some instr) = operation instr
  by_operation None = refl

  by_function : (o : Option ℕ) → of_function (map word_apart ws) (word_apart first) o ≡ kept new_line_apart (of_function ws first o)
  by_function (Some function) = with_operand ws first function
  by_function None = by_operation _

  an_instruction : instruction_said (map word_apart ws) (word_apart first) ≡ kept new_line_apart (instruction_said ws first)
  unfolding instruction_said
  an_instruction = by_function _

  a_keyword : (k : Keyword) → keyword_said k (map word_apart ws) (word_apart first) ≡ kept statement_apart (keyword_said k ws first)
  unfolding keyword_said
  a_keyword keyword.Packet = then_in _ _ _ _ (one_number ws first _) (λ n. refl)
  a_keyword keyword.Results = then_in _ _ _ _ (one_number ws first _) (λ n. refl)
  a_keyword keyword.Start = then_in _ _ _ _ (one_number ws first _) (λ n. refl)
  a_keyword keyword.Workspace = then_in _ _ _ _ (one_number ws first _) (λ n. refl)
  a_keyword keyword.Version = then_in _ _ _ _ (version ws first) (λ v. refl)
  a_keyword keyword.Init = initial ws first
  a_keyword keyword.Byte = then_kept _ _ _ _ (a_byte ws first) (λ l. refl)
  a_keyword keyword.Loop = then_kept _ _ _ _ (row ws first) (λ r. refl)

  by_keyword : (o : Option Keyword) → of_keyword (map word_apart ws) (word_apart first) o ≡ kept statement_apart (of_keyword ws first o)
  by_keyword (Some k) = a_keyword k
  by_keyword None = then_kept _ _ _ _ an_instruction (λ i. refl)

pub a_statement : (ws : List Word) → statement_said (map word_apart ws) ≡ kept statement_apart (statement_said ws)
unfolding statement_said
a_statement [] = refl
a_statement (first ∷ ws) = by_keyword (first ∷ ws) first _
