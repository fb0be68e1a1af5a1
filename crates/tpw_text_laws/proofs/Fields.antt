-- The fields of a program are read as they are written.
use Rattle.std.proofs.Common.{◌≡◌, ℕ, ◌+◌, ◌-◌, ◌<◌, ◌≤◌, ◌^◌, nat_lt, nat_eq, Bool, true, false, List, [], ◌∷◌, ◌++◌, codes, length, map, Some, Ok, refl, ap, sym, ◌∙◌, arith, append_assoc}
use Rattle.std.specs.Int.{w32, cast_signed}
use Rattle.std.specs.List.{list_all, AllByRecursion}
use Rattle.std.specs.Char.{to_ascii_lowercase}
use Rattle.std.specs.Str.{str_eq_ignore_ascii_case}
use Rattle.std.specs.Fmt.{decimal, digits}
use Rattle.std.proofs.lemmas.Fmt.{decimal_digit}
use Rattle.std.proofs.lemmas.List.{append-nil, length-append}
use Rattle.std.proofs.lemmas.Int.{of_z-to_z}
use Rattle.std.proofs.lemmas.Bool.Decides.{nat_tests}
use Rattle.tp_image.specs.declared.image.Version.{Version}
use Rattle.tp_image.specs.declared.image.Version.TheVariants.{One, Two}
use Rattle.tpw_text.specs.declared.words.Word.{Word}
use Rattle.tpw_text.specs.declared.keyword.Keyword.{Keyword}
use Rattle.tpw_text.specs.declared.keyword.Keyword.TheVariants as keyword
use Rattle.tpw_text.specs.declared.statement.Statement.{Statement}
use Rattle.tpw_text.specs.declared.statement.Statement.TheVariants as statement
use Rattle.tpw_text.specs.Limits.{most_words, most_count}
use Rattle.tpw_text.specs.Faults.{◌>>=◌}
use Rattle.tpw_text.specs.Words.{is_mark, is_plain}
use Rattle.tpw_text.specs.Drafts.{Said}
use Rattle.tpw_text.specs.Fields.{version_set, workspace_set, start_set, packet_set, results_set}
use Rattle.tpw_text.specs.Keywords.{keyword_named}
use Rattle.tpw_text.specs.Statements.{word_said, end_said, expect_said, one_number_said, number_read}
use Rattle.tpw_text.specs.Grammar.{field_said, version_numbered, version_said, initial_said, keyword_said, statement_said}
use Rattle.tpw_text.specs.Meaning.{added, initial_added, is_colon, unlabelled, line_said}
use Rattle.tpw_text.specs.Apart.{word_for}
use Rattle.tpw_text.specs.Programs.{ProgramSaid}
use Rattle.tpw_text.specs.Written.{as_line, initial_text, sizes_text, version_text}
use Rattle.tpw_text.proofs.Tokens.{both_true}
use Rattle.tpw_text_laws.proofs.Bytes.{IsWord, is_literal, literal_word, decimal_word, hexadecimal_word, digits_inner}
use Rattle.tpw_text_laws.proofs.Numbers.{count_is, hexadecimal_is}
use Rattle.tpw_text_laws.proofs.Pieces.{Piece, Gap, Of, Mark, write, placed, AreApart, no_tail}
use Rattle.tpw_text_laws.proofs.Leading.{Leads, nothing, behind, leads_to, a_line}

-- a line without a comment
pub alone : {P Q : List (List ℕ) → Said → Type 0} (text : List ℕ) (ps : List Piece) → text ≡ write ps → AreApart ps
    → ((front : List (List ℕ)) (d : Said) → P front d → (e : Said) × (line_said (map word_for (placed (1 + length front) 1 ps)) d ≡ Ok e) × Q (front ++ text ∷ []) e) → Leads (as_line text) P Q
alone {P} {Q} text ps is apart says = a_line {text = text} ps [] (is ∙ sym (append-nil (write ps))) apart no_tail says

-- a word is no mark
not_mark : (b m : ℕ) → is_plain b ≡ true → is_mark m ≡ true → nat_eq (to_ascii_lowercase b) (to_ascii_lowercase m) ≡ false
unfolding is_plain
not_mark b m h h' = grind (arith, nat_tests)

no_mark : (w : List ℕ) (m : ℕ) → list_all is_plain w ≡ true → is_mark m ≡ true → str_eq_ignore_ascii_case w (m ∷ []) ≡ false
no_mark [] m all is = refl
no_mark (b ∷ w) m all is = rw (not_mark b m (both_true (is_plain b) (list_all is_plain w) all).0 is) refl

pub other_word : (w : List ℕ) (m : ℕ) → IsWord w → is_mark m ≡ true → str_eq_ignore_ascii_case w (m ∷ []) ≡ false
other_word w m word is = no_mark w m word.plain is

pub not_labelled : (first second : Word) (ws : List Word) (d : Said) → is_colon second ≡ false → line_said (first ∷ second ∷ ws) d ≡ unlabelled (first ∷ second ∷ ws) d
unfolding line_said
not_labelled first second ws d other = rw other refl

-- so is a draft, and no other
abbrev pub Is : Said → List (List ℕ) → Said → Type 0
Is s front d = d ≡ s

number_alone : (first w : Word) (limit n : ℕ) → w.text.now ≡ decimal n → n ≤ limit → n < 2 ^ 31 → one_number_said (first ∷ w ∷ []) first limit ≡ Ok n
unfolding one_number_said word_said end_said
number_alone first w limit n is few small = count_is w limit n is few small

pub keyword_says : (first : Word) (ws : List Word) (k : Keyword) (s : Statement) (d e : Said) →
    keyword_named first.text.now ≡ Some k → keyword_said k (first ∷ ws) first ≡ Ok s → added s d ≡ Ok e
    → unlabelled (first ∷ ws) d ≡ Ok e
unfolding statement_said
keyword_says first ws k s d e named said adds = rw (named, said) adds

-- a keyword and a number
a_field : (name : List ℕ) (k : Keyword) (make : Word → ℕ → Statement) (n : ℕ) (s t : Said) → is_literal name ≡ true → keyword_named name ≡ Some k
    → ((ws : List Word) (first : Word) → keyword_said k ws first ≡ (field_said ws first >>= λ m. Ok (make first m))) → n ≤ most_count → ((w : Word) → added (make w n) s ≡ Ok t)
    → Leads (as_line (name ++ 32 ∷ decimal n)) (Is s) (Is t)
unfolding is_plain
a_field name k make n s t literal named is_field few adds =
    alone (name ++ 32 ∷ decimal n) (Of name ∷ Gap ∷ Of (decimal n) ∷ []) (simp append-nil) (literal_word name literal, (refl, (decimal_word n, (refl, tt)))) (λ front d is.
    let line : ℕ = 1 + length front in
    let first : Word = word_for (record { text = name; line = line; column = 1 }) in
    let second : Word = word_for (record { text = decimal n; line = line; column = 1 + length name + 1 }) in
    let said : keyword_said k (first ∷ second ∷ []) first ≡ Ok (make first n) = is_field (first ∷ second ∷ []) first ∙
    ap (λ r. r >>= λ m. Ok (make first m)) (number_alone first second most_count n refl few (omega arith)) in (
      t,
      not_labelled first second [] d (other_word (decimal n) 58 (decimal_word n) refl) ∙
          ap (unlabelled (first ∷ second ∷ [])) is ∙ keyword_says first (second ∷ []) k (make first n) s t named said
          (adds first),
      refl,
    ))

-- a field that is not settled is said
workspace_adds : (w : Word) (n : ℕ) (s : Said) → s.settled.workspace ≡ false → workspace_set w n s ≡ Ok (record s { workspace = n; settled = record s.settled { workspace = true } })
unfolding workspace_set
workspace_adds w n s unsettled = rw unsettled refl

start_adds : (w : Word) (n : ℕ) (s : Said) → s.settled.start ≡ false → start_set w n s ≡ Ok (record s { start = n; settled = record s.settled { start = true } })
unfolding start_set
start_adds w n s unsettled = rw unsettled refl

packet_adds : (w : Word) (n : ℕ) (s : Said) → s.settled.packet ≡ false → packet_set w n s ≡ Ok (record s { packet = n; settled = record s.settled { packet = true } })
unfolding packet_set
packet_adds w n s unsettled = rw unsettled refl

results_adds : (w : Word) (n : ℕ) (s : Said) → s.settled.results ≡ false → results_set w n s ≡ Ok (record s { results = n; settled = record s.settled { results = true } })
unfolding results_set
results_adds w n s unsettled = rw unsettled refl

version_adds : (w : Word) (v : Version) (s : Said) → s.settled.version ≡ false → version_set w v s ≡ Ok (record s { version = v; settled = record s.settled { version = true } })
unfolding version_set
version_adds w v s unsettled = rw unsettled refl

-- the sizes
abbrev pub of_workspace : ProgramSaid → Said → Said
of_workspace p s = record s { workspace = p.workspace; settled = record s.settled { workspace = true } }

abbrev pub of_start : ProgramSaid → Said → Said
of_start p s = record s { start = p.start; settled = record s.settled { start = true } }

abbrev pub of_packet : ProgramSaid → Said → Said
of_packet p s = record s { packet = p.packet; settled = record s.settled { packet = true } }

abbrev pub of_results : ProgramSaid → Said → Said
of_results p s = record s { results = p.result; settled = record s.settled { results = true } }

abbrev pub of_sizes : ProgramSaid → Said → Said
of_sizes p s = of_results p (of_packet p (of_start p (of_workspace p s)))

pub sizes_lead : (p : ProgramSaid) (s : Said) → s.settled.workspace ≡ false → s.settled.start ≡ false → s.settled.packet ≡ false → s.settled.results ≡ false
    → p.workspace ≤ most_count → p.start ≤ most_count → p.packet ≤ most_count → p.result ≤ most_count → Leads (sizes_text p) (Is s) (Is (of_sizes p s))
unfolding is_plain keyword_named keyword_said added
sizes_lead p s open_workspace open_start open_packet open_results workspace start packet result =
    behind (behind (behind
    (a_field (codes "workspace") keyword.Workspace statement.Workspace p.workspace s (of_workspace p s) refl refl (λ ws first. refl) workspace (λ w. workspace_adds w p.workspace s open_workspace))
    (a_field (codes "start") keyword.Start statement.Start p.start (of_workspace p s) (of_start p (of_workspace p s))
    refl refl (λ ws first. refl) start (λ w. start_adds w p.start (of_workspace p s) open_start)))
    (a_field (codes "packet") keyword.Packet statement.Packet p.packet (of_start p (of_workspace p s)) (of_packet p (of_start p (of_workspace p s))) refl refl (λ ws first. refl) packet
    (λ w. packet_adds w p.packet (of_start p (of_workspace p s)) open_packet)))
    (a_field (codes "result") keyword.Results statement.Results p.result (of_packet p (of_start p (of_workspace p s))) (of_sizes p s) refl refl (λ ws first. refl) result
    (λ w. results_adds w p.result (of_packet p (of_start p (of_workspace p s))) open_results))

-- the version
two_said : (first w : Word) → w.text.now ≡ codes "2" → version_said (first ∷ w ∷ []) first ≡ Ok Two
unfolding version_said
two_said first w is =
    ap (λ r. r >>= version_numbered first) (number_alone first w 2 2 (is ∙ sym (decimal_digit 2 (omega arith))) (omega arith) (omega arith))

abbrev pub is_two : Version → Bool
is_two One = false
is_two Two = true

-- the first version is not said
abbrev pub of_version : Version → Said → Said
of_version v s = record s { version = v; settled = record s.settled { version = is_two v } }

two_leads : (s : Said) → s.settled.version ≡ false → Leads (as_line (codes "version 2")) (Is s) (Is (of_version Two s))
unfolding is_plain keyword_named keyword_said added
two_leads s unsettled =
    alone (codes "version 2") (Of (codes "version") ∷ Gap ∷ Of (codes "2") ∷ []) refl (literal_word _ refl, (refl, (literal_word _ refl, (refl, tt)))) (λ front d is.
    let line : ℕ = 1 + length front in
    let first : Word = word_for (record { text = codes "version"; line = line; column = 1 }) in
    let second : Word = word_for (record { text = codes "2"; line = line; column = 9 }) in
    let said : keyword_said keyword.Version (first ∷ second ∷ []) first ≡ Ok (statement.Version first Two) = ap (λ r. r >>= λ v. Ok (statement.Version first v)) (two_said first second refl) in (
      of_version Two s,
      not_labelled first second [] d refl ∙ ap (unlabelled (first ∷ second ∷ [])) is ∙
          keyword_says first (second ∷ []) keyword.Version (statement.Version first Two) s _ refl said
          (version_adds first Two s unsettled),
      refl,
    ))

pub version_leads : (v : Version) (s : Said) → s.version ≡ One → s.settled.version ≡ false → Leads (version_text v) (Is s) (Is (of_version v s))
unfolding version_text
version_leads One s is unsettled =
    leads_to (λ front d e. e ∙ ap (λ v. record s { version = v }) is ∙ ap (λ b. record s { version = One; settled = record s.settled { version = b } }) unsettled) (nothing {P = Is s})
version_leads Two s is unsettled = two_leads s unsettled

-- the value of an initial word
init_said : (first at colon value : Word) (i word : ℕ) → at.text.now ≡ decimal i → i ≤ most_words → expect_said (first ∷ at ∷ colon ∷ value ∷ []) 2 at (codes ":") ≡ Ok colon
    → number_read value ≡ Ok (cast_signed w32 word) → word < 2 ^ 32
    → initial_said (first ∷ at ∷ colon ∷ value ∷ []) first ≡ Ok (statement.Initial at i word)
unfolding initial_said word_said end_said
init_said first at colon value i word is few colon_is read small =
    rw (count_is at most_words i is few (omega arith), colon_is, read) (ap (λ w. Ok (statement.Initial at i w)) (of_z-to_z w32 word small))

colon_said : (first at value : Word) (line column : ℕ) →
    expect_said (first ∷ at ∷ word_for (record { text = 58 ∷ []; line = line; column = column }) ∷ value ∷ []) 2 at
    (codes ":") ≡ Ok (word_for (record { text = 58 ∷ []; line = line; column = column }))
unfolding expect_said word_said
colon_said first at value line column = refl

an_initial : (at : Word) (word : ℕ) (s : Said) (i : ℕ) → length s.initial ≡ i → initial_added at i word s ≡ Ok (record s { initial = s.initial ++ word ∷ [] })
unfolding initial_added
an_initial at word s i long =
    let before : nat_lt i (length s.initial) ≡ false = grind (arith, nat_tests) in
    let none : i - length s.initial ≡ 0 = omega arith in
    rw (before, none, append-nil s.initial) refl

initial_leads : (s : Said) (i word : ℕ) → length s.initial ≡ i → i < most_words → word < 2 ^ 32
    → Leads (as_line (codes "init " ++ decimal i ++ codes ": #" ++ digits 16 false word)) (Is s) (Is (record s { initial = s.initial ++ word ∷ [] }))
unfolding is_plain keyword_named keyword_said added
initial_leads s i word long few small =
    alone (codes "init " ++ decimal i ++ codes ": #" ++ digits 16 false word)
    (Of (codes "init") ∷ Gap ∷ Of (decimal i) ∷ Mark 58 ∷ Gap ∷ Of (35 ∷ digits 16 false word) ∷ [])
    (simp (append_assoc, append-nil))
    (literal_word _ refl, (refl, (decimal_word i, (refl, (refl, (hexadecimal_word (digits 16 false word) (digits_inner 16 word (omega arith) (omega arith)), (refl, tt))))))) (λ front d is.
    let line : ℕ = 1 + length front in
    let first : Word = word_for (record { text = codes "init"; line = line; column = 1 }) in
    let at : Word = word_for (record { text = decimal i; line = line; column = 6 }) in
    let colon : Word = word_for (record { text = 58 ∷ []; line = line; column = 6 + length (decimal i) }) in
    let value : Word = word_for (record { text = 35 ∷ digits 16 false word; line = line; column = 6 + length (decimal i) + 1 + 1 }) in
    let said : initial_said (first ∷ at ∷ colon ∷ value ∷ []) first ≡ Ok (statement.Initial at i word) =
    init_said first at colon value i word refl (omega arith) (colon_said first at value line _) (hexadecimal_is value word refl small) small in (
      record s { initial = s.initial ++ word ∷ [] },
      not_labelled first at (colon ∷ value ∷ []) d (other_word (decimal i) 58 (decimal_word i) refl) ∙ ap (unlabelled (first ∷ at ∷ colon ∷ value ∷ [])) is
          ∙ keyword_says first (at ∷ colon ∷ value ∷ []) keyword.Init (statement.Initial at i word) s _ refl said (an_initial at word s i long),
      refl,
    ))

pub initials_lead : (s : Said) (i : ℕ) (words : List ℕ) → length s.initial ≡ i → i + length words ≤ most_words → AllByRecursion (λ word. word < 2 ^ 32) words
    → Leads (initial_text i words) (Is s) (Is (record s { initial = s.initial ++ words }))
initials_lead s i [] long few small = leads_to (λ front d e. e ∙ ap (λ ws. record s { initial = ws }) (sym (append-nil s.initial))) (nothing {P = Is s})
initials_lead s i (word ∷ words) long few small =
    leads_to (λ front d e. e ∙ ap (λ ws. record s { initial = ws }) (append_assoc s.initial (word ∷ []) words))
    (behind (initial_leads s i word long (omega arith) small.0)
    (initials_lead (record s { initial = s.initial ++ word ∷ [] }) (i + 1) words (omega (arith, length-append s.initial (word ∷ []))) (omega arith) small.1))
