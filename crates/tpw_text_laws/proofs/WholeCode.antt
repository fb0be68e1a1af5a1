-- The code of a program is read as it is written: its lines, with their labels and remarks.
use Rattle.std.proofs.Common.{◌≡◌, ℕ, ◌+◌, ◌<◌, ◌≤◌, ◌^◌, ◌==◌, ◌&&◌, nat_lt, Bool, true, false, if◌then◌else◌, List}
use Rattle.std.proofs.Common.{[], ◌∷◌, ◌++◌, codes, length, slice_get, Option, Some, None, Ok, refl, ap, sym, ◌∙◌}
use Rattle.std.proofs.Common.{subst, arith, append_assoc, zero, suc, add-one, ◌-◌}
use Rattle.std.specs.List.{list_all, list_any, find, AllByRecursion}
use Rattle.std.specs.Str.{bytes_eq, is_utf8, IsAscii}
use Rattle.std.proofs.lemmas.Str.{is_utf8-from_IsUtf8, IsUtf8-from_ascii}
use Rattle.std.specs.Option.{option_map, option_or}
use Rattle.std.specs.Fmt.{decimal}
use Rattle.std.proofs.lemmas.Fmt.{decimal_injective, IsAscii-decimal}
use Rattle.std.proofs.lemmas.Slice.Eq.{bytes_eq-Decides}
use Rattle.std.proofs.lemmas.Option.{slice_get_within}
use Rattle.std.proofs.lemmas.List.{length_push, append-nil, length-append}
use Rattle.std.proofs.lemmas.List.Folds.{find-append, list_all-append}
use Rattle.std.proofs.lemmas.Bool.Decides.{nat_tests}
use Rattle.tpw_asm.specs.declared.program.Line.{Line}
use Rattle.tpw_asm.specs.declared.program.Loop.{Loop}
use Rattle.tpw_text.specs.declared.words.Position.{Position}
use Rattle.tpw_text.specs.declared.words.Word.{Word}
use Rattle.tpw_text.specs.declared.draft.DraftLine.{DraftLine}
use Rattle.tpw_text.specs.declared.draft.LabelName.{LabelName}
use Rattle.tpw_text.specs.declared.remarks.Remarks.{Remarks}
use Rattle.tpw_text.specs.declared.remarks.LineRemark.{LineRemark}
use Rattle.tpw_text.specs.Limits.{most}
use Rattle.tpw_text.specs.Faults.{each_read}
use Rattle.tpw_text.specs.Words.{position_of, is_plain}
use Rattle.tpw_text.specs.Statements.{is_no_name}
use Rattle.tpw_text.specs.Drafts.{Said, is_full, pushed, label_set, place_named}
use Rattle.tpw_text.specs.Grammar.{statement_said}
use Rattle.tpw_text.specs.Meaning.{added, line_said}
use Rattle.tpw_text.specs.Programs.{line_placed, under, label_listed, labels_listed}
use Rattle.tpw_text.specs.Written.{as_line, label_text, line_text, label_there, line_remark, behind as remark_behind, lines_text, names_from_line}
use Rattle.tpw_text_laws.specs.Sources.{label_at, labels_below, WrittenLine, column_of, written_line, written_lines, ArePositions}
use Rattle.tpw_text_laws.specs.Conditions.{MayBeLine}
use Rattle.tpw_text_laws.proofs.Tests.{and_false, or_left, or_right}
use Rattle.tpw_text_laws.proofs.Bytes.{decimal_word, label_word}
use Rattle.tpw_text_laws.proofs.TextLines.{is_shown}
use Rattle.tpw_text_laws.proofs.Pieces.{Of, Mark, IsTail, no_tail, comment_tail, word_shown}
use Rattle.tpw_text_laws.proofs.Leading.{Leads, nothing, behind, leads_to, a_line}
use Rattle.tpw_text_laws.proofs.Fields.{alone}
use Rattle.tpw_text_laws.proofs.Rows.{at, AreLabels, Rowed, one_more_read}
use Rattle.tpw_text_laws.proofs.CodeLines.{Reads, line_read}

-- labels
same_label : (p : ℕ) → bytes_eq (label_text p) (label_text p) ≡ true
same_label p = (bytes_eq-Decides (label_text p) (label_text p)).1 refl

other_label : (k p : ℕ) → k < 2 ^ 64 → p < 2 ^ 64 → (k ≡ p → ⊥) → bytes_eq (label_text k) (label_text p) ≡ false
other_label k p few few' other = by (bytes_eq (label_text k) (label_text p)) refl
  where
    by : (t : Bool) → bytes_eq (label_text k) (label_text p) ≡ t → t ≡ false
    by false e = refl
    by true e =
        let same : label_text k ≡ label_text p = (bytes_eq-Decides (label_text k) (label_text p)).0 e in
        let digits : decimal k ≡ decimal p = cc in
        absurd (other (decimal_injective k p few few' digits))

found_last : (xs : Option LabelName) (l : LabelName) (t : Bool) →
    option_map (λ n. n.place) (option_or xs (if t then Some l else None)) ≡ option_or (option_map (λ n. n.place) xs)
    (if t then Some l.place else None)
found_last (Some n) l t = refl
found_last None l true = refl
found_last None l false = refl

one_label_more : (labels : List LabelName) (l : LabelName) (w : Word) →
    place_named (labels ++ l ∷ []) w ≡ option_or (place_named labels w)
    (if bytes_eq l.word.text.now w.text.now then Some l.place else None)
unfolding place_named
one_label_more labels l w =
    ap (option_map (λ n. n.place)) (find-append (λ n. bytes_eq n.word.text.now w.text.now) labels (l ∷ []))
    ∙ found_last (find (λ n. bytes_eq n.word.text.now w.text.now) labels) l (bytes_eq l.word.text.now w.text.now)

-- the labels of the named places below one
abbrev pub AreBelow : (ℕ → Bool) → ℕ → ℕ → List LabelName → Type 0
AreBelow named count below labels =
    (w : Word) (p : ℕ) → w.text.now ≡ label_text p → p ≤ count → place_named labels w ≡ (if named p && nat_lt p below then Some p else None)

or_none : (o : Option ℕ) → option_or o None ≡ o
or_none (Some n) = refl
or_none None = refl

same_test : (named : ℕ → Bool) (k p : ℕ) → (k ≡ p → ⊥) → (named p && nat_lt p k) ≡ (named p && nat_lt p (k + 1))
same_test named k p other = ap (λ t. named p && t) (by (nat_lt p k) refl)
  where
    by : (t : Bool) → nat_lt p k ≡ t → t ≡ nat_lt p (k + 1)
    by true e = sym (grind (arith, nat_tests))
    by false e = sym (grind (arith, nat_tests, other))

-- a place more: named, with its label, or not
label_more : (named : ℕ → Bool) (count k : ℕ) (labels : List LabelName) (l : LabelName) → count ≤ most → l.word.text.now ≡ label_text k → l.place ≡ k → k ≤ count → named k ≡ true
    → AreBelow named count k labels → AreBelow named count (k + 1) (labels ++ l ∷ [])
label_more named count k labels l few is place within there are = λ w p names low.
    one_label_more labels l w ∙ ap (λ o. option_or o (if bytes_eq l.word.text.now w.text.now then Some l.place else None)) (are w p names low)
    ∙ ap (λ x. option_or (if named p && nat_lt p k then Some p else None) (if bytes_eq x w.text.now then Some l.place else None)) is
    ∙ ap (λ x. option_or (if named p && nat_lt p k then Some p else None) (if bytes_eq (label_text k) x then Some l.place else None)) names
    ∙ ap (λ x. option_or (if named p && nat_lt p k then Some p else None) (if bytes_eq (label_text k) (label_text p) then Some x else None)) place
    ∙ by p low (k == p) refl
  where
    by : (p : ℕ) → p ≤ count → (t : Bool) → (k == p) ≡ t
        → option_or (if named p && nat_lt p k then Some p else None) (if bytes_eq (label_text k) (label_text p) then Some k else None) ≡ (if named p && nat_lt p (k + 1) then Some p else None)
    by p low true e =
        let same : p ≡ k = grind (arith, nat_tests) in
        let below : nat_lt k k ≡ false = grind (arith, nat_tests) in
        let above : nat_lt k (k + 1) ≡ true = grind (arith, nat_tests) in
        rw (same, there, below, above, same_label k) refl
    by p low false e =
        let other : k ≡ p → ⊥ = λ same. grind (arith, nat_tests, same) in
        rw (other_label k p (omega arith) (omega arith) other, same_test named k p other) (or_none _)

no_label_more : (named : ℕ → Bool) (count k : ℕ) (labels : List LabelName) → named k ≡ false → AreBelow named count k labels → AreBelow named count (k + 1) labels
no_label_more named count k labels none are = λ w p names low. are w p names low ∙ ap (λ t. if t then Some p else None) (by p (k == p) refl)
  where
    by : (p : ℕ) (t : Bool) → (k == p) ≡ t → (named p && nat_lt p k) ≡ (named p && nat_lt p (k + 1))
    by p true e = let same : p ≡ k = grind (arith, nat_tests) in rw (same, none) refl
    by p false e = same_test named k p (λ same. grind (arith, nat_tests, same))

-- the code so far, and the labels of the places below one
pub record Coded (s : Said) (named : ℕ → Bool) (count : ℕ) (loops : List Loop) (remarks : Option Remarks) (done : List Line) (below : ℕ) (front : List (List ℕ)) (d : Said) : Type 0 where
  pub fields : Said
  pub rowed : Rowed s named count loops fields
  pub is : d ≡ record fields { lines = d.lines; positions = d.positions; labels = d.labels }
  pub long : length d.lines ≡ length done
  pub placed : (labels : List LabelName) → AreLabels named count labels → each_read (line_placed labels) d.lines ≡ Ok done
  pub labels : AreBelow named count below d.labels
  pub few : length d.labels ≡ length (labels_below named below)
  pub listed : labels_listed d.labels ≡ labels_below named below
  pub positions : ArePositions front 0 d.positions (written_lines remarks 0 done)

a_label : (named : ℕ → Bool) (count k : ℕ) (w : Word) (d : Said) → w.text.now ≡ label_text k → k ≤ count → AreBelow named count k d.labels → length d.labels < most
    → label_set w d ≡ Ok (record d { labels = d.labels ++ (record { word = w; place = length d.lines }) ∷ [] })
unfolding label_set
a_label named count k w d is within are few =
    let below : nat_lt k k ≡ false = grind (arith, nat_tests) in
    let none : place_named d.labels w ≡ None = are w k is within ∙ ap (λ t. if named k && t then Some k else None) below ∙ ap (λ t. if t then Some k else None) (and_false (named k)) in
    let space : is_full d.labels ≡ false = grind (arith, nat_tests) in
    rw (none, space) refl

label_line : (n : ℕ) (k : ℕ) (d e : Said) → label_set (at n 1 (label_text k)) d ≡ Ok e → line_said (at n 1 (label_text k) ∷ at n (1 + length (label_text k)) (codes ":") ∷ []) d ≡ Ok e
unfolding line_said is_no_name statement_said added
label_line n k d e set = rw set refl

-- lemmas about labels
label_ascii : (k : ℕ) → k < 2 ^ 64 → IsAscii (label_text k)
label_ascii k few zero = omega arith
label_ascii k few (suc i) = IsAscii-decimal k few i

label_is_text : (k : ℕ) → k < 2 ^ 64 → is_utf8 (label_text k) ≡ true
label_is_text k few = is_utf8-from_IsUtf8 (label_text k) (IsUtf8-from_ascii (label_text k) (label_ascii k few))

listed-append : (labels : List LabelName) (l : LabelName) → labels_listed (labels ++ l ∷ []) ≡ labels_listed labels ++ label_listed l
listed-append [] l = append-nil (label_listed l)
listed-append (m ∷ labels) l = ap (λ ls. label_listed m ++ ls) (listed-append labels l) ∙ sym (append_assoc (label_listed m) (labels_listed labels) (label_listed l))

one_listed : (w : Word) (k place : ℕ) → k < 2 ^ 64 → w.text.now ≡ label_text k → place ≡ k → label_listed (record { word = w; place = place }) ≡ label_at k ∷ []
unfolding label_listed
one_listed w k place few is same =
    ap (λ t. under t (record { name = t; place = place })) is ∙ ap (λ n. under (label_text k) (record { name = label_text k; place = n })) same
    ∙ ap (λ b. if b then label_at k ∷ [] else []) (label_is_text k few)

listed_more : (named : ℕ → Bool) (k : ℕ) (labels : List LabelName) (new : List LabelName) →
    labels_listed labels ≡ labels_below named k → labels_listed new ≡ labels_listed labels ++
    (if named k then label_at k ∷ [] else [])
    → labels_listed new ≡ labels_below named (k + 1)
listed_more named k labels new listed more = more ∙ ap (λ ls. ls ++ (if named k then label_at k ∷ [] else [])) listed ∙ ap (labels_below named) (sym (add-one k))

-- there are not too many lines, and not too many labels
pub record HasRoom (named : ℕ → Bool) (count : ℕ) : Type 0 where
  pub lines : count ≤ most
  pub labels : length (labels_below named (suc count)) ≤ most

fewer : (named : ℕ → Bool) (k n : ℕ) → k ≤ n → length (labels_below named k) ≤ length (labels_below named n)
fewer named zero n low = omega arith
fewer named (suc k) zero low = absurd (omega arith)
fewer named (suc k) (suc n) low = by (suc k == suc n) refl
    (fewer named (suc k) n) (omega (arith, length-append (labels_below named n) (if named n then label_at n ∷ [] else [])))
  where
    by : (t : Bool) → (suc k == suc n) ≡ t → (suc k ≤ n → length (labels_below named (suc k)) ≤ length (labels_below named n)) → length (labels_below named n) ≤ length (labels_below named (suc n))
        → length (labels_below named (suc k)) ≤ length (labels_below named (suc n))
    by true e go more = let same : suc k ≡ suc n = grind (arith, nat_tests) in omega (arith, ap (λ m. length (labels_below named m)) same)
    by false e go more = let less : suc k ≤ n = grind (arith, nat_tests) in omega (arith, go less, more)

one_more_label : (named : ℕ → Bool) (k : ℕ) → named k ≡ true → length (labels_below named (suc k)) ≡ length (labels_below named k) + 1
one_more_label named k there = ap (λ t. length (labels_below named k ++ (if t then label_at k ∷ [] else []))) there ∙ length_push (labels_below named k) (label_at k)

-- positions of words
got_before : (front more : List (List ℕ)) (i : ℕ) (t : List ℕ) → slice_get front i ≡ Some t → slice_get (front ++ more) i ≡ Some t
got_before [] more i t is = cc
got_before (x ∷ front) more zero t is = is
got_before (x ∷ front) more (suc i) t is = got_before front more i t is

got_last : (front : List (List ℕ)) (t : List ℕ) → slice_get (front ++ t ∷ []) (length front) ≡ Some t
got_last [] t = refl
got_last (x ∷ front) t = got_last front t

positions_behind : (front more : List (List ℕ)) (above : ℕ) (ps : List Position) (ts : List WrittenLine) → ArePositions front above ps ts → ArePositions (front ++ more) above ps ts
positions_behind front more above [] [] are = tt
positions_behind front more above [] (t ∷ ts) are = absurd are
positions_behind front more above (p ∷ ps) [] are = absurd are
positions_behind front more above (p ∷ ps) (t ∷ ts) are = (are.0, got_before front more (p.line - 1) t.text are.1, are.2, positions_behind front more p.line ps ts are.3)

one_position_more : (front : List (List ℕ)) (t : WrittenLine) (above : ℕ) (ps : List Position) (ts : List WrittenLine)
    (p : Position) → p.line ≡ 1 + length front → p.column ≡ t.column → above ≤ length front
    → ArePositions front above ps ts → ArePositions (front ++ t.text ∷ []) above (ps ++ p ∷ []) (ts ++ t ∷ [])
one_position_more front t above [] [] p is there low are =
    let at_last : p.line - 1 ≡ length front = omega arith in
    (omega arith, ap (slice_get (front ++ t.text ∷ [])) at_last ∙ got_last front t.text, there, tt)
one_position_more front t above [] (u ∷ ts) p is there low are = absurd are
one_position_more front t above (q ∷ ps) [] p is there low are = absurd are
one_position_more front t above (q ∷ ps) (u ∷ ts) p is there low are =
    let within : q.line - 1 < length front = slice_get_within front (q.line - 1) u.text are.1 in
    (are.0, got_before front (t.text ∷ []) (q.line - 1) u.text are.1, are.2, one_position_more front t q.line ps ts p is there (omega arith) are.3)

written-append : (remarks : Option Remarks) (k : ℕ) (done : List Line) (line : Line) →
    written_lines remarks k (done ++ line ∷ []) ≡ written_lines remarks k done ++
    written_line remarks (k + length done) line ∷ []
written-append remarks k [] line = ap (λ n. written_line remarks n line ∷ []) (omega arith)
written-append remarks k (l ∷ done) line =
    let far : k + 1 + length done ≡ k + length (l ∷ done) = omega arith in
    ap (λ ls. written_line remarks k l ∷ ls) (written-append remarks (k + 1) done line)
    ∙ ap (λ n. written_line remarks k l ∷ (written_lines remarks (k + 1) done ++ written_line remarks n line ∷ [])) far

position_more : (front : List (List ℕ)) (remarks : Option Remarks) (done : List Line) (line : Line) (k : ℕ) (p : Position) (ps : List Position) → length done ≡ k
    → p ≡ record { line = 1 + length front; column = column_of line } → ArePositions front 0 ps (written_lines remarks 0 done)
    → ArePositions (front ++ (line_text line ++ remark_behind remarks k) ∷ []) 0 (ps ++ p ∷ []) (written_lines remarks 0 (done ++ line ∷ []))
position_more front remarks done line k p ps long is are =
    let here : 0 + length done ≡ k = omega arith in
    let same : written_lines remarks 0 (done ++ line ∷ []) ≡ written_lines remarks 0 done ++ written_line remarks k line ∷ [] =
    written-append remarks 0 done line ∙ ap (λ i. written_lines remarks 0 done ++ written_line remarks i line ∷ []) here in
    subst (ArePositions (front ++ (line_text line ++ remark_behind remarks k) ∷ []) 0 (ps ++ p ∷ [])) (sym same)
    (one_position_more front (written_line remarks k line) 0 ps (written_lines remarks 0 done) p (ap (λ (q : Position). q.line) is) (ap (λ (q : Position). q.column) is) (omega arith) are)

named_leads : (s : Said) (named : ℕ → Bool) (count : ℕ) (loops : List Loop) (remarks : Option Remarks)
    (done : List Line) (k : ℕ) → length done ≡ k → HasRoom named count → k ≤ count → named k ≡ true
    → Leads (as_line (label_text k ++ codes ":")) (Coded s named count loops remarks done k) (Coded s named count loops remarks done (k + 1))
unfolding is_plain
named_leads s named count loops remarks done k long small within there =
    alone (label_text k ++ codes ":") (Of (label_text k) ∷ Mark 58 ∷ []) refl (label_word k, (refl, (refl, tt))) (λ front d p.
    let n : ℕ = 1 + length front in
    let more = one_more_label named k there in
    let w : Word = at n 1 (label_text k) in
    let l : LabelName = record { word = w; place = length d.lines } in
    let e : Said = record d { labels = d.labels ++ l ∷ [] } in (
      e,
      label_line n k d e (a_label named count k w d refl within p.labels (omega (arith, p.few, small.labels, more, fewer named (suc k) (suc count) (omega arith)))),
      record {
        fields = p.fields;
        rowed = p.rowed;
        is = ap (λ (x : Said). record x { labels = d.labels ++ l ∷ [] }) p.is;
        long = p.long;
        placed = p.placed;
        labels = label_more named count k d.labels l small.lines refl (p.long ∙ long) within there p.labels;
        few = omega (arith, length-append d.labels (l ∷ []), p.few, more, ap (λ n. length (labels_below named n)) (add-one k));
        listed = listed_more named k d.labels (d.labels ++ l ∷ []) p.listed
            (listed-append d.labels l ∙ ap (λ ls. labels_listed d.labels ++ ls)
            (one_listed w k (length d.lines) (omega arith) refl (p.long ∙ long) ∙
            ap (λ t. if t then label_at k ∷ [] else []) (sym there)));
        positions = positions_behind front ((label_text k ++ codes ":") ∷ []) 0 d.positions (written_lines remarks 0 done) p.positions;
      },
    ))

label_leads : (s : Said) (named : ℕ → Bool) (count : ℕ) (loops : List Loop) (remarks : Option Remarks) (done : List Line) (k : ℕ) → length done ≡ k → HasRoom named count → k ≤ count
    → Leads (label_there (named k) k) (Coded s named count loops remarks done k) (Coded s named count loops remarks done (k + 1))
unfolding label_there
label_leads s named count loops remarks done k long small within = by (named k) refl
  where
    by : (t : Bool) → named k ≡ t → Leads (if t then as_line (label_text k ++ codes ":") else []) (Coded s named count loops remarks done k) (Coded s named count loops remarks done (k + 1))
    by true there = named_leads s named count loops remarks done k long small within there
    by false none = leads_to (λ front d p. record {
      fields = p.fields;
      rowed = p.rowed;
      is = p.is;
      long = p.long;
      placed = p.placed;
      labels = no_label_more named count k d.labels none p.labels;
      few = p.few ∙ sym (ap (λ n. length (labels_below named n)) (add-one k) ∙
          ap (λ t. length (labels_below named k ++ (if t then label_at k ∷ [] else []))) none ∙
          ap length (append-nil (labels_below named k)));
      listed = listed_more named k d.labels d.labels p.listed (sym (append-nil (labels_listed d.labels)) ∙ ap (λ t. labels_listed d.labels ++ (if t then label_at k ∷ [] else [])) (sym none));
      positions = p.positions;
    }) (nothing {P = Coded s named count loops remarks done k})

-- remarks
pub decimal_line : (n : ℕ) → list_all is_shown (decimal n) ≡ true
decimal_line n = word_shown (decimal n) (decimal_word n).plain

remark_tail : (o : Option (Option LineRemark)) → IsTail (line_remark o)
remark_tail None = no_tail
remark_tail (Some None) = no_tail
remark_tail (Some (Some r)) = comment_tail ((32 ∷ decimal r.address ++ codes ": ") ++ decimal r.on) (simp (list_all-append {X = ℕ}, decimal_line))

tail_behind : (remarks : Option Remarks) (k : ℕ) → IsTail (remark_behind remarks k)
unfolding remark_behind
tail_behind None k = no_tail
tail_behind (Some remarks) k = remark_tail (slice_get remarks.lines.now k)

-- a line
a_push : (w : Word) (l : DraftLine) (d : Said) → length d.lines < most → pushed w l d ≡ Ok (record d { lines = d.lines ++ l ∷ []; positions = d.positions ++ position_of w ∷ [] })
unfolding pushed
a_push w l d few =
    let space : is_full d.lines ≡ false = grind (arith, nat_tests) in
    rw space refl

line_leads : (s : Said) (named : ℕ → Bool) (count : ℕ) (loops : List Loop) (done : List Line) (line : Line) (below : ℕ)
    (remarks : Option Remarks) (k : ℕ) → length done ≡ k → k < most → Reads named count line
    → Leads (as_line (line_text line ++ remark_behind remarks k)) (Coded s named count loops remarks done below) (Coded s named count loops remarks (done ++ line ∷ []) below)
line_leads s named count loops done line below remarks k here few reads =
    a_line reads.pieces (remark_behind remarks k) (ap (λ t. t ++ remark_behind remarks k) reads.is) reads.apart (tail_behind remarks k) (λ front d p.
    let n : ℕ = 1 + length front in
    let r = reads.says n d in
    let e : Said = record d { lines = d.lines ++ r.1 ∷ []; positions = d.positions ++ position_of r.0 ∷ [] } in (
      e,
      r.2 ∙ a_push r.0 r.1 d (omega (arith, p.long, here)),
      record {
        fields = p.fields;
        rowed = p.rowed;
        is = ap (λ (x : Said). record x { lines = d.lines ++ r.1 ∷ []; positions = d.positions ++ position_of r.0 ∷ [] }) p.is;
        long = omega (arith, length-append d.lines (r.1 ∷ []), length-append done (line ∷ []), p.long);
        placed = λ labels are. one_more_read (line_placed labels) d.lines r.1 done line (p.placed labels are) (r.3 labels are);
        labels = p.labels;
        few = p.few;
        listed = p.listed;
        positions = position_more front remarks done line k (position_of r.0) d.positions here r.4 p.positions;
      },
    ))

pub code_leads : (s : Said) (named : ℕ → Bool) (count : ℕ) (loops : List Loop) (remarks : Option Remarks)
    (done lines : List Line) (k : ℕ) → length done ≡ k → k + length lines ≡ count → HasRoom named count
    → AllByRecursion (MayBeLine count) lines → ((p : ℕ) → list_any (names_from_line p) lines ≡ true → named p ≡ true)
    → Leads (lines_text named remarks k lines) (Coded s named count loops remarks done k) (Coded s named count loops remarks (done ++ lines) (count + 1))
code_leads s named count loops remarks done [] k long all small may from =
    let end : k + 1 ≡ count + 1 = omega (arith, all) in
    leads_to (λ front d p. subst (λ (ls : List Line). Coded s named count loops remarks ls (count + 1) front d)
    (sym (append-nil done)) (subst (λ (n : ℕ). Coded s named count loops remarks done n front d) end p))
    (label_leads s named count loops remarks done k long small (omega (arith, all)))
code_leads s named count loops remarks done (line ∷ lines) k long all small may from =
    leads_to (λ front d p. subst (λ (ls : List Line). Coded s named count loops remarks ls (count + 1) front d) (append_assoc done (line ∷ []) lines) p)
    (behind (behind (label_leads s named count loops remarks done k long small (omega (arith, all)))
    (line_leads s named count loops done line (k + 1) remarks k long (omega (arith, all, small.lines))
    (line_read named count line may.0 (λ p e. from p (or_left (names_from_line p line)
    (list_any (names_from_line p) lines) e)))))
    (code_leads s named count loops remarks (done ++ line ∷ []) lines (k + 1)
    (omega (arith, length-append done (line ∷ []), long)) (omega (arith, all)) small may.1
    (λ p e. from p (or_right (names_from_line p line) (list_any (names_from_line p) lines) e))))
