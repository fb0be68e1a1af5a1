-- The rows of a program are read as they are written.
use Rattle.std.proofs.Common.{◌≡◌, ℕ, ◌+◌, ◌<◌, ◌≤◌, nat_le, Bool, true, false, ℤ, List, [], ◌∷◌, ◌++◌, codes, length, Some, Result, Ok, Err, refl, ap, sym, ◌∙◌, subst, arith, append_assoc}
use Rattle.std.specs.List.{list_any, flat_map, AllByRecursion}
use Rattle.std.specs.Option.{ok_or}
use Rattle.std.specs.Fmt.{decimal, signed_decimal}
use Rattle.std.proofs.lemmas.List.{append-nil, length-append}
use Rattle.std.proofs.lemmas.Bool.Decides.{nat_tests}
use Rattle.tpw_asm.specs.declared.program.Spot.{Spot}
use Rattle.tpw_asm.specs.declared.program.Spot.TheVariants as spot
use Rattle.tpw_asm.specs.declared.program.Loop.{Loop}
use Rattle.tpw_text.specs.declared.words.Word.{Word}
use Rattle.tpw_text.specs.declared.fault.SourceFault.{SourceFault}
use Rattle.tpw_text.specs.declared.fault.TextFault.TheVariants.{NoLabel}
use Rattle.tpw_text.specs.declared.keyword.Keyword.TheVariants as keyword
use Rattle.tpw_text.specs.declared.draft.Target.{Target}
use Rattle.tpw_text.specs.declared.draft.Target.TheVariants as target
use Rattle.tpw_text.specs.declared.draft.LabelName.{LabelName}
use Rattle.tpw_text.specs.declared.draft.Row.{Row}
use Rattle.tpw_text.specs.declared.statement.Statement.TheVariants as statement
use Rattle.tp_image.specs.Limits.{most_loops}
use Rattle.tpw_text.specs.Limits.{most_count}
use Rattle.tpw_text.specs.Faults.{fault_at, then_read, each_read, ◌>>=◌}
use Rattle.tpw_text.specs.Words.{is_plain}
use Rattle.tpw_text.specs.Drafts.{Said, place_named, row_added}
use Rattle.tpw_text.specs.Numbers.{begins_number}
use Rattle.tpw_text.specs.Keywords.{keyword_named}
use Rattle.tpw_text.specs.Statements.{word_said, end_said, expect_said, target_said, count_read, number_read}
use Rattle.tpw_text.specs.Grammar.{row_said, keyword_said}
use Rattle.tpw_text.specs.Meaning.{added, line_said}
use Rattle.tpw_text.specs.Apart.{word_for}
use Rattle.tpw_text.specs.Programs.{place_of_label, spot_placed, loop_placed}
use Rattle.tpw_text.specs.Written.{label_text, spot_text, loop_text, is_at, names_from_row}
use Rattle.tpw_text_laws.specs.Conditions.{MayBeSpot, MayBeRow}
use Rattle.tpw_text_laws.proofs.Tests.{or_left, or_right, same_place}
use Rattle.tpw_text_laws.proofs.Bytes.{IsWord, literal_word, decimal_word, signed_word, label_word}
use Rattle.tpw_text_laws.proofs.Numbers.{count_is, signed_is, begins_decimal}
use Rattle.tpw_text_laws.proofs.Pieces.{Piece, Gap, Of}
use Rattle.tpw_text_laws.proofs.Leading.{Leads, nothing, behind, leads_to}
use Rattle.tpw_text_laws.proofs.Fields.{alone, keyword_says}

abbrev pub at : ℕ → ℕ → List ℕ → Word
at line column text = word_for (record { text = text; line = line; column = column })

-- each place that is named has its label
abbrev pub AreLabels : (ℕ → Bool) → ℕ → List LabelName → Type 0
AreLabels named count labels = (w : Word) (p : ℕ) → w.text.now ≡ label_text p → p ≤ count → named p ≡ true → place_named labels w ≡ Some p

then_all : {B : Type 0} (r : Result (List B) SourceFault) → r ≡ then_read r (λ ws. Ok ws)
then_all (Ok ws) = refl
then_all (Err e) = refl

one_step : {B : Type 0} (rx : Result B SourceFault) (rxs rzs all : Result (List B) SourceFault) → all ≡ then_read rxs (λ ys. then_read rzs (λ ws. Ok (ys ++ ws)))
    → then_read rx (λ y. then_read all (λ t. Ok (y ∷ t))) ≡ then_read (then_read rx (λ y. then_read rxs (λ t. Ok (y ∷ t)))) (λ ys. then_read rzs (λ ws. Ok (ys ++ ws)))
one_step (Err e) rxs rzs all is = refl
one_step (Ok y) (Err e) rzs all is = ap (λ r. then_read r (λ t. Ok (y ∷ t))) is
one_step (Ok y) (Ok ys) (Err e) all is = ap (λ r. then_read r (λ t. Ok (y ∷ t))) is
one_step (Ok y) (Ok ys) (Ok ws) all is = ap (λ r. then_read r (λ t. Ok (y ∷ t))) is

each_read-append : {A B : Type 0} (read : A → Result B SourceFault) (xs zs : List A) →
    each_read read (xs ++ zs) ≡ then_read (each_read read xs) (λ ys. then_read (each_read read zs) (λ ws. Ok (ys ++ ws)))
each_read-append read [] zs = then_all (each_read read zs)
each_read-append read (x ∷ xs) zs = one_step (read x) (each_read read xs) (each_read read zs) (each_read read (xs ++ zs)) (each_read-append read xs zs)

-- one more is read
pub one_more_read : {A B : Type 0} (read : A → Result B SourceFault) (xs : List A) (x : A) (ys : List B) (y : B) →
    each_read read xs ≡ Ok ys → read x ≡ Ok y → each_read read (xs ++ x ∷ []) ≡ Ok (ys ++ y ∷ [])
one_more_read read xs x ys y all one =
    each_read-append read xs (x ∷ []) ∙ ap (λ r. then_read r (λ zs. then_read (each_read read (x ∷ [])) (λ ws. Ok (zs ++ ws)))) all
    ∙ ap (λ r. then_read (then_read r (λ z. Ok (z ∷ []))) (λ ws. Ok (ys ++ ws))) one

-- a label's place
pub label_placed : (labels : List LabelName) (w : Word) (p : ℕ) → place_named labels w ≡ Some p → place_of_label labels w ≡ Ok p
unfolding place_of_label
label_placed labels w p is = ap (λ o. ok_or o (fault_at w NoLabel)) is

abbrev target_of : Word → Spot → Target
target_of w (spot.Place place) = target.Label w
target_of w (spot.Address address) = target.Address address

spot_word : (sp : Spot) → IsWord (spot_text sp)
unfolding spot_text
spot_word (spot.Place place) = label_word place
spot_word (spot.Address address) = decimal_word address

target_is : (w : Word) (sp : Spot) (count : ℕ) → w.text.now ≡ spot_text sp → MayBeSpot count sp → target_said w ≡ Ok (target_of w sp)
unfolding target_said spot_text
target_is w (spot.Place place) count is may = rw is refl
target_is w (spot.Address address) count is may =
    let begins : begins_number w.text.now ≡ true = ap begins_number is ∙ begins_decimal address (omega arith) in
    rw begins (ap (λ r. r >>= λ n. Ok (target.Address n)) (count_is w most_count address is may (omega arith)))

spot_back : (named : ℕ → Bool) (count : ℕ) (labels : List LabelName) (w : Word) (sp : Spot) →
    AreLabels named count labels → w.text.now ≡ spot_text sp → MayBeSpot count sp →
    ((p : ℕ) → is_at p sp ≡ true → named p ≡ true)
    → spot_placed labels (target_of w sp) ≡ Ok sp
unfolding spot_placed spot_text
spot_back named count labels w (spot.Place place) are is may all =
    ap (λ r. then_read r (λ p. Ok (spot.Place p))) (label_placed labels w place (are w place is may (all place (same_place place))))
spot_back named count labels w (spot.Address address) are is may all = refl

-- a row of words
row_is : (n c1 c3 c5 c7 c9 : ℕ) (first w2 w4 w6 w8 w10 : Word) (head lend : Target) (word count : ℕ) (start : ℤ) → target_said w2 ≡ Ok head → target_said w4 ≡ Ok lend
    → count_read most_count w6 ≡ Ok word → count_read most_count w8 ≡ Ok count → number_read w10 ≡ Ok start
    → row_said (first ∷ at n c1 (codes "head") ∷ w2 ∷ at n c3 (codes "lend") ∷ w4 ∷ at n c5 (codes "control") ∷ w6 ∷ at n c7 (codes "turns") ∷ w8 ∷ at n c9 (codes "start") ∷ w10 ∷ []) first
    ≡ Ok (record { head = head; lend = lend; control = word; count = count; start = start })
unfolding row_said expect_said word_said end_said
row_is n c1 c3 c5 c7 c9 first w2 w4 w6 w8 w10 head lend word count start h2 h4 h6 h8 h10 = rw (h2, h4, h6, h8, h10) refl

-- a draft of one kind, whatever lines are in front
abbrev pub Any : (Said → Type 0) → List (List ℕ) → Said → Type 0
Any P front d = P d

-- the rows so far
pub record Rowed (s : Said) (named : ℕ → Bool) (count : ℕ) (loops : List Loop) (d : Said) : Type 0 where
  pub is : d ≡ record s { rows = d.rows }
  pub long : length d.rows ≡ length loops
  pub placed : (labels : List LabelName) → AreLabels named count labels → each_read (loop_placed labels) d.rows ≡ Ok loops

a_row : (w : Word) (row : Row) (s d : Said) (loops : List Loop) → d ≡ record s { rows = d.rows } → length d.rows ≡ length loops → length loops < most_loops
    → row_added w row d ≡ Ok (record s { rows = d.rows ++ row ∷ [] })
unfolding row_added
a_row w row s d loops is long few =
    let space : nat_le most_loops (length d.rows) ≡ false = grind (arith, nat_tests) in
    rw space (ap (λ (e : Said). Ok (record e { rows = d.rows ++ row ∷ [] })) is)

row_line : (l : Loop) → List Piece
row_line l =
    Of (codes "loop") ∷ Gap ∷ Of (codes "head") ∷ Gap ∷ Of (spot_text l.head) ∷ Gap ∷ Of (codes "lend") ∷ Gap ∷ Of (spot_text l.lend)
    ∷ Gap ∷ Of (codes "control") ∷ Gap ∷ Of (decimal l.control) ∷ Gap ∷ Of (codes "turns") ∷ Gap ∷ Of (decimal l.count)
    ∷ Gap ∷ Of (codes "start") ∷ Gap ∷ Of (signed_decimal l.start) ∷ []

row_leads : (s : Said) (named : ℕ → Bool) (count : ℕ) (done : List Loop) (l : Loop) →
    length done < most_loops → MayBeRow count l → ((p : ℕ) → names_from_row p l ≡ true → named p ≡ true)
    → Leads (loop_text l) (Any (Rowed s named count done)) (Any (Rowed s named count (done ++ l ∷ [])))
unfolding is_plain keyword_named keyword_said added loop_text row_line line_said loop_placed
row_leads s named count done l few may all =
    alone (codes "loop head " ++ spot_text l.head ++ codes " lend " ++ spot_text l.lend ++ codes " control " ++
    decimal l.control ++ codes " turns " ++ decimal l.count ++ codes " start " ++ signed_decimal l.start)
    (row_line l) (simp (append_assoc, append-nil)) (
      literal_word _ refl,
      (
        refl,
        (
          literal_word _ refl,
          (
            refl,
            (
              spot_word l.head,
              (
                refl,
                (
                  literal_word _ refl,
                  (
                    refl,
                    (
                      spot_word l.lend,
                      (
                        refl,
                        (
                          literal_word _ refl,
                          (
                            refl,
                            (
                              decimal_word l.control,
                              (
                                refl,
                                (
                                  literal_word _ refl,
                                  (
                                    refl,
                                    (
                                      decimal_word l.count,
                                      (
                                        refl,
                                        (
                                          literal_word _ refl,
                                          (refl, (signed_word l.start, (refl, tt))),
                                        ),
                                      ),
                                    ),
                                  ),
                                ),
                              ),
                            ),
                          ),
                        ),
                      ),
                    ),
                  ),
                ),
              ),
            ),
          ),
        ),
      ),
    ) (λ front d p.
    let n : ℕ = 1 + length front in
    let c2 : ℕ = 11 in
    let c4 : ℕ = c2 + length (spot_text l.head) + 1 + 4 + 1 in
    let c6 : ℕ = c4 + length (spot_text l.lend) + 1 + 7 + 1 in
    let c8 : ℕ = c6 + length (decimal l.control) + 1 + 5 + 1 in
    let c10 : ℕ = c8 + length (decimal l.count) + 1 + 5 + 1 in
    let first : Word = at n 1 (codes "loop") in
    let w2 : Word = at n c2 (spot_text l.head) in
    let w4 : Word = at n c4 (spot_text l.lend) in
    let w6 : Word = at n c6 (decimal l.control) in
    let w8 : Word = at n c8 (decimal l.count) in
    let w10 : Word = at n c10 (signed_decimal l.start) in
    let row : Row = record { head = target_of w2 l.head; lend = target_of w4 l.lend; control = l.control; count = l.count; start = l.start } in
    let said = row_is n 6 (c2 + length (spot_text l.head) + 1) (c4 + length (spot_text l.lend) + 1) (c6 + length (decimal l.control) + 1) (c8 + length (decimal l.count) + 1) first w2 w4 w6 w8 w10
    (target_of w2 l.head) (target_of w4 l.lend) l.control l.count l.start (target_is w2 l.head count refl may.head) (target_is w4 l.lend count refl may.lend)
    (count_is w6 most_count l.control refl may.control (omega (arith, may.control)))
    (count_is w8 most_count l.count refl may.turns (omega (arith, may.turns))) (signed_is w10 l.start refl may.start)
    in (
      record s { rows = d.rows ++ row ∷ [] },
      keyword_says first _ keyword.Loop (statement.Row first row) d _ refl
          (ap (λ r. r >>= λ row. Ok (statement.Row first row)) said) (a_row first row s d done p.is p.long few),
      record {
        is = refl;
        long = omega (arith, length-append d.rows (row ∷ []), length-append done (l ∷ []), p.long);
        placed = λ labels are. one_more_read (loop_placed labels) d.rows row done l (p.placed labels are)
            (rw (
              spot_back named count labels w2 l.head are refl may.head
                  (λ k e. all k (or_left (is_at k l.head) (is_at k l.lend) e)),
              spot_back named count labels w4 l.lend are refl may.lend
                  (λ k e. all k (or_right (is_at k l.head) (is_at k l.lend) e)),
            ) refl);
      },
    ))

pub rows_lead : (s : Said) (named : ℕ → Bool) (count : ℕ) (done loops : List Loop) →
    length done + length loops ≤ most_loops → AllByRecursion (MayBeRow count) loops →
    ((p : ℕ) → list_any (names_from_row p) loops ≡ true → named p ≡ true)
    → Leads (flat_map loop_text loops) (Any (Rowed s named count done)) (Any (Rowed s named count (done ++ loops)))
rows_lead s named count done [] few may all =
    leads_to (λ front d r. subst (λ (ls : List Loop). Rowed s named count ls d) (sym (append-nil done)) r) (nothing {P = Any (Rowed s named count done)})
rows_lead s named count done (l ∷ loops) few may all =
    leads_to (λ front d r. subst (λ (ls : List Loop). Rowed s named count ls d) (append_assoc done (l ∷ []) loops) r)
    (behind (row_leads s named count done l (omega arith) may.0 (λ p e. all p (or_left (names_from_row p l) (list_any (names_from_row p) loops) e)))
    (rows_lead s named count (done ++ l ∷ []) loops (omega (arith, length-append done (l ∷ []))) may.1
    (λ p e. all p (or_right (names_from_row p l) (list_any (names_from_row p) loops) e))))

-- no rows yet
pub no_rows : (s d : Said) (named : ℕ → Bool) (count : ℕ) → s.rows ≡ [] → d ≡ s → Rowed s named count [] d
no_rows s d named count none is = record {
  is = is ∙ ap (λ rs. record s { rows = rs }) (ap (λ (e : Said). e.rows) (sym is));
  long = ap length (ap (λ (e : Said). e.rows) is ∙ none);
  placed = λ labels are. ap (each_read (loop_placed labels)) (ap (λ (e : Said). e.rows) is ∙ none);
}
