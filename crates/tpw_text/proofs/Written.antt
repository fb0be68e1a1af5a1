-- A program as text: its marks, its lines, and the parts of an instruction.
use Rattle.std.proofs.Common.{◌≡◌, ℕ, suc, ◌+◌, ◌-◌, ◌<◌, ◌≤◌, ◌==◌, ◌&&◌, ◌||◌, not, cond, eqb, Bool, true, false}
use Rattle.std.proofs.Common.{if◌then◌else◌, List, [], ◌∷◌, ◌++◌, length, take, drop, get_or, set, replicate, codes}
use Rattle.std.proofs.Common.{Option, Some, Result, Ok, Err, OnOk, refl, ap, subst, sym, ◌∙◌, add-one, append_assoc}
use Rattle.std.proofs.Common.{get_or-set_other, get_or-set_same, drop-cons, arith, length-append}
use Rattle.std.specs.Fmt.{AppendsText, ◌++?◌}
use Rattle.std.specs.Result.{is_ok}
use Rattle.std.specs.List.{list_all, list_any, position_or_len, before_first, after_first}
use Rattle.std.proofs.lemmas.List.{append-nil, drop_all, take_all, get_or-replicate, length-replicate}
use Rattle.std.proofs.lemmas.List.Folds.{list_any_more}
use Rattle.std.proofs.lemmas.Bool.Decides.{nat_tests}
use Rattle.tp_decode.specs.declared.instr.Instr.{Instr}
use Rattle.tp_decode.specs.declared.instr.Instr.TheVariants.{Jump, Ldlp, Ldnl, Ldc, Ldnlp, Ldl, Adc, Cj, Ajw, Eqc, Stl}
use Rattle.tp_decode.specs.declared.instr.Instr.TheVariants.{Stnl, Rev, Lb, Bsub, Diff, Add, Input, Prod, Gt, Wsub}
use Rattle.tp_decode.specs.declared.instr.Instr.TheVariants.{Output, Sub, Seterr, Csub0, Stopp, Rem, Lend, Div, BitNot}
use Rattle.tp_decode.specs.declared.instr.Instr.TheVariants.{BitXor, Sb, Shr, Shl, Mint, BitAnd, MoveBytes, BitOr, Sum}
use Rattle.tp_decode.specs.declared.instr.Instr.TheVariants.{Mul}
use Rattle.tp_decode.specs.Table.{entry}
use Rattle.tp_decode.specs.Lines.{instruction_text}
use Rattle.tpw_asm.specs.declared.program.Line.{Line}
use Rattle.tpw_text.specs.declared.remarks.Remarks.{Remarks}
use Rattle.tpw_text.specs.Written.{IsMarked, AreMarks, as_line, line_text, label_there, behind, lines_text, operand_text}

-- a text that has bytes has those that equal them
pub written_on : {S E : Type 0} (r : Result S E) (new x y : List ℕ) → OnOk r (new ≡ x) → x ≡ y → OnOk r (new ≡ y)
written_on (Ok s) new x y h e = h ∙ e
written_on (Err f) new x y h e = tt

-- a text that was appended
pub appended_on : {S E : Type 0} (r : Result S E) (new x y z : List ℕ) → new ≡ (if is_ok r then x else y) → x ≡ z → OnOk r (new ≡ z)
appended_on (Ok s) new x y z h e = h ∙ e
appended_on (Err f) new x y z h e = tt

or_assoc : (x t u : Bool) → ((x || t) || u) ≡ (x || (t || u))
or_assoc true t u = refl
or_assoc false t u = refl

or_false : (x : Bool) → x ≡ (x || false)
or_false true = refl
or_false false = refl

or_true : (x : Bool) → true ≡ (x || true)
or_true true = refl
or_true false = refl

-- one test after another
pub marked_both : (t u : ℕ → Bool) (a b c : List Bool) → length a ≡ length b → IsMarked t a b → IsMarked u b c → IsMarked (λ k. t k || u k) a c
marked_both t u a b c same first second =
    λ k within. second k (omega arith) ∙ ap (λ x. x || u k) (first k within) ∙ or_assoc (get_or a k false) (t k) (u k)

-- one place
pub marked_at : (marks : List Bool) (place : ℕ) → place < length marks → IsMarked (λ k. place == k) marks (set marks place true)
marked_at marks place within = λ k _. by_test marks place k (place == k) refl within
  where
    by_test : (marks : List Bool) (place k : ℕ) (b : Bool) → (place == k) ≡ b → place < length marks → get_or (set marks place true) k false ≡ (get_or marks k false || b)
    by_test marks place k true e within =
        let same : place ≡ k = grind (arith, nat_tests) in
        ap (λ i. get_or (set marks place true) i false) (sym same) ∙ get_or-set_same marks place true false within ∙ or_true (get_or marks k false)
    by_test marks place k false e within = get_or-set_other marks place k true false (grind (arith, nat_tests)) ∙ or_false (get_or marks k false)

-- a place that is not there
pub marked_none : (marks : List Bool) (place : ℕ) → length marks ≤ place → IsMarked (λ k. place == k) marks marks
marked_none marks place past = λ k within.
    let other : (place == k) ≡ false = grind (arith, nat_tests) in
    or_false (get_or marks k false) ∙ ap (λ b. get_or marks k false || b) (sym other)

pub marked_nothing : (marks : List Bool) → IsMarked (λ k. false) marks marks
marked_nothing marks = λ k within. or_false (get_or marks k false)

-- a test that agrees
pub marked_as : (t u : ℕ → Bool) (a b : List Bool) → ((k : ℕ) → t k ≡ u k) → IsMarked t a b → IsMarked u a b
marked_as t u a b same marked = λ k within. marked k within ∙ ap (λ x. get_or a k false || x) (same k)

-- the marks of this many places and no more, where nothing is marked before
pub marks_are : (test : ℕ → Bool) (before after all : List Bool) (lines : ℕ) → before ≡ replicate (lines + 1) false →
    length after ≡ length before → all ≡ after → IsMarked test before after → AreMarks test all lines
marks_are test before after all lines none same is marked = λ k within.
    let inside : k < length before = omega (arith, ap length none, length-replicate {A = Bool} (lines + 1) false) in
    ap (λ l. get_or l k false) is ∙ marked k inside
    ∙ ap (λ x. x || test k) (ap (λ l. get_or l k false) none ∙ get_or-replicate (lines + 1) k false false (omega arith))

-- a list that was changed in its place
pub in_place : (n : ℕ) (xs ys : List Bool) → length xs ≡ length ys → n ≡ length ys → take n (xs ++ drop (length xs) ys) ≡ xs
in_place n xs ys same long =
    ap (λ zs. take n (xs ++ zs)) (drop_all (length xs) ys (omega arith)) ∙ ap (take n) (append-nil xs) ∙ take_all n xs (omega arith)

-- all of a list
pub marked_all : {A : Type 0} (test : ℕ → A → Bool) (xs : List A) (i : ℕ) (a b : List Bool) → length xs ≤ i →
    IsMarked (λ k. list_any (test k) (take i xs)) a b → IsMarked (λ k. list_any (test k) xs) a b
marked_all test xs i a b past = marked_as (λ k. list_any (test k) (take i xs)) (λ k. list_any (test k) xs) a b (λ k. ap (list_any (test k)) (take_all i xs past))

-- one more of a list
pub marked_more : {A : Type 0} (test : ℕ → A → Bool) (xs : List A) (i : ℕ) (d : A) (a b c : List Bool) → i < length xs →
    length a ≡ length b → IsMarked (λ k. list_any (test k) (take i xs)) a b → IsMarked (λ k. test k (get_or xs i d)) b c →
    IsMarked (λ k. list_any (test k) (take (i + 1) xs)) a c
marked_more test xs i d a b c within same first second =
    λ k inside. marked_both (λ n. list_any (test n) (take i xs)) (λ n. test n (get_or xs i d)) a b c same first second k inside
    ∙ ap (λ x. get_or a k false || x) (sym (list_any_more (test k) xs i d within))

-- lines under tests that agree
pub lines_same : (t u : ℕ → Bool) (remarks : Option Remarks) (n : ℕ) (lines : List Line) →
    ((k : ℕ) → n ≤ k → k ≤ n + length lines → t k ≡ u k) → lines_text t remarks n lines ≡ lines_text u remarks n lines
lines_same t u remarks n [] same = ap (λ b. label_there b n) (same n (omega arith) (omega arith))
lines_same t u remarks n (line ∷ lines) same =
    ap (λ b. label_there b n ++ as_line (line_text line ++ behind remarks n) ++ lines_text t remarks (n + 1) lines) (same n (omega arith) (omega arith))
    ∙ ap (λ rest. label_there (u n) n ++ as_line (line_text line ++ behind remarks n) ++ rest) (lines_same t u remarks (n + 1) lines (λ k low high. same k (omega arith) (omega arith)))

-- lines from one on
pub lines_more : (t : ℕ → Bool) (remarks : Option Remarks) (n : ℕ) (lines : List Line) (i : ℕ) (d : Line) →
    i < length lines → lines_text t remarks n (drop i lines) ≡ label_there (t n) n ++
    as_line (line_text (get_or lines i d) ++ behind remarks n) ++ lines_text t remarks (n + 1) (drop (i + 1) lines)
lines_more t remarks n lines i d within =
    ap (lines_text t remarks n) (drop-cons lines i d within)
    ∙ ap (λ k. label_there (t n) n ++ as_line (line_text (get_or lines i d) ++ behind remarks n) ++ lines_text t remarks (n + 1) (drop k lines)) (sym (add-one i))

-- behind the last line
pub lines_end : (t : ℕ → Bool) (remarks : Option Remarks) (n : ℕ) (lines : List Line) → n ≡ length lines → label_there (t (length lines)) (length lines) ≡ lines_text t remarks n (drop n lines)
lines_end t remarks n lines end =
    ap (λ k. label_there (t k) k) (sym end) ∙ ap (lines_text t remarks n) (sym (drop_all n lines (omega arith)))

-- a line of a text that goes on
pub line_more : (old label line note rest all : List ℕ) {a b c : List ℕ} → a ≡ old ++ label → b ≡ a ++ line → c ≡ b ++
    as_line note → old ++ (label ++ as_line (line ++ note) ++ rest) ≡ all → c ++ rest ≡ all
line_more old label line note rest all at_a at_b at_c whole =
    ap (λ l. l ++ rest) (at_c ∙ ap (λ l. l ++ as_line note) (at_b ∙ ap (λ l. l ++ line) at_a)) ∙ (simp append_assoc) ∙ whole

-- a name has no space
abbrev is_space : ℕ → Bool
is_space b = eqb b 32

name_plain : (i : Instr) → list_all (λ b. not (is_space b)) (entry i).name ≡ true
name_plain (Jump n) = refl
name_plain (Ldlp n) = refl
name_plain (Ldnl n) = refl
name_plain (Ldc n) = refl
name_plain (Ldnlp n) = refl
name_plain (Ldl n) = refl
name_plain (Adc n) = refl
name_plain (Cj n) = refl
name_plain (Ajw n) = refl
name_plain (Eqc n) = refl
name_plain (Stl n) = refl
name_plain (Stnl n) = refl
name_plain Rev = refl
name_plain Lb = refl
name_plain Bsub = refl
name_plain Diff = refl
name_plain Add = refl
name_plain Input = refl
name_plain Prod = refl
name_plain Gt = refl
name_plain Wsub = refl
name_plain Output = refl
name_plain Sub = refl
name_plain Seterr = refl
name_plain Csub0 = refl
name_plain Stopp = refl
name_plain Rem = refl
name_plain Lend = refl
name_plain Div = refl
name_plain BitNot = refl
name_plain BitXor = refl
name_plain Sb = refl
name_plain Shr = refl
name_plain Shl = refl
name_plain Mint = refl
name_plain BitAnd = refl
name_plain MoveBytes = refl
name_plain BitOr = refl
name_plain Sum = refl
name_plain Mul = refl

one_more : (b c : Bool) (n m : ℕ) → (b && c) ≡ true → (c ≡ true → n ≡ m) → cond b (1 + n) 0 ≡ suc m
one_more true c n m e more = let same : n ≡ m = more e in omega arith
one_more false c n m e more = absurd (cc)

-- the first space of a text stands behind its name
space_behind : (name rest : List ℕ) → list_all (λ b. not (is_space b)) name ≡ true → position_or_len is_space (name ++ 32 ∷ rest) ≡ length name
space_behind [] rest plain = refl
space_behind (b ∷ name) rest plain = one_more (not (is_space b)) _ _ _ plain (λ e. space_behind name rest e)

space_nowhere : (name : List ℕ) → list_all (λ b. not (is_space b)) name ≡ true → position_or_len is_space name ≡ length name
space_nowhere [] plain = refl
space_nowhere (b ∷ name) plain = one_more (not (is_space b)) _ _ _ plain (λ e. space_nowhere name e)

take_front : (xs ys : List ℕ) → take (length xs) (xs ++ ys) ≡ xs
take_front [] ys = refl
take_front (x ∷ xs) ys = ap (λ zs. x ∷ zs) (take_front xs ys)

drop_front : (xs : List ℕ) (y : ℕ) (ys : List ℕ) → drop (suc (length xs)) (xs ++ y ∷ ys) ≡ ys
drop_front [] y ys = refl
drop_front (x ∷ xs) y ys = drop_front xs y ys

-- a name with an operand or alone, as it is shown and where there is no space in it
alone : (b : Bool) (name operand shown : List ℕ) → list_all (λ c. not (is_space c)) name ≡ true →
    shown ≡ (if b then name else name ++ codes " " ++ operand) → position_or_len is_space shown ≡ length shown →
    (shown ≡ name) × ((if b then [] else codes " " ++ operand) ≡ [])
alone true name operand shown plain is none = (is, refl)
alone false name operand shown plain is none =
    let whole : shown ≡ name ++ 32 ∷ operand = is ∙ append_assoc name (codes " ") operand in
    let at : position_or_len is_space shown ≡ length name = ap (position_or_len is_space) whole ∙ space_behind name operand plain in
    absurd (omega (arith, ap length whole, length-append name (32 ∷ operand)))

parted : (b : Bool) (name operand shown : List ℕ) → list_all (λ c. not (is_space c)) name ≡ true →
    shown ≡ (if b then name else name ++ codes " " ++ operand) → position_or_len is_space shown < length shown →
    (before_first is_space shown ≡ name) × ((if b then [] else codes " " ++ operand) ≡ codes " " ++
    after_first is_space shown)
parted true name operand shown plain is there =
    let at : position_or_len is_space shown ≡ length name = ap (position_or_len is_space) is ∙ space_nowhere name plain in
    absurd (omega (arith, ap length is))
parted false name operand shown plain is there =
    let whole : shown ≡ name ++ 32 ∷ operand = is ∙ append_assoc name (codes " ") operand in
    let at : position_or_len is_space shown ≡ length name = ap (position_or_len is_space) whole ∙ space_behind name operand plain in (
      ap (λ n. take n shown) at ∙ ap (take (length name)) whole ∙ take_front name (32 ∷ operand),
      ap (λ o. codes " " ++ o) (sym (ap (λ n. drop (n + 1) shown) at ∙ ap (λ k. drop k shown) (add-one (length name)) ∙ ap (drop (suc (length name))) whole ∙ drop_front name 32 operand)),
    )

-- the name and the operand of an instruction, as it is shown
pub instr_alone : (i : Instr) (shown : List ℕ) → shown ≡ instruction_text i → position_or_len (λ b. eqb b 32) shown ≡ length shown → (shown ≡ (entry i).name) × (operand_text i ≡ [])
unfolding operand_text
instr_alone i shown is none = alone _ (entry i).name _ shown (name_plain i) is none

pub instr_parted : (i : Instr) (shown : List ℕ) → shown ≡ instruction_text i →
    position_or_len (λ b. eqb b 32) shown < length shown → (before_first (λ b. eqb b 32) shown ≡ (entry i).name) ×
    (operand_text i ≡ codes " " ++ after_first (λ b. eqb b 32) shown)
unfolding operand_text
instr_parted i shown is there = parted _ (entry i).name _ shown (name_plain i) is there

-- a name, how many bytes are stated, and an operand or none
pub parted_written : (old stated name name' operand operand' shown : List ℕ) {a : List ℕ} →
    a ≡ ((old ++ name') ++ stated) ++ codes " " → name' ≡ name → operand' ≡ operand → shown ≡ codes " " ++ operand → a ++
    operand' ≡ old ++ (name ++ stated ++ shown)
parted_written old stated name name' operand operand' shown at same same' is =
    ap (λ t. t ++ operand') at ∙ ap (λ n. (((old ++ n) ++ stated) ++ codes " ") ++ operand') same ∙ ap (λ o. (((old ++ name) ++ stated) ++ codes " ") ++ o) same'
    ∙ (simp append_assoc) ∙ ap (λ o. old ++ (name ++ stated ++ o)) (sym is)

pub alone_written : (old stated name name' shown : List ℕ) {a : List ℕ} → a ≡ old ++ name' → name' ≡ name → shown ≡ [] → a ++ stated ≡ old ++ (name ++ stated ++ shown)
alone_written old stated name name' shown at same is =
    ap (λ t. t ++ stated) (at ∙ ap (λ n. old ++ n) same) ∙ append_assoc old name stated ∙ ap (λ t. old ++ t) (sym (append-nil (name ++ stated)) ∙ ap (λ o. name ++ stated ++ o) (sym is))

-- a part of a text that is as_line by options
pub part_written : {S E : Type 0} (r : Result S E) (old new front part : List ℕ) (o : Option (List ℕ)) → o ≡ Some part →
    OnOk r (AppendsText old new (Some front ++? o)) → OnOk r (new ≡ old ++ (front ++ part))
part_written r old new front part o is wrote = subst (λ (x : Option (List ℕ)). OnOk r (AppendsText old new (Some front ++? x))) is wrote

-- a row, part by part
pub row_written : (old head lend control count start : List ℕ) →
    ((old ++ codes "loop head " ++ head ++ codes " lend " ++ lend) ++
    (codes " control " ++ (control ++ (codes " turns " ++ (count ++ codes " start "))))) ++ start ++ codes "\n" ≡ old ++
    as_line (codes "loop head " ++ head ++ codes " lend " ++ lend ++ codes " control " ++ control ++ codes " turns " ++
    count ++ codes " start " ++ start)
row_written old head lend control count start = simp append_assoc

-- this many marks that are not set
pub fresh_marks : (n lines len : ℕ) (none : List Bool) → none ≡ [] → len ≡ 0 → n ≡ lines → take (n + 1) none ++ replicate ((n + 1) - len) false ≡ replicate (lines + 1) false
fresh_marks n lines len none nothing empty same =
    let count : (n + 1) - len ≡ lines + 1 = omega arith in
    ap (λ l. take (n + 1) l ++ replicate ((n + 1) - len) false) nothing
    ∙ ap (λ l. l ++ replicate ((n + 1) - len) false) (take_all (n + 1) [] (omega arith))
    ∙ ap (λ k. replicate k false) count
