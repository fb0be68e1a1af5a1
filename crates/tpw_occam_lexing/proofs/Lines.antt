-- Lines and their lexemes
use Rattle.std.proofs.Common.{◌≡◌, ◌∙◌, sym, ap, subst, refl, ℕ, zero, suc, ◌+◌, ◌-◌, ◌<◌, ◌≤◌, Bool, true, false, Option, Some, None, List, [], ◌∷◌, ◌++◌, length, drop, take, map, get_or, arith, append_assoc, length-drop}
use Rattle.std.proofs.lemmas.List.{map-append}
use Rattle.std.specs.Prelude.{if◌then◌else◌, ◌==◌, not}
use Rattle.std.specs.Str.{IsUtf8, IsCharBoundary}
use Rattle.std.proofs.lemmas.Str.{IsCharBoundary-after_ascii, IsCharBoundary-before_ascii, IsUtf8-drop}
use Rattle.std.proofs.lemmas.Grind.{common_steps}
use Rattle.std.proofs.lemmas.Bool.Decides.{nat_tests}
use Rattle.tpw_occam_lexing.specs.declared.bytes.Class.TheVariants as class
use Rattle.tpw_occam_lexing.specs.declared.token.Item.{Item}
use Rattle.tpw_occam_lexing.specs.declared.joint.Joint.{Joint}
use Rattle.tpw_occam_lexing.specs.Bytes.{has, run}
use Rattle.tpw_occam_lexing.specs.Lexemes.{Lexeme, Read, lexeme_of, lexeme_at}
use Rattle.tpw_occam_lexing.specs.Lines.{lexemes, is_comment, prepended, followed, text_lines, in_first, each_line, joined, joined_if, lines_of, after, WrittenLine}
use Rattle.tpw_occam_lexing.specs.Reading.{outcome, meant}

-- ---- a line by itself

skipped : (n : ℕ) (bytes : List ℕ) → lexemes n bytes ≡ lexemes 0 (drop n bytes)
skipped zero bytes = refl
skipped (suc n) [] = refl
skipped (suc n) (c ∷ more) = skipped n more

no_space : (c : ℕ) → (c ≡ 32 → ⊥) → (c == 32) ≡ false
no_space c h = grind (arith, nat_tests)

-- a lexeme at the front, and what is behind it
pub at_lexeme : (bytes : List ℕ) (x : Lexeme) (n : ℕ) → 0 < length bytes → is_comment bytes ≡ false → (get_or bytes 0 0 ≡ 32 → ⊥) → 0 < n
    → lexeme_at bytes ≡ Some (x, n) → lexemes 0 bytes ≡ prepended (x ∷ []) (lexemes 0 (drop n bytes))
at_lexeme [] x n some no_comment other wide is = absurd (omega arith)
at_lexeme (c ∷ more) x zero some no_comment other wide is = absurd (omega arith)
at_lexeme (c ∷ more) x (suc n) some no_comment other wide is =
    rw (no_comment, no_space c other, is) (ap (λ l. prepended (x ∷ []) l) (skipped n more))

pub prepended_twice : (a b : List Lexeme) (more : Option (List Lexeme)) → prepended a (prepended b more) ≡ prepended (a ++ b) more
prepended_twice a b None = refl
prepended_twice a b (Some more) = ap Some (sym (append_assoc a b more))

-- one more token
pub one_more_item : (whole : Option (List Lexeme)) (items more : List Item) (item : Item) (rest next : Option (List Lexeme))
    → whole ≡ prepended (map (λ (i : Item). lexeme_of i.token) items) rest → rest ≡ prepended (lexeme_of item.token ∷ []) next
    → more ≡ items ++ item ∷ [] → whole ≡ prepended (map (λ (i : Item). lexeme_of i.token) more) next
one_more_item whole items more item rest next e front is =
    let f : Item → Lexeme = λ (i : Item). lexeme_of i.token in
    let appended : map f more ≡ map f items ++ lexeme_of item.token ∷ [] = ap (map f) is ∙ map-append f items (item ∷ []) in
    e ∙ ap (prepended (map f items)) front ∙ prepended_twice (map f items) (lexeme_of item.token ∷ []) next
    ∙ ap (λ (l : List Lexeme). prepended l next) (sym appended)

pub same_items : (whole : Option (List Lexeme)) (items more : List Item) (rest next : Option (List Lexeme))
    → whole ≡ prepended (map (λ (i : Item). lexeme_of i.token) items) rest → rest ≡ next → more ≡ items
    → whole ≡ prepended (map (λ (i : Item). lexeme_of i.token) more) next
same_items whole items more rest next e front is =
    let f : Item → Lexeme = λ (i : Item). lexeme_of i.token in
    e ∙ ap (prepended (map f items)) front ∙ ap (λ (l : List Item). prepended (map f l) next) (sym is)

-- ---- lines by themselves

case_zero : (t : Bool) (r : ℕ) → (if not t then 1 + r else 0) ≡ 0 → t ≡ true
case_zero true r e = refl
case_zero false r e = absurd (omega arith)

case_suc : (t : Bool) (r n : ℕ) → (if not t then 1 + r else 0) ≡ suc n → (t ≡ false) × (r ≡ n)
case_suc true r n e = absurd (omega arith)
case_suc false r n e = (refl, omega arith)

is_feed : (c : ℕ) → (c == 10) ≡ true → c ≡ 10
is_feed c h = grind (arith, nat_tests)

-- all of a text is one line
pub one_line : (bytes : List ℕ) → run class.Line bytes ≡ length bytes → text_lines bytes ≡ bytes ∷ []
unfolding has
one_line [] e = refl
one_line (c ∷ more) e =
    let case = case_suc (c == 10) (run class.Line more) (length more) e in
    rw (case.0, one_line more case.1) refl

-- a text up to its first line feed, and behind it
pub first_part : (bytes : List ℕ) (n : ℕ) → run class.Line bytes ≡ n → n < length bytes
    → (text_lines bytes ≡ take n bytes ∷ text_lines (drop (suc n) bytes)) × (get_or bytes n 0 ≡ 10)
unfolding has
first_part [] n e h = absurd (omega arith)
first_part (c ∷ more) zero e h =
    let case = case_zero (c == 10) (run class.Line more) e in (rw case refl, is_feed c case)
first_part (c ∷ more) (suc n) e h =
    let case = case_suc (c == 10) (run class.Line more) n e in
    let behind = first_part more n case.1 (omega arith) in
    (rw (case.0, behind.0) refl, behind.1)

-- a text may be cut in front of a line feed and behind it
pub feed_cut : (bytes : List ℕ) (n : ℕ) → IsUtf8 bytes → n < length bytes → get_or bytes n 0 ≡ 10
    → IsCharBoundary bytes n × IsCharBoundary (drop n bytes) 1
feed_cut bytes n utf8 h feed =
    let front = IsCharBoundary-before_ascii bytes n h (omega arith) in
    let rest = IsUtf8-drop bytes n utf8 front in
    let there : get_or (drop n bytes) 0 0 ≡ get_or bytes n 0 = grind (arith, common_steps) in
    let some : 0 < length (drop n bytes) = omega (arith, length-drop n bytes) in
    let same : 0 + 1 ≡ 1 = omega arith in
    (front, subst (λ k. IsCharBoundary (drop n bytes) k) same (IsCharBoundary-after_ascii (drop n bytes) 0 rest some (omega (arith, there))))

-- ---- joined lines

after_none : (lines : Option (List WrittenLine)) → lines ≡ after [] lines
after_none None = refl
after_none (Some lines) = refl

begun_as : (lines : Option (List WrittenLine)) → joined_if lines ≡ outcome true [] None lines
begun_as None = refl
begun_as (Some lines) = after_none (joined lines)

pub begun : (joint : Joint) (text : List ℕ) → joint.done.items ≡ [] → joint.pending ≡ None → joint.is_clean ≡ true
    → lines_of text ≡ meant joint (each_line (text_lines text))
unfolding lines_of meant
begun joint text none no_more clean = rw (none, no_more, clean) (begun_as (each_line (text_lines text)))
