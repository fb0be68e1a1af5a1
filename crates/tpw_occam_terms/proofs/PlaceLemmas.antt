use Rattle.std.proofs.Common.{◌≡◌, ◌≢◌, ℕ, zero, suc, ◌+◌, ◌-◌, ◌<◌, ◌≤◌, List, length, take, get_or, ap, ◌∙◌, sym, subst, ⊎_elim, arith, refl}
use Rattle.std.proofs.lemmas.Bool.{cases_eq}
use Rattle.std.proofs.lemmas.List.Sums.{fold_more}
use Rattle.tpw_occam_terms.specs.Places.{line_after, column_after, line_behind, column_behind, IsReached}

-- one byte further
pub reached_more : (text : List ℕ) (i line column : ℕ) → i < length text → IsReached text i line column
    → IsReached text (i + 1) (line_behind line (get_or text i 0)) (column_behind column (get_or text i 0))
reached_more text i line column in_range r = record {
  in_text = omega arith;
  at_line = fold_more line_behind 1 text i 0 in_range ∙ ap (λ n. line_behind n (get_or text i 0)) r.at_line;
  at_column = fold_more column_behind 1 text i 0 in_range ∙ ap (λ n. column_behind n (get_or text i 0)) r.at_column;
}

-- the first place of a text
pub reached_none : (text : List ℕ) → IsReached text 0 1 1
reached_none text = record { in_text = omega arith; at_line = refl; at_column = refl }

-- a place in front of another
pub record IsBefore (line column next_line next_column : ℕ) : Type 0 where
  pub lines : line ≤ next_line
  pub columns : line ≡ next_line → column < next_column

before_trans : (a b c d e f : ℕ) → IsBefore a b c d → IsBefore c d e f → IsBefore a b e f
before_trans a b c d e f r s = record {
  lines = let p = r.lines in let q = s.lines in omega arith;
  columns = λ same. let p = r.lines in let q = s.lines in
      let first : a ≡ c = omega arith in let second : c ≡ e = omega arith in
      let x = r.columns first in let y = s.columns second in omega arith;
}

one_behind : (line column byte : ℕ) → IsBefore line column (line_behind line byte) (column_behind column byte)
one_behind line column byte = record { lines = grind arith; columns = grind arith }

-- each byte leads to a place behind
pub before_more : (text : List ℕ) (i n line column next_line next_column : ℕ) → IsReached text i line column
    → IsReached text (i + suc n) next_line next_column → IsBefore line column next_line next_column
before_more text i zero line column next_line next_column r s =
    let inside = s.in_text in
    let more = reached_more text i line column (omega arith) r in
    let same : i + 1 ≡ i + suc zero = omega arith in
    let at_line : line_behind line (get_or text i 0) ≡ next_line = sym more.at_line ∙ ap (λ k. line_after (take k text)) same ∙ s.at_line in
    let at_column : column_behind column (get_or text i 0) ≡ next_column = sym more.at_column ∙ ap (λ k. column_after (take k text)) same ∙ s.at_column in
    let step = one_behind line column (get_or text i 0) in
    subst (λ c. IsBefore line column next_line c) at_column (subst (λ l. IsBefore line column l (column_behind column (get_or text i 0))) at_line step)
before_more text i (suc n) line column next_line next_column r s =
    let inside = s.in_text in
    let more = reached_more text i line column (omega arith) r in
    let same : i + suc (suc n) ≡ i + 1 + suc n = omega arith in
    before_trans line column (line_behind line (get_or text i 0)) (column_behind column (get_or text i 0)) next_line next_column
    (one_behind line column (get_or text i 0))
    (before_more text (i + 1) n (line_behind line (get_or text i 0)) (column_behind column (get_or text i 0)) next_line next_column more
    (subst (λ k. IsReached text k next_line next_column) same s))

pub is_before : (text : List ℕ) (i j line column next_line next_column : ℕ) → IsReached text i line column
    → IsReached text j next_line next_column → i < j → IsBefore line column next_line next_column
is_before text i j line column next_line next_column r s lt =
    let same : j ≡ i + suc (j - i - 1) = omega arith in
    before_more text i (j - i - 1) line column next_line next_column r (subst (λ k. IsReached text k next_line next_column) same s)

-- lines do not fall
lines_more : (text : List ℕ) (i j line column next_line next_column : ℕ) → IsReached text i line column
    → IsReached text j next_line next_column → i ≤ j → line ≤ next_line
lines_more text i j line column next_line next_column r s le = ⊎_elim
    (λ same. let e : line ≡ next_line = sym r.at_line ∙ ap (λ k. line_after (take k text)) same ∙ s.at_line in omega arith)
    (λ other. let b = is_before text i j line column next_line next_column r s (omega arith) in b.lines)
    (cases_eq i j)

-- no line feed stands between two places of one line
pub no_feed : (text : List ℕ) (i j line column next_line next_column : ℕ) → IsReached text i line column
    → IsReached text j next_line next_column → i < j → line ≡ next_line → get_or text i 0 ≢ 10
no_feed text i j line column next_line next_column r s lt same feed =
    let inside = s.in_text in
    let more = reached_more text i line column (omega arith) r in
    let le = lines_more text (i + 1) j (line_behind line (get_or text i 0)) (column_behind column (get_or text i 0)) next_line next_column more s (omega arith) in
    grind arith
