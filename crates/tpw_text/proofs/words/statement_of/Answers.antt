use Rattle.std.proofs.Common.{◌≡◌, List, ℕ, map, ap, ◌∙◌}
use Rattle.tpw_text.specs.Words.{token, words_of_line, before_comment, behind_label, statement_text}
use Rattle.tpw_text.proofs.Trimmed.{statement_is, is_statement, is_line}
use Rattle.tpw_text.proofs.words.statement_of.Goals as goal

pub returns-in-Ok : goal.returns-in-Ok
returns-in-Ok c =
    let line : List ℕ = c.args.line.now in
    let words : map token c.deref.result.now ≡ words_of_line 1 line =
    ap (map token) c.deref.ensures.value ∙ c.in_ok-words.ensures ∙ ap (words_of_line 1) c.as_bytes.ensures.value in
    let front : c.behind_label-statement.result.now ≡ behind_label (words_of_line 1 line) (before_comment line) =
    c.behind_label-statement.ensures ∙ ap (λ ws. behind_label ws c.before_comment.result.now) words
    ∙ ap (behind_label (words_of_line 1 line)) (c.before_comment.ensures ∙ ap before_comment c.as_bytes-2.ensures.value) in
    let is : c.trim_ascii.result.now ≡ statement_text line = statement_is line c.behind_label-statement.result.now c.trim_ascii.result.now front c.trim_ascii.ensures.value in
    c.in-Ok.ensures.cases.0 ∙ is_statement line c.trim_ascii.result.now is c.in-Ok.ensures.cases.1

pub returns : goal.returns
returns c =
    let line : List ℕ = c.args.line.now in
    let words : map token c.deref.result.now ≡ words_of_line 1 line =
    ap (map token) c.deref.ensures.value ∙ c.in_ok-words.ensures ∙ ap (words_of_line 1) c.as_bytes.ensures.value in
    let front : c.behind_label-statement.result.now ≡ behind_label (words_of_line 1 line) (before_comment line) =
    c.behind_label-statement.ensures ∙ ap (λ ws. behind_label ws c.before_comment.result.now) words
    ∙ ap (behind_label (words_of_line 1 line)) (c.before_comment.ensures ∙ ap before_comment c.as_bytes-2.ensures.value) in
    is_line line c.trim_ascii.result.now (statement_is line c.behind_label-statement.result.now c.trim_ascii.result.now front c.trim_ascii.ensures.value) c.in-Err.ensures.cases.0
