-- The statement of a line, as it is handed out.
use Rattle.std.proofs.Common.{◌≡◌, ℕ, Bool, true, false, if◌then◌else◌, List, IsUtf8, refl, ap, sym, ◌∙◌}
use Rattle.std.specs.Str.{is_utf8, IsTrimAscii}
use Rattle.std.proofs.lemmas.Str.{IsUtf8-from_is_utf8, is_utf8-from_IsUtf8}
use Rattle.std.proofs.lemmas.Str.Ascii.{trim_ascii_is}
use Rattle.tpw_text.specs.Words.{words_of_line, before_comment, behind_label, without_leading, without_trailing, statement_text, statement_or_line}

pub statement_is : (line front trimmed : List ℕ) → front ≡ behind_label (words_of_line 1 line) (before_comment line) → IsTrimAscii front trimmed → trimmed ≡ statement_text line
unfolding statement_text
statement_is line front trimmed is trims =
    trim_ascii_is front trimmed (without_leading front) refl trims ∙ ap (λ bytes. without_trailing (without_leading bytes)) is

pub is_statement : (line trimmed : List ℕ) → trimmed ≡ statement_text line → IsUtf8 trimmed → trimmed ≡ statement_or_line line
unfolding statement_or_line
is_statement line trimmed is text =
    let same : is_utf8 (statement_text line) ≡ true = ap is_utf8 (sym is) ∙ is_utf8-from_IsUtf8 trimmed text in
    is ∙ sym (ap (λ t. if t then statement_text line else line) same)

pub is_line : (line trimmed : List ℕ) → trimmed ≡ statement_text line → ¬ (IsUtf8 trimmed) → line ≡ statement_or_line line
unfolding statement_or_line
is_line line trimmed is other = by (is_utf8 (statement_text line)) (ap is_utf8 is)
  where
    by : (t : Bool) → is_utf8 trimmed ≡ t → line ≡ (if t then statement_text line else line)
    by true text = absurd (other (IsUtf8-from_is_utf8 trimmed text))
    by false text = refl
