-- What is left of a text between the white space at its ends, and its first fault there.
use Rattle.std.proofs.Common.{◌≡◌, ◌∙◌, ◌<◌, ◌+◌, ◌-◌, ◌%◌, ◌⊎◌, ℕ, List, Result, Ok, Err, IfErr, length, length-drop, ap, refl, sym, subst, inl, inr, arith}
use Rattle.std.specs.Char.{is_ascii_hexdigit, is_ascii_whitespace}
use Rattle.std.specs.List.{filter, prefix_len}
use Rattle.std.specs.Result.{IsErrAnd}
use Rattle.std.specs.Str.{IsTrimAsciiStart, IsTrimAsciiEnd}
use Rattle.std.proofs.lemmas.List.Sums.{prefix_len-le-length}
use Rattle.std.proofs.lemmas.Str.Ascii.{trim_ascii_start_is, trim_ascii_end_is}
use Rattle.hex.specs.Hex.{decode_of}
use Rattle.tpw_files.specs.declared.input.TextFault.{TextFault}
use Rattle.tpw_files.specs.declared.input.TextFault.TheVariants.{NotADigit, HalfAByte, Memory}
use Rattle.tpw_files.specs.Texts.{IsFault, Says, inner, leading, is_digit_or_line_end, without_trailing}

-- what the two trims leave, and how much the first has taken
pub between : (text rest middle : List ℕ) → IsTrimAsciiStart text rest → IsTrimAsciiEnd rest middle → middle ≡ inner text
between text rest middle start end = trim_ascii_end_is rest middle end ∙ ap without_trailing (trim_ascii_start_is text rest start)

pub before : (text rest : List ℕ) → IsTrimAsciiStart text rest → length text - length rest ≡ leading text
before text rest start =
    let long : length rest ≡ length text - leading text = ap length (trim_ascii_start_is text rest start) ∙ length-drop (leading text) text in
    omega (arith, long, prefix_len-le-length is_ascii_whitespace text)

pub not_a_digit : (text middle : List ℕ) (begins : ℕ) (e : TextFault) → middle ≡ inner text → begins ≡ leading text
    → (e ≡ Memory) ⊎ ((prefix_len is_digit_or_line_end middle < length middle) × (e ≡ NotADigit (begins + prefix_len is_digit_or_line_end middle + 1))) → IsFault text e
not_a_digit text middle begins e same behind (inl memory) = rw memory tt
not_a_digit text middle begins e same behind (inr h) = rw (h.1, behind) (rw same at h.0, rw same refl)

-- what is answered where an error is handed on
pub handed_on : {A : Type 0} (text : List ℕ) (r : Result A TextFault) (e : TextFault) → IsErrAnd r (λ x. x ≡ e) → IsFault text e → IfErr r (IsFault text)
handed_on text (Ok bytes) e is fault = tt
handed_on text (Err x) e is fault = subst (IsFault text) (sym is) fault

pub half_a_byte : (text middle digits : List ℕ) (begins : ℕ) → middle ≡ inner text → begins ≡ leading text
    → (prefix_len is_digit_or_line_end middle ≡ length middle) × (digits ≡ filter is_ascii_hexdigit middle) → length digits % 2 ≡ 1
    → IsFault text (HalfAByte (begins + length middle + 1))
half_a_byte text middle digits begins same behind h odd =
    (rw same at h.0, rw (h.1, same) at odd, rw (behind, same) refl)

pub says : (text middle digits bytes : List ℕ) → middle ≡ inner text
    → (prefix_len is_digit_or_line_end middle ≡ length middle) × (digits ≡ filter is_ascii_hexdigit middle) → decode_of digits ≡ Ok bytes → Says text bytes
says text middle digits bytes same h is = record { each = rw same at h.0; decoded = rw (h.1, same) at is }
