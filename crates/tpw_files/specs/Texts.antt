-- Bytes as hexadecimal text, with line ends between its digits and white space around it.
use Rattle.std.specs.Prelude.{◌≡◌, ◌<◌, ◌+◌, ◌-◌, ◌%◌, ◌==◌, ◌||◌, ℕ, Bool, List, length, take, drop, Ok, ⊤}
use Rattle.std.specs.List.{filter, prefix_len, suffix_len}
use Rattle.std.specs.Char.{is_ascii_hexdigit, is_ascii_whitespace}
use Rattle.hex.specs.Hex.{decode_of}
use Rattle.tpw_files.specs.declared.input.TextFault.{TextFault}
use Rattle.tpw_files.specs.declared.input.TextFault.TheVariants.{NotADigit, HalfAByte, Memory}

-- a line feed or a carriage return
abbrev pub is_line_end : ℕ → Bool
is_line_end b = (b == 10) || (b == 13)

-- what a text may have between the white space at its ends
abbrev pub is_digit_or_line_end : ℕ → Bool
is_digit_or_line_end b = is_ascii_hexdigit b || is_line_end b

-- how many bytes of white space a text begins with
abbrev pub leading : List ℕ → ℕ
leading text = prefix_len is_ascii_whitespace text

-- a text without the white space at its end
abbrev pub without_trailing : List ℕ → List ℕ
without_trailing text = take (length text - suffix_len is_ascii_whitespace text) text

-- a text without the white space at its ends
abbrev pub inner : List ℕ → List ℕ
inner text = without_trailing (drop (leading text) text)

-- how many bytes a text has between the white space at its ends before the first that is not allowed there
abbrev pub sound : List ℕ → ℕ
sound text = prefix_len is_digit_or_line_end (inner text)

abbrev pub digits_of : List ℕ → List ℕ
digits_of text = filter is_ascii_hexdigit (inner text)

-- a text says bytes, two digits each
pub record Says (text bytes : List ℕ) : Type 0 where
  pub each : sound text ≡ length (inner text)
  pub decoded : decode_of (digits_of text) ≡ Ok bytes

-- A text's first fault, by its column: a byte that is not allowed there, else the place behind an odd number of digits.
abbrev pub IsFault : List ℕ → TextFault → Type 0
IsFault text (NotADigit column) = (sound text < length (inner text)) × (column ≡ leading text + sound text + 1)
IsFault text (HalfAByte column) = (sound text ≡ length (inner text)) × (length (digits_of text) % 2 ≡ 1)
    × (column ≡ leading text + length (inner text) + 1)
IsFault text Memory = ⊤
