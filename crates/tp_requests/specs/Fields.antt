-- What may stand in a field.
use Rattle.std.specs.Prelude.{ℕ, nat_eq, Bool, List, [], ◌∷◌, Option, Some, None, Result, Ok, Err}
use Rattle.std.specs.Cmp.Lexicographic.{pointwise}
use Rattle.hex.specs.Hex.{decode_of}

-- a field is this text
abbrev pub is_text : List ℕ → List ℕ → Bool
is_text field text = pointwise nat_eq field text

abbrev pub bytes_if_ok : {E : Type 0} → Result (List ℕ) E → Option (List ℕ)
bytes_if_ok (Ok bytes) = Some bytes
bytes_if_ok (Err e) = None

-- the bytes of two or more hexadecimal digits of either case, an even number
abbrev pub hex_bytes : List ℕ → Option (List ℕ)
hex_bytes [] = None
hex_bytes (digit ∷ digits) = bytes_if_ok (decode_of (digit ∷ digits))
