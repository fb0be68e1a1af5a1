-- Messages as text, by the fields of a line.
use Rattle.std.specs.Prelude.{◌≡◌, ℕ, ◌*◌, ◌==◌, Bool, true, false, if◌then◌else◌, List, [], ◌∷◌, ◌++◌, length, codes}
use Rattle.std.specs.Prelude.{Option, Some, None, ℤ, pos, nat_lt, not, ◌&&◌}
use Rattle.std.specs.Char.{is_ascii_whitespace}
use Rattle.std.specs.Str.{bytes_eq}
use Rattle.std.specs.Str.Lines.{lines}
use Rattle.std.specs.Int.{w32, cast_unsigned, to_le_bytes}
use Rattle.std.specs.Option.{option_map, option_and_then}
use Rattle.std.specs.Result.{result_ok}
use Rattle.hex.specs.Hex.{decode_of}
use Rattle.tpw_occam_terms.specs.Spelling.{letter}
use Rattle.tpw_text.specs.Numbers.{signed_said}
use Rattle.tpw_runs.specs.declared.form.Expected.{Expected}
use Rattle.tpw_runs.specs.declared.packets.Said.{Said}
use Rattle.tpw_runs.specs.declared.packets.Notation.{Notation}
use Rattle.tpw_runs.specs.declared.packets.Notation.TheVariants.{Words, Hexadecimal}

-- ---- the fields of a line

-- a byte before the first of some pieces
abbrev pub with_first : ℕ → List (List ℕ) → List (List ℕ)
with_first b [] = (b ∷ []) ∷ []
with_first b (piece ∷ pieces) = (b ∷ piece) ∷ pieces

-- what is before, between and behind the white space of a line
abbrev pub pieces : List ℕ → List (List ℕ)
pieces [] = [] ∷ []
pieces (b ∷ line) = if is_ascii_whitespace b then [] ∷ pieces line else with_first b (pieces line)

abbrev pub unless_empty : List ℕ → List (List ℕ)
unless_empty [] = []
unless_empty (b ∷ piece) = (b ∷ piece) ∷ []

-- those of them that have bytes
abbrev pub filled : List (List ℕ) → List (List ℕ)
filled [] = []
filled (piece ∷ pieces) = unless_empty piece ++ filled pieces

abbrev pub fields_said : List ℕ → List (List ℕ)
fields_said line = filled (pieces line)

-- ---- messages

-- one field of two hexadecimal digits for each byte says these bytes
abbrev pub hexadecimal_said : ℕ → List (List ℕ) → Option (List ℕ)
hexadecimal_said bytes [] = None
hexadecimal_said bytes (field ∷ []) = if length field == 2 * bytes then result_ok (decode_of field) else None
hexadecimal_said bytes (field ∷ more ∷ fields) = None

-- the bytes of a number's word, low byte first
abbrev pub word_bytes : ℤ → List ℕ
word_bytes number = to_le_bytes w32 (cast_unsigned w32 number)

-- a character between quotes: one of ASCII, or one that stands behind *
abbrev pub is_plain : ℕ → Bool
is_plain c = nat_lt c 128 && not (c == 42)

abbrev pub character_said : List ℕ → Option ℤ
character_said (first ∷ c ∷ last ∷ []) =
    if (first == 39) && ((last == 39) && is_plain c) then Some (pos c) else None
character_said (first ∷ star ∷ c ∷ last ∷ []) =
    if (first == 39) && ((star == 42) && (last == 39)) then option_map pos (letter c) else None
character_said word = None

abbrev pub named_said : List ℕ → Option ℤ
named_said word =
    if bytes_eq word (codes "TRUE") then Some (pos 1)
    else if bytes_eq word (codes "FALSE") then Some (pos 0) else character_said word

-- a number of assembly text, TRUE, which is 1, FALSE, which is 0, or the code of a character
abbrev pub either_said : Option ℤ → Option ℤ → Option ℤ
either_said (Some number) other = Some number
either_said None other = other

abbrev pub value_said : List ℕ → Option ℤ
value_said word = either_said (signed_said word) (named_said word)

-- values say the bytes of their words
abbrev pub words_said : List (List ℕ) → Option (List ℕ)
words_said [] = Some []
words_said (field ∷ fields) =
    option_and_then (λ number. option_map (λ bytes. word_bytes number ++ bytes) (words_said fields)) (value_said field)

-- a message of this number of bytes
abbrev pub packet_said : Notation → ℕ → List (List ℕ) → Option (List ℕ)
packet_said Hexadecimal bytes fields = hexadecimal_said bytes fields
packet_said Words bytes fields = if length fields * 4 == bytes then words_said fields else None

-- a result that is expected: the error flag, and the bytes
pub record ResultSaid : Type 0 where
  pub error : Bool
  pub message : List ℕ

abbrev pub said_of : Said → ResultSaid
said_of said = record { error = said.error; message = said.message.items }

abbrev pub flag_said : List ℕ → Option Bool
flag_said field =
    if bytes_eq field (codes "0") then Some false else if bytes_eq field (codes "1") then Some true else None

-- a message with an error flag
abbrev pub flagged : Option Bool → Option (List ℕ) → Option ResultSaid
flagged error message =
    option_and_then (λ e. option_map (λ m. record { error = e; message = m }) message) error

-- a result of this number of bytes: `flag 0` or `flag 1` and its message, or its message alone, which has flag 0
abbrev pub result_said : Notation → ℕ → List (List ℕ) → Option ResultSaid
result_said notation bytes (word ∷ flag ∷ fields) =
    if bytes_eq word (codes "flag") then flagged (flag_said flag) (packet_said notation bytes fields)
    else flagged (Some false) (packet_said notation bytes (word ∷ flag ∷ fields))
result_said notation bytes fields = flagged (Some false) (packet_said notation bytes fields)

-- ---- texts

-- what a line says is before what the others say; a line without fields says nothing
abbrev pub line_said : {A : Type 0} → (List (List ℕ) → Option A) → List (List ℕ) → Option (List A) → Option (List A)
line_said said [] others = others
line_said said (field ∷ fields) others =
    option_and_then (λ one. option_map (λ more. one ∷ more) others) (said (field ∷ fields))

-- what lines say, by their fields
abbrev pub lines_said : {A : Type 0} → (List (List ℕ) → Option A) → List (List ℕ) → Option (List A)
lines_said said [] = Some []
lines_said said (line ∷ text) = line_said said (fields_said line) (lines_said said text)

-- what a line with these fields says is added: nothing, if it has none
abbrev pub AddsSaid : {A : Type 0} → (List (List ℕ) → Option A) → List (List ℕ) → (old new : List A) → Type 0
AddsSaid said [] old new = new ≡ old
AddsSaid {A} said (field ∷ fields) old new = (one : A) × (said (field ∷ fields) ≡ Some one) × (new ≡ old ++ one ∷ [])

-- the messages of a text, and the results
abbrev pub packets_said : Notation → ℕ → List ℕ → Option (List (List ℕ))
packets_said notation bytes text = lines_said (packet_said notation bytes) (lines text)

abbrev pub results_said : Notation → ℕ → List ℕ → Option (List ResultSaid)
results_said notation bytes text = lines_said (result_said notation bytes) (lines text)

abbrev pub expected_said : Expected → ResultSaid
expected_said expected = record { error = expected.error; message = expected.message.items }
