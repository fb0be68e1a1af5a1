-- The lines of a text: an indentation and lexemes. Blanks and comments are dropped, and a line that ends with what lets it
-- goes on over the next one.
use Rattle.std.specs.Prelude.{ℕ, zero, suc, ◌-◌, ◌==◌, ◌&&◌, nat_lt, nat_le, Bool, true, false, if◌then◌else◌}
use Rattle.std.specs.Prelude.{Option, Some, None, option_map, List, [], ◌∷◌, ◌++◌, map, length, take, slice_get, slice_index}
use Rattle.tpw_occam_lexing.specs.declared.bytes.Class.TheVariants as class
use Rattle.tpw_occam_lexing.specs.declared.line.Line.{Line}
use Rattle.tpw_occam_lexing.specs.declared.line.Joining.{Joining}
use Rattle.tpw_occam_lexing.specs.declared.line.Joining.TheVariants.{Behind, Shallow, Apart, Early}
use Rattle.tpw_occam_lexing.specs.Bytes.{run}
use Rattle.tpw_occam_lexing.specs.Keywords.{is_open_word, is_between_word}
use Rattle.tpw_occam_lexing.specs.Symbols.{is_open_sign, is_between_sign}
use Rattle.tpw_occam_lexing.specs.Lexemes.{Lexeme, Word, Sign, Read, lexeme_of, lexeme_at}

pub record WrittenLine : Type 0 where
  pub indent : ℕ
  pub lexemes : List Lexeme

abbrev pub written : Line → WrittenLine
written line = record { indent = line.indent; lexemes = map (λ item. lexeme_of item.token) line.items.items }

-- ---- a line by itself

-- --
abbrev pub is_comment : List ℕ → Bool
is_comment (a ∷ b ∷ more) = (a == 45) && (b == 45)
is_comment short = false

abbrev pub prepended : List Lexeme → Option (List Lexeme) → Option (List Lexeme)
prepended front None = None
prepended front (Some more) = Some (front ++ more)

-- a lexeme, of one byte and n more, and those behind it
abbrev pub followed : Read → (ℕ → Option (List Lexeme)) → Option (List Lexeme)
followed None behind = None
followed (Some (lexeme, zero)) behind = None
followed (Some (lexeme, suc n)) behind = prepended (lexeme ∷ []) (behind n)

-- the lexemes of a line behind this many bytes
abbrev pub lexemes : ℕ → List ℕ → Option (List Lexeme)
lexemes n [] = Some []
lexemes (suc n) (c ∷ more) = lexemes n more
lexemes zero (c ∷ more) =
    if is_comment (c ∷ more) then Some []
    else (if c == 32 then lexemes zero more else followed (lexeme_at (c ∷ more)) (λ n. lexemes n more))

unfoldable pub written_line : List ℕ → Option WrittenLine
written_line bytes =
    option_map (λ lexemes. record { indent = run class.Space bytes; lexemes = lexemes }) (lexemes 0 bytes)

-- ---- lines by themselves

abbrev pub in_first : ℕ → List (List ℕ) → List (List ℕ)
in_first c [] = (c ∷ []) ∷ []
in_first c (line ∷ more) = (c ∷ line) ∷ more

-- the lines of a text
abbrev pub text_lines : List ℕ → List (List ℕ)
text_lines [] = [] ∷ []
text_lines (c ∷ more) = if c == 10 then [] ∷ text_lines more else in_first c (text_lines more)

-- without the carriage return that ends it
unfoldable pub without_return : List ℕ → List ℕ
without_return line =
    if slice_index line (length line - 1) == 13 then take (length line - 1) line else line

abbrev pub is_blank : List Lexeme → Bool
is_blank [] = true
is_blank (first ∷ more) = false

-- a line in front of others, if it is not blank
abbrev pub in_front : Option WrittenLine → Option (List WrittenLine) → Option (List WrittenLine)
in_front None more = None
in_front (Some line) None = None
in_front (Some line) (Some more) = Some (if is_blank line.lexemes then more else line ∷ more)

abbrev pub each_line : List (List ℕ) → Option (List WrittenLine)
each_line [] = Some []
each_line (line ∷ more) = in_front (written_line (without_return line)) (each_line more)

-- ---- lines that go on

abbrev pub is_open : Option Lexeme → Bool
is_open (Some (Word keyword)) = is_open_word keyword
is_open (Some (Sign symbol)) = is_open_sign symbol
is_open other = false

abbrev pub is_between : Option Lexeme → Bool
is_between (Some (Word keyword)) = is_between_word keyword
is_between (Some (Sign symbol)) = is_between_sign symbol
is_between other = false

-- a line goes on, or not; its indentation, that of the next one, and whether this begins as no line does
abbrev pub joining : Bool → ℕ → ℕ → Bool → Joining
joining true above indent begins_between = if nat_le above indent then Behind else Shallow
joining false above indent begins_between = if nat_lt above indent && begins_between then Early else Apart

-- the last lexeme, and the first
abbrev pub last : List Lexeme → Option Lexeme
last lexemes = slice_get lexemes (length lexemes - 1)

abbrev pub goes_on : WrittenLine → Bool
goes_on line = is_open (last line.lexemes)

abbrev pub joining_of : WrittenLine → WrittenLine → Joining
joining_of above line =
    joining (goes_on above) above.indent line.indent (is_between (slice_get line.lexemes 0))

abbrev pub with_rest : WrittenLine → WrittenLine → WrittenLine
with_rest above line = record { indent = above.indent; lexemes = above.lexemes ++ line.lexemes }

abbrev pub after : List WrittenLine → Option (List WrittenLine) → Option (List WrittenLine)
after front None = None
after front (Some more) = Some (front ++ more)

abbrev pub joined_as : Joining → Option (List WrittenLine) → Option (List WrittenLine) → Option (List WrittenLine)
joined_as Behind behind apart = behind
joined_as Apart behind apart = apart
joined_as other behind apart = None

-- a line and those behind it
abbrev pub joined_behind : WrittenLine → List WrittenLine → Option (List WrittenLine)
joined_behind above [] = Some (above ∷ [])
joined_behind above (line ∷ more) =
    joined_as (joining_of above line) (joined_behind (with_rest above line) more)
    (after (above ∷ []) (joined_behind line more))

abbrev pub joined : List WrittenLine → Option (List WrittenLine)
joined [] = Some []
joined (first ∷ more) = joined_behind first more

abbrev pub joined_if : Option (List WrittenLine) → Option (List WrittenLine)
joined_if None = None
joined_if (Some lines) = joined lines

-- the lines of lexemes of a text; none where it has none
unfoldable pub lines_of : List ℕ → Option (List WrittenLine)
lines_of text = joined_if (each_line (text_lines text))

abbrev pub where_clean : {A : Type 0} → Bool → A → Option A
where_clean true a = Some a
where_clean false a = None
