-- The words of a line, and their places.
use Rattle.std.specs.Prelude.{ℕ, ◌+◌, ◌-◌, ◌==◌, ◌&&◌, ◌||◌, not, Bool, false, if◌then◌else◌, List, [], ◌∷◌, ◌++◌}
use Rattle.std.specs.Prelude.{length, take, drop, codes}
use Rattle.std.specs.Char.{is_ascii_whitespace}
use Rattle.std.specs.Fmt.{decimal}
use Rattle.std.specs.List.{prefix_len, suffix_len}
use Rattle.std.specs.Str.{is_utf8, str_eq_ignore_ascii_case}
use Rattle.tpw_text.specs.declared.words.Position.{Position}
use Rattle.tpw_text.specs.declared.words.Word.{Word}

-- where a word of the code stands
abbrev pub position_of : Word → Position
position_of word = record { line = word.line; column = word.column }

-- a position as text
abbrev pub position_text : Position → List ℕ
position_text p = decimal p.line ++ codes ":" ++ decimal p.column

-- a word, and where it stands: lines and columns count from 1
pub record Token : Type 0 where
  pub text : List ℕ
  pub line : ℕ
  pub column : ℕ

-- what a word of the code stands for
abbrev pub token : Word → Token
token word = record { text = word.text.now; line = word.line; column = word.column }

-- a byte that is a word by itself: : or /
abbrev pub is_mark : ℕ → Bool
is_mark b = (b == 58) || (b == 47)

-- a byte of a word of any length
unfoldable pub is_plain : ℕ → Bool
is_plain b = not (is_ascii_whitespace b) && not (is_mark b)

-- bytes begin with one that passes a test
abbrev pub begins : (ℕ → Bool) → List ℕ → Bool
begins test [] = false
begins test (b ∷ bytes) = test b

-- a comment begins with ; or --
abbrev pub begins_comment : List ℕ → Bool
begins_comment [] = false
begins_comment (b ∷ bytes) = (b == 59) || ((b == 45) && begins (λ c. c == 45) bytes)

-- the bytes before the first comment
unfoldable pub before_comment : List ℕ → List ℕ
before_comment [] = []
before_comment (b ∷ bytes) = if begins_comment (b ∷ bytes) then [] else b ∷ before_comment bytes

-- a byte in front of the first word
abbrev pub onto_first : ℕ → ℕ → List Token → List Token
onto_first b column [] = []
onto_first b column (word ∷ words) = record { text = b ∷ word.text; line = word.line; column = column } ∷ words

-- The words of bytes that stand at a line and a column: white space parts them, a mark is a word by itself, and plain
-- bytes that
-- follow one another are one word.
unfoldable pub tokens : ℕ → ℕ → List ℕ → List Token
tokens line column [] = []
tokens line column (b ∷ bytes) =
    if is_ascii_whitespace b then tokens line (column + 1) bytes
    else if is_plain b && begins is_plain bytes then onto_first b column (tokens line (column + 1) bytes)
    else record { text = b ∷ []; line = line; column = column } ∷ tokens line (column + 1) bytes

-- the words of a line
abbrev pub words_of_line : ℕ → List ℕ → List Token
words_of_line line bytes = tokens line 1 (before_comment bytes)

-- bytes as one word, if there are any
abbrev pub word_if_any : ℕ → ℕ → List ℕ → List Token
word_if_any line column [] = []
word_if_any line column (b ∷ bytes) = record { text = b ∷ bytes; line = line; column = column } ∷ []

-- bytes that have these words: what stands behind their label, where they have one, or all
abbrev pub behind_label : List Token → List ℕ → List ℕ
behind_label (label ∷ mark ∷ words) bytes =
    if str_eq_ignore_ascii_case mark.text (codes ":") then drop mark.column bytes else bytes
behind_label words bytes = bytes

-- bytes without white space before them, and behind them
abbrev pub without_leading : List ℕ → List ℕ
without_leading bytes = drop (prefix_len is_ascii_whitespace bytes) bytes

abbrev pub without_trailing : List ℕ → List ℕ
without_trailing bytes = take (length bytes - suffix_len is_ascii_whitespace bytes) bytes

-- the statement of a line: what stands before its comment and behind its label, without white space at its ends
unfoldable pub statement_text : List ℕ → List ℕ
statement_text line = without_trailing (without_leading (behind_label (words_of_line 1 line) (before_comment line)))

-- what is handed out as a line's statement; it is UTF-8 where the line is, else the line would be handed out
unfoldable pub statement_or_line : List ℕ → List ℕ
statement_or_line line = if is_utf8 (statement_text line) then statement_text line else line
