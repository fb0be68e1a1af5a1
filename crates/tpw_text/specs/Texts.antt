-- What a text says.
use Rattle.std.specs.Prelude.{ℕ, ◌+◌, List, [], ◌∷◌, map, Result}
use Rattle.std.specs.Str.Lines.{lines}
use Rattle.tpw_text.specs.declared.fault.SourceFault.{SourceFault}
use Rattle.tpw_text.specs.Faults.{then_read}
use Rattle.tpw_text.specs.Words.{Token, words_of_line}
use Rattle.tpw_text.specs.Drafts.{Said, empty}
use Rattle.tpw_text.specs.Meaning.{in_turn, line_said}
use Rattle.tpw_text.specs.Apart.{word_for}
use Rattle.tpw_text.specs.Programs.{SourceSaid, finished}

-- the words of lines, the first of which has a number
abbrev pub words_of_lines : ℕ → List (List ℕ) → List (List Token)
words_of_lines number [] = []
words_of_lines number (line ∷ more) = words_of_line number line ∷ words_of_lines (number + 1) more

-- what words say, line by line
abbrev pub words_say : List (List Token) → Result Said SourceFault
words_say words = in_turn line_said (map (map word_for) words) empty

-- what a text says, or its first fault
unfoldable pub text_said : List ℕ → Result Said SourceFault
text_said text = words_say (words_of_lines 1 (lines text))

-- a text's program with the names that it gives: what its draft comes to at its end, or its first fault
abbrev pub source_of : List ℕ → Result SourceSaid SourceFault
source_of text = then_read (text_said text) finished
