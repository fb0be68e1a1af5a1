-- What is under way while a text is read
use Rattle.std.specs.Prelude.{ℕ, ◌<◌, ◌≤◌, Bool, true, false, Option, Some, None, option_map, List, [], ◌∷◌, map, length, drop}
use Rattle.std.specs.Str.{IsCharBoundary}
use Rattle.tpw_occam_lexing.specs.declared.line.Next.{Next}
use Rattle.tpw_occam_lexing.specs.declared.line.Next.TheVariants as next
use Rattle.tpw_occam_lexing.specs.declared.joint.Joint.{Joint}
use Rattle.tpw_occam_lexing.specs.Lexemes.{Lexeme, lexeme_of}
use Rattle.tpw_occam_lexing.specs.Lines.{WrittenLine, written, prepended, lexemes, joined, joined_behind, after}

-- the lexemes of a line that begins so
abbrev pub onward : Next → List ℕ → Option (List Lexeme)
onward next.End rest = Some []
onward next.Space rest = lexemes 0 (drop 1 rest)
onward (next.Lexeme token width) rest = prepended (lexeme_of token ∷ []) (lexemes 0 (drop width rest))
onward next.Nothing rest = None

-- the rest may be cut behind what begins it
abbrev pub IsCut : Next → List ℕ → Type 0
IsCut next.Space rest = (0 < length rest) × IsCharBoundary rest 1
IsCut (next.Lexeme token width) rest = (0 < width) × IsCharBoundary rest width
IsCut other rest = Unit {0}

-- lines behind the one that may go on
abbrev pub resumed : Option WrittenLine → List WrittenLine → Option (List WrittenLine)
resumed None lines = joined lines
resumed (Some above) lines = joined_behind above lines

-- the lines that are done, one that may go on, and those to come
abbrev pub outcome : Bool → List WrittenLine → Option WrittenLine → Option (List WrittenLine) → Option (List WrittenLine)
outcome false done above more = None
outcome true done above None = None
outcome true done above (Some more) = after done (resumed above more)

unfoldable pub meant : Joint → Option (List WrittenLine) → Option (List WrittenLine)
meant joint more = outcome joint.is_clean (map written joint.done.items) (option_map written joint.pending) more
