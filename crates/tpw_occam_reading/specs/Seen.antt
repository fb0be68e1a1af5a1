-- Tokens and lines as contracts see them
use Rattle.std.specs.Prelude.{List, map}
use Rattle.tpw_occam_lexing.specs.declared.line.Line.{Line}
use Rattle.tpw_occam_lexing.specs.declared.token.Item.{Item}
use Rattle.tpw_occam_lexing.specs.Lexemes.{Lexeme, lexeme_of}
use Rattle.tpw_occam_lexing.specs.Lines.{WrittenLine, written}

abbrev pub seen : List Item → List Lexeme
seen items = map (λ item. lexeme_of item.token) items

abbrev pub seen_lines : List Line → List WrittenLine
seen_lines lines = map written lines
