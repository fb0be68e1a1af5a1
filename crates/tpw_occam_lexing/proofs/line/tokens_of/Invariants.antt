use Rattle.std.proofs.Common.{◌≡◌, map, length}
use Rattle.std.specs.Str.{IsUtf8}
use Rattle.tpw_occam_lexing.specs.Lexemes.{lexeme_of}
use Rattle.tpw_occam_lexing.specs.Lines.{lexemes, prepended}
use Rattle.tpw_occam_lexing.proofs.line.tokens_of.Given as goal

abbrev pub invariant-items : goal.invariant-items
invariant-items l = record {
  utf8 : IsUtf8 l.rest;
  read : lexemes 0 l.text ≡ prepended (map (λ item. lexeme_of item.token) l.items.items) (lexemes 0 l.rest);
}

abbrev pub decreases-items : goal.decreases-items
decreases-items l = length l.rest
