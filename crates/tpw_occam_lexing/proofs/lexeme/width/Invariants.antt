use Rattle.std.proofs.Common.{◌≡◌, drop}
use Rattle.tpw_occam_lexing.specs.declared.lexeme.Within.TheVariants as within
use Rattle.tpw_occam_lexing.specs.Lexemes.{width, plus}
use Rattle.tpw_occam_lexing.proofs.lexeme.width.Given as goal

abbrev pub invariant-loop-at : goal.invariant-loop-at
invariant-loop-at l = width within.Plain l.bytes ≡ plus l.at (width l.within (drop l.at l.bytes))
