use Rattle.std.proofs.Common.{◌≡◌, drop}
use Rattle.tpw_occam_lexing.specs.Lexemes.{is_int}
use Rattle.tpw_occam_lexing.proofs.lexeme.is_int.Given as goal

abbrev pub invariant-loop-digit : goal.invariant-loop-digit
invariant-loop-digit l = is_int 0 l.digits ≡ is_int l.number (drop l.digit-index l.digits)
