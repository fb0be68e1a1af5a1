use Rattle.std.proofs.Common.{◌≡◌, ◌<◌, length, drop, get_or, rules, arith, true}
use Rattle.tpw_occam_lexing.specs.Lexemes.{begins}
use Rattle.tpw_occam_lexing.proofs.Cuts.{quotes_cut, quote_behind}
use Rattle.tpw_occam_lexing.proofs.lexeme.character.Goals as goal

pub returns-clause-cut : goal.returns-clause-cut
returns-clause-cut c =
    let begins : begins 39 (drop c.in_ok-width.width (drop 1 c.args.rest.now)) ≡ true = search rules in
    let behind = quote_behind (drop 1 c.args.rest.now) c.in_ok-width.width begins in
    quotes_cut c.args.rest.now c.in_ok-width.width c.utf8.rest c.requires behind.0 behind.1
