use Rattle.std.proofs.Common.{◌<◌, length, drop, get_or, rules, arith}
use Rattle.std.proofs.lemmas.Grind.{common_steps}
use Rattle.tpw_occam_lexing.proofs.Cuts.{quotes_cut}
use Rattle.tpw_occam_lexing.proofs.lexeme.text.Goals as goal

pub returns-clause-cut : goal.returns-clause-cut
returns-clause-cut c =
    let fits : c.in_ok-width.width < length (drop 1 c.args.rest.now) = first_of (search rules, grind (arith, common_steps)) in
    let narrow : get_or (drop 1 c.args.rest.now) c.in_ok-width.width 0 < 128 = first_of (search rules, grind (arith, common_steps)) in
    quotes_cut c.args.rest.now c.in_ok-width.width c.utf8.rest c.requires fits narrow
