use Rattle.std.proofs.Common.{◌<◌, ◌≤◌, ◌-◌, length, get_or, rules}
use Rattle.tpw_occam_lexing.proofs.Cuts.{ascii_cut}
use Rattle.tpw_occam_lexing.proofs.lexeme.symbol.Goals as goal

pub returns-clause-cut : goal.returns-clause-cut
returns-clause-cut c =
    let some : 0 < c.in_ok-symbol.width = search rules in
    let fits : c.in_ok-symbol.width ≤ length c.args.rest.now = search rules in
    let narrow : get_or c.args.rest.now (c.in_ok-symbol.width - 1) 0 < 128 = search rules in
    ascii_cut c.args.rest.now c.in_ok-symbol.width c.utf8.rest some fits narrow
