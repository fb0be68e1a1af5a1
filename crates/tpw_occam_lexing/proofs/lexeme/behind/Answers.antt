use Rattle.tpw_occam_lexing.proofs.Cuts.{first_cut}
use Rattle.tpw_occam_lexing.proofs.lexeme.behind.Goals as goal

pub split_at-requires : goal.split_at-requires
split_at-requires c = first_cut c.args.rest.now c.utf8.rest c.requires
