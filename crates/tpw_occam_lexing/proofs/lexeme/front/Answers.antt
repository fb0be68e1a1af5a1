use Rattle.std.proofs.Common.{◌≡◌, sym, subst, rules}
use Rattle.std.specs.Str.{IsCharBoundary}
use Rattle.tpw_occam_lexing.specs.Bytes.{run}
use Rattle.tpw_occam_lexing.proofs.Cuts.{run_cut}
use Rattle.tpw_occam_lexing.proofs.lexeme.front.Goals as goal

pub split_at-requires : goal.split_at-requires
split_at-requires c =
    let same : c.run.result ≡ run c.args.class c.args.text.now = search rules in
    subst (λ n. IsCharBoundary c.args.text.now n) (sym same) (run_cut c.args.class c.args.text.now c.requires c.utf8.text)

pub returns-clause-cut : goal.returns-clause-cut
returns-clause-cut c = run_cut c.args.class c.args.text.now c.requires c.utf8.text
