use Rattle.std.proofs.Common.{◌≡◌, rules}
use Rattle.tpw_occam_expressions.proofs.Ranges.{products, products_checked, products_wrapped, products_fit}
use Rattle.tpw_occam_expressions.proofs.range.products.Goals as goal

pub returns : goal.returns
returns c =
    let is : c.hull.result ≡ products c.args.b c.args.a = search rules in
    record {
      checked = rw is (products_checked c.args.b c.args.a);
      wrapped = rw is (products_wrapped c.args.b c.args.a);
      fits = rw is (products_fit c.args.b c.args.a);
    }
