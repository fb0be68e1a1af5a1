use Rattle.std.proofs.Common.{◌≡◌, arith}
use Rattle.std.proofs.lemmas.Int.{ints}
use Rattle.tpw_occam_expressions.proofs.Ranges.{between_made, sums, sums_checked, sums_wrapped, sums_fit}
use Rattle.tpw_occam_expressions.proofs.range.sums.Goals as goal

pub returns : goal.returns
returns c =
    let is : c.between.result ≡ sums c.args.b c.args.a = between_made c.between.ensures.value (omega (arith, ints)) (omega (arith, ints)) in
    record {
      checked = rw is (sums_checked c.args.b c.args.a);
      wrapped = rw is (sums_wrapped c.args.b c.args.a);
      fits = rw is (sums_fit c.args.b c.args.a);
    }
