use Rattle.std.proofs.Common.{◌≡◌, arith}
use Rattle.std.proofs.lemmas.Int.{ints}
use Rattle.tpw_occam_expressions.proofs.Ranges.{between_made, differences, differences_checked, differences_wrapped, differences_fit}
use Rattle.tpw_occam_expressions.proofs.range.differences.Goals as goal

pub returns : goal.returns
returns c =
    let is : c.between.result ≡ differences c.args.b c.args.a = between_made c.between.ensures.value (omega (arith, ints)) (omega (arith, ints)) in
    record {
      checked = rw is (differences_checked c.args.b c.args.a);
      wrapped = rw is (differences_wrapped c.args.b c.args.a);
      fits = rw is (differences_fit c.args.b c.args.a);
    }
