use Rattle.std.proofs.Common.{◌≡◌, ◌^◌, pos, ◌*ℤ◌, arith, rules}
use Rattle.std.proofs.lemmas.Int.{ints}
use Rattle.tpw_occam_expressions.specs.Ranges.{between}
use Rattle.tpw_occam_expressions.proofs.Ranges.{shifted_up}
use Rattle.tpw_occam_expressions.proofs.range.shifted_left.Goals as goal

pub returns-in-Some : goal.returns-in-Some
returns-in-Some c vb va hb ha in_b in_a =
    let count = c.in-Some.count in
    let b = c.args.b in
    let count_is = c.in-Some.ensures.0 in
    let is : c.between.result ≡ between (b.low *ℤ pos (2 ^ count)) (b.high *ℤ pos (2 ^ count)) = search rules in
    rw is (shifted_up b c.args.a count (omega (arith, ints)) (omega (arith, ints)) c.in-Some.ensures.1 (omega (arith, ints)) vb va hb ha in_b in_a)
