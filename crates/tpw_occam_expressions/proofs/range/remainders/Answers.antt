use Rattle.std.proofs.Common.{arith, rules}
use Rattle.std.proofs.lemmas.Int.{ints}
use Rattle.tpw_occam_expressions.proofs.Ranges.{ends_made, remainders_above, remainders_either}
use Rattle.tpw_occam_expressions.proofs.range.remainders.Goals as goal

pub returns-then-b-ge0 : goal.returns-then-b-ge0
returns-then-b-ge0 c vb va hb ha in_b in_a =
    let one = c.is_positive.ensures.0 (search rules) in
    ends_made (remainders_above c.args.b c.args.a one.0 one.1 (omega (arith, ints)) vb va hb ha in_b in_a)
    (omega (arith, ints)) (omega (arith, ints))

pub returns-else-b-ge0 : goal.returns-else-b-ge0
returns-else-b-ge0 c vb va hb ha in_b in_a =
    let one = c.is_positive.ensures.0 (search rules) in
    ends_made (remainders_either c.args.b c.args.a one.0 one.1 vb va hb ha in_b in_a)
    (omega (arith, ints)) (omega (arith, ints))
