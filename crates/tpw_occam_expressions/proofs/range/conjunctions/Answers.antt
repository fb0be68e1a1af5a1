use Rattle.std.proofs.Common.{arith}
use Rattle.std.proofs.lemmas.Int.{ints, clamps}
use Rattle.tpw_occam_expressions.proofs.Ranges.{ends_made, conjunctions_both, conjunctions_left, conjunctions_right}
use Rattle.tpw_occam_expressions.proofs.range.conjunctions.Goals as goal

pub returns-in-true-true : goal.returns-in-true-true
returns-in-true-true c vb va hb ha in_b in_a =
    ends_made (conjunctions_both c.args.b c.args.a (omega (arith, ints)) (omega (arith, ints)) vb va hb ha in_b in_a)
    (omega (arith, ints)) (omega (arith, ints, clamps))

pub returns-in-true-false : goal.returns-in-true-false
returns-in-true-false c vb va hb ha in_b in_a =
    ends_made (conjunctions_left c.args.b c.args.a (omega (arith, ints)) vb va hb ha in_b in_a)
    (omega (arith, ints)) (omega (arith, ints))

pub returns-in-false-true : goal.returns-in-false-true
returns-in-false-true c vb va hb ha in_b in_a =
    ends_made (conjunctions_right c.args.b c.args.a (omega (arith, ints)) vb va hb ha in_b in_a)
    (omega (arith, ints)) (omega (arith, ints))
