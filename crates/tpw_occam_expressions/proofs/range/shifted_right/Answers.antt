use Rattle.std.proofs.Common.{◌≡◌, ◌-◌, ◌/◌, ◌^◌, pos, arith, rules}
use Rattle.std.proofs.lemmas.Int.{ints}
use Rattle.tp_words.proofs.Casts.{casts}
use Rattle.tpw_occam_expressions.specs.Ranges.{between}
use Rattle.tpw_occam_expressions.proofs.Ranges.{ends_made, between_made, shifted_down, shifted_down_some}
use Rattle.tpw_occam_expressions.proofs.range.shifted_right.Goals as goal

pub returns-then-b-ge0 : goal.returns-then-b-ge0
returns-then-b-ge0 c vb va hb ha in_b in_a =
    let low_is = c.in-Some-Some.ensures.0 in
    let high_is = c.in-Some-Some.ensures'.0 in
    ends_made
    (shifted_down c.args.b c.args.a c.in-Some-Some.low c.in-Some-Some.high (omega (arith, ints)) (omega (arith, ints)) c.in-Some-Some.ensures'.1 (omega (arith, ints)) vb va hb ha in_b in_a)
    (search (rules, casts)) (search (rules, casts))

pub returns-then-low-gt0 : goal.returns-then-low-gt0
returns-then-low-gt0 c vb va hb ha in_b in_a =
    let low_is = c.in-Some-Some.ensures.0 in
    let high_is = c.in-Some-Some.ensures'.0 in
    let low = c.in-Some-Some.low in
    let is : c.between.result ≡ between (pos 0) (pos ((2 ^ 32 - 1) / 2 ^ low)) = between_made c.between.ensures.value (omega (arith, ints)) (omega (arith, ints)) in
    rw is
    (shifted_down_some c.args.b c.args.a low c.in-Some-Some.high (omega (arith, ints)) (omega (arith, ints)) c.in-Some-Some.ensures'.1 (omega arith) vb va hb ha in_b in_a)
