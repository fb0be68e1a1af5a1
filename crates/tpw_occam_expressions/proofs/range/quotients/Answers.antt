use Rattle.std.proofs.Common.{rules}
use Rattle.tp_words.proofs.Casts.{casts}
use Rattle.tpw_occam_expressions.proofs.Ranges.{ends_made, quotients_contained}
use Rattle.tpw_occam_expressions.proofs.range.quotients.Goals as goal

pub returns-then-is_positive : goal.returns-then-is_positive
returns-then-is_positive c vb va hb ha in_b in_a =
    let one = c.is_positive.ensures.0 (search rules) in
    ends_made (quotients_contained c.args.b c.args.a one.0 one.1 vb va hb ha in_b in_a)
    (search (rules, casts)) (search (rules, casts))
