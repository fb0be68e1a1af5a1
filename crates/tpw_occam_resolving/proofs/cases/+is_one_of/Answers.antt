use Rattle.std.proofs.lemmas.Result.{IfOk-weaker}
use Rattle.tpw_occam_names.specs.Scopes.{word_of}
use Rattle.tpw_occam_resolving.proofs.Selecting.{last_made, one_more_made}
use Rattle.tpw_occam_resolving.proofs.cases.+is_one_of.Goals as goal

pub returns-then-is_empty : goal.returns-then-is_empty
returns-then-is_empty t c =
    last_made c.in_ok-equal-in-Some.equal c.word_expression.result c.in-Some.first.now c.in-Some.more.now
    c.args.constants.now (word_of c.args.word) c.in-Some.ensures.cases.0 c.if-is_empty.ensures
    c.word_expression.ensures c.in_ok-equal-in-Some.ensures

pub returns-in_ok-others-in-Some : goal.returns-in_ok-others-in-Some
returns-in_ok-others-in-Some t c =
    IfOk-weaker c.or.result _ _
    (λ e h. one_more_made e c.in_ok-equal-in-Some.equal c.in_ok-others-in-Some.others c.word_expression.result
    c.in-Some.first.now c.in-Some.more.now c.args.constants.now (word_of c.args.word) c.in-Some.ensures.cases.0
    c.word_expression.ensures c.in_ok-equal-in-Some.ensures c.in_ok-others-in-Some.ensures h)
    c.or.ensures
