use Rattle.std.proofs.lemmas.Result.{IfOk-weaker}
use Rattle.tpw_occam_resolving.proofs.Spelling.{text_spelled}
use Rattle.tpw_occam_resolving.proofs.texts.+text_bytes.Goals as goal

pub returns-in_ok-more-in-Some : goal.returns-in_ok-more-in-Some
returns-in_ok-more-in-Some t c =
    IfOk-weaker c.in_front.result _ _
    (λ all h. text_spelled c.args.spelled.now c.in-Some.byte c.in-Some.width c.in_ok-rest-in-Some.rest.now
    c.in_ok-more-in-Some.more.items all.items c.in-Some.ensures.some c.in_ok-rest-in-Some.ensures
    c.in_ok-more-in-Some.ensures h)
    c.in_front.ensures
