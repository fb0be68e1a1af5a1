use Rattle.std.proofs.Common.{ap, ◌∙◌}
use Rattle.std.proofs.lemmas.Result.{IfOk-weaker}
use Rattle.tp_requests.specs.Lines.{without_return}
use Rattle.tp_session.proofs.ReadingLemmas.{kept_whole, said_whole, said_rest, answered_now, refused_long}
use Rattle.tp_session.proofs.reading.answer.Goals as goal

pub returns-then-partial-clause-answer : goal.returns-then-partial-clause-answer
returns-then-partial-clause-answer g c fit number line keeps =
    refused_long c.args.partial.now number line c.args.ended _ keeps c.if-partial.true

pub returns-then-ended-clause-answer : goal.returns-then-ended-clause-answer
returns-then-ended-clause-answer g c fit number line keeps =
    let whole = kept_whole c.args.partial.now number line keeps c.if-partial.false in
    let says =
    c.without_return.ensures ∙ ap without_return (c.as_slice-line.ensures.value ∙ whole.0)
    ∙ said_whole line c.args.ended c.if-ended.true in
    IfOk-weaker c.answer_line.result _ _
    (λ answer is. answered_now line c.without_return.result.now c.args.ended _ answer _ whole.1 says is)
    (c.answer_line.ensures.answer fit)

pub returns-else-ended-clause-answer : goal.returns-else-ended-clause-answer
returns-else-ended-clause-answer g c fit number line keeps =
    let whole = kept_whole c.args.partial.now number line keeps c.if-partial.false in
    let says = c.as_slice-line.ensures.value ∙ whole.0 ∙ said_rest line c.args.ended c.if-ended.false in
    IfOk-weaker c.answer_line-else-ended.result _ _
    (λ answer is. answered_now line c.as_slice-line.result.now c.args.ended _ answer _ whole.1 says is)
    (c.answer_line-else-ended.ensures.answer fit)
