use Rattle.std.proofs.Common.{true, ◌∷◌, [], refl, ap, ◌∙◌, arith}
use Rattle.std.proofs.lemmas.Result.{err_from_is_err_and}
use Rattle.tp_requests.specs.Lines.{lines_of}
use Rattle.tp_session.specs.Points.{number_after}
use Rattle.tp_session.proofs.KnownBytes.{appends_same}
use Rattle.tp_session.proofs.PointLemmas.{begins_line}
use Rattle.tp_session.proofs.ReadingLemmas.{answer_at, text_at, fails_wanting, fails_sending, sent_as, goes_line}
use Rattle.tp_session.proofs.reading.end_line.Goals as goal

pub returns-in_err-answer-clause-err : goal.returns-in_err-answer-clause-err
returns-in_err-answer-clause-err g c trace begun s at input begins =
    let p = err_from_is_err_and c.from_residual.result c.from_residual.ensures.1 in
    rw (p.1, p.2) (fails_wanting _ _ _ _ _ _ s at input _ (10 ∷ []) 1 refl (omega arith) _ c.in_err-answer.ensures.want)

pub returns-in_err-send-clause-err : goal.returns-in_err-send-clause-err
returns-in_err-send-clause-err g c trace begun s at input begins =
    let p = err_from_is_err_and c.from_residual-in_err-send.result c.from_residual-in_err-send.ensures.1 in
    let is =
    answer_at _ _ _ _ _ _ s at true c.in_ok-answer.answer _
    (c.in_ok-answer.ensures.answer at.fit (number_after 1 s.lines) s.line at.keeps) in
    let text = text_at _ _ _ _ _ _ s at _ c.in_ok-answer.answer c.in_ok-answer.ensures.stays.trace in
    let lines = ap lines_of begins.1 ∙ begins_line trace s at.reached begins.0 in
    rw (p.1, p.2) (fails_sending _ _ _ _ _ _ s at input _ (10 ∷ []) 1 refl (omega arith) true (lines_of begins.0) lines c.in_ok-answer.answer
    _ is _ _ (sent_as _ _ _ _ _ text c.in_err-send.ensures.err))

pub returns-clause-ok : goal.returns-clause-ok
returns-clause-ok g c trace begun s at =
    let is =
    answer_at _ _ _ _ _ _ s at true c.in_ok-answer.answer _
    (c.in_ok-answer.ensures.answer at.fit (number_after 1 s.lines) s.line at.keeps) in
    let text = text_at _ _ _ _ _ _ s at _ c.in_ok-answer.answer c.in_ok-answer.ensures.stays.trace in
    goes_line _ _ _ _ _ _ s at _ _ _ c.in_ok-answer.answer is c.in_ok-answer.ensures.stays
    (appends_same _ _ _ _ text c.in_ok-send.ensures.ok) c.saturating_add-partial.ensures c.clear.ensures.items refl
