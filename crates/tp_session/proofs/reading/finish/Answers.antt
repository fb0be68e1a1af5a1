use Rattle.std.proofs.Common.{false, [], sym, ◌∙◌, arith}
use Rattle.std.proofs.lemmas.List.{append-nil}
use Rattle.std.proofs.lemmas.Result.{err_from_is_err_and, on_ok_weaker, IfErr-weaker}
use Rattle.tp_session.specs.Points.{number_after}
use Rattle.tp_session.proofs.KnownBytes.{appends_same}
use Rattle.tp_session.proofs.PointLemmas.{lines_now, lines_rest}
use Rattle.tp_session.proofs.ReadingLemmas.{answer_at, text_at, sent_as, fails_wanting, fails_sending, written_whole, written_last}
use Rattle.tp_session.proofs.ReadingLemmas.{nothing_left, something_left}
use Rattle.tp_session.proofs.reading.finish.Goals as goal

pub returns-then-is_empty-clause-ok : goal.returns-then-is_empty-clause-ok
returns-then-is_empty-clause-ok g c trace begun s at =
    written_whole _ _ _ _ _ _ s at (nothing_left s.line _ _ at.keeps.line_is c.args.partial.now.line.ok.0 c.if-is_empty.ensures)

pub returns-in_err-answer-clause-err : goal.returns-in_err-answer-clause-err
returns-in_err-answer-clause-err g c trace begun s at =
    let p = err_from_is_err_and c.from_residual.result c.from_residual.ensures.1 in
    rw (p.1, p.2) (fails_wanting _ _ _ _ _ _ s at s.taken s.taken [] 0 (sym (append-nil s.taken)) (omega arith) _ c.in_err-answer.ensures.want)

pub returns-clause-ok : goal.returns-clause-ok
returns-clause-ok g c trace begun s at =
    let some = something_left s.line _ _ at.keeps.line_is c.args.partial.now.line.ok.0 c.if-is_empty.ensures in
    let is =
    answer_at _ _ _ _ _ _ s at false c.in_ok-answer.answer _
    (c.in_ok-answer.ensures.answer at.fit (number_after 1 s.lines) s.line at.keeps) in
    let text = text_at _ _ _ _ _ _ s at _ c.in_ok-answer.answer c.in_ok-answer.ensures.stays.trace in
    on_ok_weaker c.send.result (λ wrote. written_last _ _ _ _ _ _ s at some c.in_ok-answer.answer _ is _
    (appends_same _ _ _ _ text wrote)) c.send.ensures.ok

pub returns-clause-err : goal.returns-clause-err
returns-clause-err g c trace begun s at =
    let some = something_left s.line _ _ at.keeps.line_is c.args.partial.now.line.ok.0 c.if-is_empty.ensures in
    let is =
    answer_at _ _ _ _ _ _ s at false c.in_ok-answer.answer _
    (c.in_ok-answer.ensures.answer at.fit (number_after 1 s.lines) s.line at.keeps) in
    let text = text_at _ _ _ _ _ _ s at _ c.in_ok-answer.answer c.in_ok-answer.ensures.stays.trace in
    let lines = lines_rest trace s at.reached some ∙ sym (append-nil (lines_now s false)) in
    IfErr-weaker c.send.result _ _ (λ e sent. fails_sending _ _ _ _ _ _ s at s.taken s.taken [] 0 (sym (append-nil s.taken)) (omega arith)
    false [] lines c.in_ok-answer.answer _ is _ e (sent_as _ _ _ _ e text sent)) c.send.ensures.err
