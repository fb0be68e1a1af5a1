use Rattle.tp_requests.specs.Requests.{asked}
use Rattle.tp_session.proofs.ServiceLemmas.{listable, asks_known}
use Rattle.tp_session.proofs.service.Service.answer_line.Goals as goal

pub answer-requires-clause-listed : goal.answer-requires-clause-listed
answer-requires-clause-listed g c κs within =
    listable c.args.line.now (asked c.in-Some.request) c.requires.short
    (asks_known c.args.line.now asked c.in_ok-request.field-0 c.in-Some.request c.in-Some.is c.in_ok-request.ensures)
