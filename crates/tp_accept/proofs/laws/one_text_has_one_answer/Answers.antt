use Rattle.tp_accept.proofs.AnswerLemmas.{one_answer}
use Rattle.tp_accept.proofs.laws.one_text_has_one_answer.Goals as goal

pub returns : goal.returns
returns c = one_answer c.passes_have_one_verdict.ensures
