use Rattle.tp_accept.proofs.AnswerLemmas.{an_answer}
use Rattle.tp_accept.proofs.laws.each_text_has_an_answer.Goals as goal

pub returns : goal.returns
returns c = an_answer c.passes_have_a_verdict.ensures
