use Rattle.tp_requests.specs.Lines.{lines_of}
use Rattle.tp_answers.specs.Rules.{IsVerdict, IsOutcome}
use Rattle.tp_session.proofs.OneAnswer.{one_told, verdict_once, outcome_once}
use Rattle.tp_session.proofs.laws.one_input_has_one_answer.Goals as goal

pub returns : goal.returns
returns c trace input =
    one_told IsVerdict IsOutcome (verdict_once c.one_text_has_one_answer.ensures) outcome_once trace (lines_of input)
