use Rattle.tp_step.proofs.LastingLemmas.{sends_first}
use Rattle.tp_step.proofs.laws.runs_send_first_what_was_sent.Goals as goal

pub returns : goal.returns
returns c = sends_first
