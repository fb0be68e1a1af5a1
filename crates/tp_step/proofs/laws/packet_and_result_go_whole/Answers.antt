use Rattle.tp_step.proofs.SentLemmas.{reached_exchanged}
use Rattle.tp_step.proofs.laws.packet_and_result_go_whole.Goals as goal

pub returns : goal.returns
returns c = reached_exchanged
