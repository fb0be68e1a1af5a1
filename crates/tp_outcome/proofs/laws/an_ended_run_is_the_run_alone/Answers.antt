use Rattle.tp_outcome.proofs.Alone.{ended_alone}
use Rattle.tp_outcome.proofs.laws.an_ended_run_is_the_run_alone.Goals as goal

pub returns : goal.returns
returns c = ended_alone
