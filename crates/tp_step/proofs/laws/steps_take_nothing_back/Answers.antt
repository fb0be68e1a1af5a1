use Rattle.tp_step.proofs.LastingLemmas.{steps_last}
use Rattle.tp_step.proofs.laws.steps_take_nothing_back.Goals as goal

pub returns : goal.returns
returns c = steps_last
