use Rattle.tp_step.proofs.WritesLemmas.{steps_written}
use Rattle.tp_step.proofs.laws.steps_change_the_workspace_alone.Goals as goal

pub returns : goal.returns
returns c = steps_written
