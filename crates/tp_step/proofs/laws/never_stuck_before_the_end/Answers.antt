use Rattle.tp_step.proofs.StepLemmas.{within_run, never_stuck}
use Rattle.tp_step.proofs.laws.never_stuck_before_the_end.Goals as goal

pub returns-clause-within : goal.returns-clause-within
returns-clause-within c = within_run

pub returns-clause-not_stuck : goal.returns-clause-not_stuck
returns-clause-not_stuck c = never_stuck
