use Rattle.tp_step.proofs.UpgradeLemmas.{steps_upgraded, run_upgraded}
use Rattle.tp_step.proofs.laws.upgraded_images_do_the_same.Goals as goal

pub returns-clause-steps : goal.returns-clause-steps
returns-clause-steps c = steps_upgraded

pub returns-clause-runs : goal.returns-clause-runs
returns-clause-runs c = run_upgraded
