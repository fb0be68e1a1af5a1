use Rattle.tp_farm.proofs.Refusals.{run_reason}
use Rattle.tp_farm.proofs.handling.run_on.Goals as goal

pub returns-clause-reason : goal.returns-clause-reason
returns-clause-reason g c packet ready long =
    run_reason c.args.accepted.now.image c.args.accepted.now.budget packet _ ready long _ c.run.result c.run.ensures.answered
