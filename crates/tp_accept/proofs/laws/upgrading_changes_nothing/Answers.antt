use Rattle.tp_accept.proofs.Upgrading.{acceptable_upgraded, runs_upgraded, answer_upgraded}
use Rattle.tp_accept.proofs.laws.upgrading_changes_nothing.Goals as goal

pub returns-clause-acceptable : goal.returns-clause-acceptable
returns-clause-acceptable c = acceptable_upgraded

pub returns-clause-runs : goal.returns-clause-runs
returns-clause-runs c = runs_upgraded

pub returns-clause-answers : goal.returns-clause-answers
returns-clause-answers c = answer_upgraded
