use Rattle.tpw_why.proofs.Costing.{begins_if_ok}
use Rattle.tpw_why.proofs.costs.costs_of.Goals as goal

pub returns-clause-starts : goal.returns-clause-starts
returns-clause-starts c =
    λ may. begins_if_ok c.args.accepted.now.image c.args.accepted.now.budget c.costs_of_accepted.result may
    c.costs_of_accepted.ensures.costs c.costs_of_accepted.ensures.budget
