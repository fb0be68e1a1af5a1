use Rattle.tp_accept.proofs.CostEquations.{meet}
use Rattle.tp_accept.proofs.laws.costs_meet_their_equations.Goals as goal

pub returns : goal.returns
returns c = meet
