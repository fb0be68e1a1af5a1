use Rattle.tp_accept.proofs.CostEquations.{determined, determined_bound}
use Rattle.tp_accept.proofs.laws.equations_determine_costs.Goals as goal

pub returns-clause-left : goal.returns-clause-left
returns-clause-left c = λ rows workspace code nest L V are at starts. (determined rows workspace code nest L V are at starts).0

pub returns-clause-whole : goal.returns-clause-whole
returns-clause-whole c = λ rows workspace code nest L V are at to lt starts. (determined rows workspace code nest L V are to starts).1 at lt

pub returns-clause-bound : goal.returns-clause-bound
returns-clause-bound c = determined_bound
