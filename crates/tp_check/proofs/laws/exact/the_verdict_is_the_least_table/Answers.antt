use Rattle.tp_check.proofs.Least.{least}
use Rattle.tp_check.proofs.laws.exact.the_verdict_is_the_least_table.Goals as goal

pub returns : goal.returns
returns c = λ image cuts table other range spelled nest verdict every. least image cuts range spelled nest other every table verdict
