use Rattle.tp_check.proofs.Least.{no_refusal}
use Rattle.tp_check.proofs.laws.exact.a_refusal_means_no_table.Goals as goal

pub returns : goal.returns
returns c = λ image cuts fault range spelled nest verdict table every. no_refusal image cuts range spelled nest table every fault verdict
