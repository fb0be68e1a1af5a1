use Rattle.tp_check.proofs.Respected.{respected}
use Rattle.tp_check.proofs.laws.exact.every_edge_respects_the_verdict.Goals as goal

pub returns : goal.returns
returns c = λ image cuts table range spelled kept verdict. respected image cuts range spelled kept table verdict
