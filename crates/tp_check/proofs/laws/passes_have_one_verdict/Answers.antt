use Rattle.tp_check.proofs.PassLemmas.{one_verdict}
use Rattle.tp_check.proofs.laws.passes_have_one_verdict.Goals as goal

pub returns : goal.returns
returns c = one_verdict
