use Rattle.tp_check.proofs.Ending.{a_verdict}
use Rattle.tp_check.proofs.laws.passes_have_a_verdict.Goals as goal

pub returns : goal.returns
returns c = a_verdict
