use Rattle.tp_link.proofs.Counted.{failing, count}
use Rattle.tp_link.proofs.laws.fails_in_one_call.Goals as goal

pub returns : goal.returns
returns c = record { failing = failing; count = count }
