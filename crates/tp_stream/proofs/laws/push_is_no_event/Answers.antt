use Rattle.tp_stream.proofs.StreamSteps.{push_law}
use Rattle.tp_stream.proofs.laws.push_is_no_event.Goals as goal

pub returns : goal.returns
returns c = push_law
