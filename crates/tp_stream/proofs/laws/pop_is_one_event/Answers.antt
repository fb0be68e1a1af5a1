use Rattle.tp_stream.proofs.StreamSteps.{pop_law}
use Rattle.tp_stream.proofs.laws.pop_is_one_event.Goals as goal

pub returns : goal.returns
returns c = pop_law
