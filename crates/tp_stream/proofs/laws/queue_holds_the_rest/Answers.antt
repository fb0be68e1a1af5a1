use Rattle.tp_stream.proofs.Stages.{queue_law}
use Rattle.tp_stream.proofs.laws.queue_holds_the_rest.Goals as goal

pub returns : goal.returns
returns c = queue_law
