use Rattle.tp_stream.proofs.PassViews.{takes}
use Rattle.tp_stream.proofs.queue.take.Goals as goal

pub pop_as-requires-clause-rule : goal.pop_as-requires-clause-rule
pop_as-requires-clause-rule g c = (takes _ _ c.requires.part, λ items views h at. tt)
