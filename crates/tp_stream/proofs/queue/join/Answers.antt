use Rattle.tp_stream.proofs.PassViews.{merges}
use Rattle.tp_stream.proofs.queue.join.Goals as goal

pub absorb-requires-clause-rule : goal.absorb-requires-clause-rule
absorb-requires-clause-rule c = merges _ _ _ _ c.requires.parts
