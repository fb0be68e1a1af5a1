use Rattle.tp_stream.proofs.PassViews.{forks}
use Rattle.tp_stream.proofs.queue.new_hand.Goals as goal

pub another-requires-clause-rule : goal.another-requires-clause-rule
another-requires-clause-rule c = forks _ _ c.requires.parts.0 c.requires.parts.1
