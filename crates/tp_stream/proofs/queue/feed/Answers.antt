use Rattle.tp_stream.proofs.PassViews.{feeds, waits}
use Rattle.tp_stream.proofs.queue.feed.Goals as goal

pub push_as-requires-clause-rule : goal.push_as-requires-clause-rule
push_as-requires-clause-rule g c = (feeds _ _ _ _ c.requires.next.0 c.requires.next.1, waits _ _ c.requires.next.0.1)
