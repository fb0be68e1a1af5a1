use Rattle.std.proofs.Common.{arith}
use Rattle.tp_stream.proofs.PassViews.{takes, left}
use Rattle.tp_stream.proofs.queue.drain.Goals as goal

pub pop_as-requires-clause-rule : goal.pop_as-requires-clause-rule
pop_as-requires-clause-rule g c = (takes _ _ (let p = c.requires.parts in omega arith), left _ _ c.requires.parts)
