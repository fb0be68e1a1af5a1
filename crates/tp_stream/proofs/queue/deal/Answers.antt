use Rattle.std.proofs.Common.{arith}
use Rattle.tp_stream.proofs.PassViews.{deals}
use Rattle.tp_stream.proofs.queue.deal.Goals as goal

pub another-requires-clause-rule : goal.another-requires-clause-rule
another-requires-clause-rule g c = deals _ _ _ _ (let s = c.requires.sizes in omega arith) c.requires.queue.1
