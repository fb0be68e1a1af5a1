use Rattle.std.proofs.Common.{arith}
use Rattle.tp_farm.proofs.Refusals.{long_trace}
use Rattle.tp_farm.proofs.handling.receive_trace.Goals as goal

pub returns-then-n-gt-MAX_MESSAGE-clause-reason :
    goal.returns-then-n-gt-MAX_MESSAGE-clause-reason
returns-then-n-gt-MAX_MESSAGE-clause-reason g c image packet traced =
    long_trace _ _ _ _ traced (omega (arith, c.if-n-gt-MAX_MESSAGE.true, c.held-n.ensures.count))
