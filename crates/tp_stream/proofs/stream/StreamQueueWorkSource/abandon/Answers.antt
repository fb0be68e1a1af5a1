use Rattle.std.proofs.Common.{◌∙◌}
use Rattle.tp_stream.proofs.Handing.{hand_abandoned}
use Rattle.tp_stream.proofs.stream.StreamQueueWorkSource.abandon.Goals as goal

pub invariant_of-hand : goal.invariant_of-hand
invariant_of-hand c =
    let i = c.hand.invariant in
    let told = c.report_lost.ensures in
    (hand_abandoned _ _ _ _ _ _ _ c.in-Some.is told.step.1.0 i.0, i.1, told.own.1 ∙ i.2)
