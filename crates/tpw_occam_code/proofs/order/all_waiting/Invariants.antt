use Rattle.tpw_occam_code.specs.Ordering.{AreAll}
use Rattle.tpw_occam_code.proofs.order.all_waiting.Given as goal

abbrev pub invariant-loop-number : goal.invariant-loop-number
invariant-loop-number l = AreAll l.number l.waiting.items
