use Rattle.std.proofs.Common.{IfSome}
use Rattle.tpw_occam_code.specs.Ordering.{MayGo}
use Rattle.tpw_occam_code.proofs.order.next_of.Given as goal

abbrev pub invariant-loop-place : goal.invariant-loop-place
invariant-loop-place l = IfSome l.found (λ place. MayGo l.all l.waiting place)
