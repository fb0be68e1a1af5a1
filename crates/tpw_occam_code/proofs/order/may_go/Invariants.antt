use Rattle.std.proofs.Common.{◌≢◌, ℕ, ◌<◌, nat_lt}
use Rattle.tpw_occam_code.specs.Ordering.{PrecedesIn, waiting_at}
use Rattle.tpw_occam_code.proofs.order.may_go.Given as goal

abbrev pub invariant-loop-at : goal.invariant-loop-at
invariant-loop-at l =
    (k : ℕ) → k < l.at → k ≢ l.place → PrecedesIn l.all (waiting_at l.waiting l.place) (waiting_at l.waiting k) (nat_lt k l.place)
