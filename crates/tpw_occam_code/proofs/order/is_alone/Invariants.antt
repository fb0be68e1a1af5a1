use Rattle.std.proofs.Common.{◌≢◌, ℕ, ◌<◌}
use Rattle.tpw_occam_code.specs.Ordering.{waiting_at}
use Rattle.tpw_occam_code.proofs.order.is_alone.Given as goal

abbrev pub invariant-loop-at : goal.invariant-loop-at
invariant-loop-at l = (k : ℕ) → k < l.at → k ≢ l.place → (waiting_at l.waiting k).number ≢ (waiting_at l.waiting l.place).number
