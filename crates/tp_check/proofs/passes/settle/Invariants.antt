use Rattle.tp_check.specs.Joining.{is_join_at}
use Rattle.tp_check.proofs.Verdict.{IsBetween, left_of}
use Rattle.tp_check.proofs.passes.settle.Given as goal

abbrev pub invariant-loop-is_left : goal.invariant-loop-is_left
invariant-loop-is_left l = IsBetween l.image l.listing (is_join_at l.predecessors) l.passes l.is_left

abbrev pub decreases-loop-is_left : goal.decreases-loop-is_left
decreases-loop-is_left l = left_of l.image l.is_left l.passes
