use Rattle.std.proofs.Common.{count_by, ◌≤◌, All, take}
use Rattle.tpw_occam_symbolic.specs.Flowing.{is_around}
use Rattle.tpw_occam_symbolic.proofs.loops.check_loops.Given as goal

-- the loops so far
abbrev pub invariant-loop-number : goal.invariant-loop-number
invariant-loop-number l = All (λ inner. count_by (is_around inner) l.loops ≤ 3) (take l.number l.loops)
