use Rattle.std.proofs.Common.{◌+◌, ◌*◌}
use Rattle.tpw_occam_checking.proofs.usage.+processes.Given as goal

abbrev pub decreases-process : goal.decreases-process
decreases-process l = 4 * l.depth

abbrev pub decreases-steps : goal.decreases-steps
decreases-steps l = 4 * l.depth + 1

abbrev pub decreases-choices : goal.decreases-choices
decreases-choices l = 4 * l.depth + 1

abbrev pub decreases-cases : goal.decreases-cases
decreases-cases l = 4 * l.depth + 1

abbrev pub decreases-procedure : goal.decreases-procedure
decreases-procedure l = 4 * l.depth + 1

abbrev pub decreases-declaration : goal.decreases-declaration
decreases-declaration l = 4 * l.depth + 2

abbrev pub decreases-scoped : goal.decreases-scoped
decreases-scoped l = 4 * l.depth + 3

abbrev pub decreases-valued : goal.decreases-valued
decreases-valued l = 4 * l.depth

abbrev pub decreases-routine : goal.decreases-routine
decreases-routine l = 4 * l.depth + 1
