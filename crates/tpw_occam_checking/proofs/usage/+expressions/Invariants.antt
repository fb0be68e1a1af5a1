use Rattle.std.proofs.Common.{◌+◌, ◌*◌}
use Rattle.tpw_occam_checking.proofs.usage.+expressions.Given as goal

abbrev pub decreases-expression : goal.decreases-expression
decreases-expression l = 2 * l.depth

abbrev pub decreases-list : goal.decreases-list
decreases-list l = 2 * l.depth + 1
