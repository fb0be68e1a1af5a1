use Rattle.std.proofs.Common.{◌+◌, ◌*◌, max}
use Rattle.tpw_occam_core.specs.declared.expression.Expression.{size-Expression}
use Rattle.tpw_occam_expressions.proofs.emitter.Emitter.+need.Given as goal

abbrev pub decreases-need : goal.decreases-need
decreases-need l = 3 * size-Expression l.e.now

abbrev pub decreases-need_of_count : goal.decreases-need_of_count
decreases-need_of_count l = 3 * size-Expression l.count.now + 1

abbrev pub decreases-need_of_operands : goal.decreases-need_of_operands
decreases-need_of_operands l = 3 * max (size-Expression l.left.now) (size-Expression l.right.now) + 2
