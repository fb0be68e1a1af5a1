use Rattle.std.proofs.Common.{◌+◌, ◌*◌, max}
use Rattle.tpw_occam_core.specs.declared.expression.Expression.{size-Expression}
use Rattle.tpw_occam_expressions.proofs.emitter.Emitter.+expression.Given as goal

abbrev pub decreases-expression : goal.decreases-expression
decreases-expression l = 5 * size-Expression l.e.now

abbrev pub decreases-subscript : goal.decreases-subscript
decreases-subscript l = 5 * size-Expression l.e.now + 2

abbrev pub decreases-reduced : goal.decreases-reduced
decreases-reduced l = 5 * size-Expression l.e.now + 1

abbrev pub decreases-bind : goal.decreases-bind
decreases-bind l = 5 * size-Expression l.e.now + 1

abbrev pub decreases-inverted : goal.decreases-inverted
decreases-inverted l = 5 * size-Expression l.e.now + 1

abbrev pub decreases-with_constant : goal.decreases-with_constant
decreases-with_constant l = 5 * size-Expression l.left.now + 1

abbrev pub decreases-constant_first : goal.decreases-constant_first
decreases-constant_first l = 5 * size-Expression l.right.now + 1

abbrev pub decreases-operands : goal.decreases-operands
decreases-operands l = 5 * max (size-Expression l.left.now) (size-Expression l.right.now) + 2

abbrev pub decreases-shifted : goal.decreases-shifted
decreases-shifted l = 5 * max (size-Expression l.left.now) (size-Expression l.count.now) + 3

abbrev pub decreases-in_order : goal.decreases-in_order
decreases-in_order l = 5 * max (size-Expression l.left.now) (size-Expression l.right.now) + 3

abbrev pub decreases-binary : goal.decreases-binary
decreases-binary l = 5 * max (size-Expression l.left.now) (size-Expression l.right.now) + 4
