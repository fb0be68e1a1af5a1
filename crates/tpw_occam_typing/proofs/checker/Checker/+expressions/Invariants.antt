use Rattle.std.proofs.Common.{◌+◌, ◌*◌}
use Rattle.tpw_occam_typing.proofs.checker.Checker.+expressions.Given as goal

abbrev pub decreases-expression : goal.decreases-expression
decreases-expression l = 8 * l.depth

abbrev pub decreases-operands : goal.decreases-operands
decreases-operands l = 8 * l.depth + 1

abbrev pub decreases-element : goal.decreases-element
decreases-element l = 8 * l.depth + 1

abbrev pub decreases-list : goal.decreases-list
decreases-list l = 8 * l.depth + 1

abbrev pub decreases-element_reference : goal.decreases-element_reference
decreases-element_reference l = 8 * l.depth + 1

abbrev pub decreases-dyadic : goal.decreases-dyadic
decreases-dyadic l = 8 * l.depth + 2

abbrev pub decreases-array : goal.decreases-array
decreases-array l = 8 * l.depth + 2

abbrev pub decreases-reference : goal.decreases-reference
decreases-reference l = 8 * l.depth + 2

abbrev pub decreases-passed : goal.decreases-passed
decreases-passed l = 8 * l.depth + 3

abbrev pub decreases-bound : goal.decreases-bound
decreases-bound l = 8 * l.depth + 4

abbrev pub decreases-inline : goal.decreases-inline
decreases-inline l = 8 * l.depth + 5

abbrev pub decreases-call : goal.decreases-call
decreases-call l = 8 * l.depth + 6

-- an expression is made of one level less
abbrev pub decreases-made : goal.decreases-made
decreases-made l = 8 * l.depth + 7
