use Rattle.tpw_occam_resolving.proofs.expressions.+value.Given as goal

abbrev pub decreases-array : goal.decreases-array
decreases-array l = l.room

abbrev pub decreases-called : goal.decreases-called
decreases-called l = l.room

abbrev pub decreases-elements_of : goal.decreases-elements_of
decreases-elements_of l = l.room

abbrev pub decreases-passed : goal.decreases-passed
decreases-passed l = l.room

abbrev pub decreases-value : goal.decreases-value
decreases-value l = l.room

abbrev pub decreases-operand : goal.decreases-operand
decreases-operand l = l.room
