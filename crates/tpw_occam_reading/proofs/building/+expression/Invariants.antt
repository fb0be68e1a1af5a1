use Rattle.std.proofs.Common.{◌+◌, ◌*◌}
use Rattle.tpw_occam_reading.proofs.building.+expression.Given as goal

abbrev pub decreases-expression : goal.decreases-expression
decreases-expression l = 2 * l.room

abbrev pub decreases-listed : goal.decreases-listed
decreases-listed l = 2 * l.room + 1
