use Rattle.std.proofs.Common.{length}
use Rattle.tpw_occam_code.proofs.assignments.+make_moves.Given as goal

abbrev pub decreases-make_moves : goal.decreases-make_moves
decreases-make_moves l = length l.moves.now
