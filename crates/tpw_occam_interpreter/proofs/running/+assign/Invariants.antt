use Rattle.std.proofs.Common.{length}
use Rattle.tpw_occam_interpreter.proofs.running.+assign.Given as goal

abbrev pub decreases-assign : goal.decreases-assign
decreases-assign g l = length l.list.now
