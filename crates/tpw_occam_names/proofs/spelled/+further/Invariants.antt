use Rattle.std.proofs.Common.{length}
use Rattle.tpw_occam_names.proofs.spelled.+further.Given as goal

abbrev pub decreases-further : goal.decreases-further
decreases-further l = length l.digits.now
