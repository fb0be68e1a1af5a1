use Rattle.std.proofs.Common.{length}
use Rattle.tpw_occam_code.proofs.assignments.+assign_by_words.Given as goal

abbrev pub decreases-assign_by_words : goal.decreases-assign_by_words
decreases-assign_by_words l = length l.all.now
