use Rattle.std.proofs.Common.{length}
use Rattle.tpw_occam_resolving.proofs.cases.+contains.Given as goal

abbrev pub decreases-contains : goal.decreases-contains
decreases-contains l = length l.words.now
