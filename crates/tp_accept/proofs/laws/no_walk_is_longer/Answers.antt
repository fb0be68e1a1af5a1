use Rattle.tp_accept.proofs.WalkBound.{walk_within_bound}
use Rattle.tp_accept.proofs.laws.no_walk_is_longer.Goals as goal

pub returns : goal.returns
returns c = walk_within_bound
