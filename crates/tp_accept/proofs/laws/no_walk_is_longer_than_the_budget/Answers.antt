use Rattle.std.proofs.Math.Logic.{∥∥₁_elim}
use Rattle.std.specs.Coded.{le_prop}
use Rattle.tp_accept.proofs.WalkBound.{walk_within_budget}
use Rattle.tp_accept.proofs.laws.no_walk_is_longer_than_the_budget.Goals as goal

pub returns : goal.returns
returns c =
    λ cuts cutting counts n walk. ∥∥₁_elim c.args.accepted.now.acceptable le_prop
    (λ a. walk_within_budget c.args.accepted.now.image c.args.accepted.now.budget a cuts cutting counts n walk)
