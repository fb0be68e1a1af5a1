use Rattle.bench_verifier.proofs.Joins.{joined_long}
use Rattle.bench_verifier.proofs.states.is_unchanged.Goals as goal

pub returns : goal.returns
returns c = joined_long c.join.result c.args.state.now c.args.other.now c.join.new.self c.join.ensures.value c.join.ensures.kept c.requires
