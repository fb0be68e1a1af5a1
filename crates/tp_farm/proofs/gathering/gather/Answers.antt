use Rattle.std.proofs.Common.{sym, subst}
use Rattle.std.proofs.lemmas.List.Elements.{All-head, All-rest}
use Rattle.std.specs.List.{All}
use Rattle.tp_farm.specs.Gathering.{IsOfBatch}
use Rattle.tp_farm.proofs.Filing.{files_one, next_vacant}
use Rattle.tp_farm.proofs.gathering.gather.Goals as goal

pub loop-one-preserved : goal.loop-one-preserved
loop-one-preserved c =
    let was = c.loop-one.invariant in let step = c.in-Some.ensures.steps.0 in (
      tt,
      tt,
      All-rest (IsOfBatch c.args.collector.now.batch) c.in-Some.one _ _ step was.2,
      files_one _ _ _ _ _ _ _ was.3 step c.file_one.ensures,
    )

pub file_one-requires-clause-of : goal.file_one-requires-clause-of
file_one-requires-clause-of c =
    let was = c.loop-one.invariant in let step = c.in-Some.ensures.steps.0 in
    subst (λ b. IsOfBatch b c.in-Some.one) (sym was.3.batch_is)
    (All-head (IsOfBatch c.args.collector.now.batch) c.in-Some.one _
    (subst (All (IsOfBatch c.args.collector.now.batch)) step was.2))

pub file_one-requires-clause-vacant : goal.file_one-requires-clause-vacant
file_one-requires-clause-vacant c = next_vacant _ _ _ _ _ _ c.loop-one.invariant.3 c.in-Some.ensures.steps.0
