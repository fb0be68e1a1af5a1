use Rattle.std.proofs.Common.{arith, sym, subst}
use Rattle.std.proofs.lemmas.List.Elements.{All-head, All-rest}
use Rattle.std.specs.List.{All}
use Rattle.tp_farm.specs.Gathering.{IsOfBatch}
use Rattle.tp_farm.proofs.Filing.{files_all, first_vacant, moved}
use Rattle.tp_farm.proofs.gathering.gather_all.Goals as goal

pub loop-one-preserved : goal.loop-one-preserved
loop-one-preserved g c =
    let was = c.loop-one.invariant in let step = c.in-Some.ensures.steps in (
      tt,
      tt,
      All-rest (λ k. All (IsOfBatch c.args.collector.now.batch) k.filed.items) c.in-Some.one _ _ step.0 was.2,
      files_all (λ k. k.filed.items) _ _ _ _ _ _ _ was.3 step.0 c.gather.ensures,
      omega (arith, was.4, step.1, c.push_reserved.ensures.len, c.push_reserved.ensures.capacity),
      moved (λ k. k.links) _ _ _ c.in-Some.one _ _ c.push_reserved.ensures.items step.0 was.5,
    )

pub gather-requires-clause-of : goal.gather-requires-clause-of
gather-requires-clause-of g c =
    let was = c.loop-one.invariant in let step = c.in-Some.ensures.steps.0 in
    subst (λ b. All (IsOfBatch b) c.in-Some.one.filed.items) (sym was.3.batch_is)
    (All-head (λ k. All (IsOfBatch c.args.collector.now.batch) k.filed.items) c.in-Some.one _
    (subst (All (λ k. All (IsOfBatch c.args.collector.now.batch) k.filed.items)) step was.2))

pub gather-requires-clause-vacant : goal.gather-requires-clause-vacant
gather-requires-clause-vacant g c = first_vacant (λ k. k.filed.items) _ _ _ _ _ _ c.loop-one.invariant.3 c.in-Some.ensures.steps.0
