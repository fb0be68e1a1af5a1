use Rattle.std.proofs.Common.{arith}
use Rattle.std.proofs.lemmas.List.Elements.{All-pop}
use Rattle.tp_farm.specs.Working.{IsFresh}
use Rattle.tp_farm.proofs.Starting.{one_started}
use Rattle.tp_farm.proofs.members.start_all.Goals as goal

pub loop-links-preserved : goal.loop-links-preserved
loop-links-preserved g c =
    let was = c.loop-links.invariant in let step = c.in-Some.ensures.steps in (
      tt,
      tt,
      one_started _ _ _ _ _ _ _ _ c.in-Some-start.handle was.2 step.0 c.in-Some-start.ensures.before
          c.in-Some-start.ensures.shared c.push_reserved.ensures.items,
      (All-pop (IsFresh c.args.shared.now.stream.now) _ _ _ c.pop.ensures.items was.3).0,
      grind (arith, was.4, step.1, c.pop.ensures.len, c.in-Some-pop.is),
      omega (arith, was.5, step.1, c.push_reserved.ensures.len),
      omega (arith, was.6, c.push_reserved.ensures.len),
      omega (arith, was.7, c.push_reserved.ensures.capacity),
    )
