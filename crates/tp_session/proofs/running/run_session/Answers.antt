use Rattle.std.proofs.Common.{List, Option, map, sym, subst}
use Rattle.std.specs.List.{AllZip}
use Rattle.tp_answers.specs.Results.{RunResult}
use Rattle.tp_answers.specs.Rules.{IsOutcome}
use Rattle.tp_session.proofs.RunLemmas.{may_begin, kept_whole, kept_few, of_kept}
use Rattle.tp_session.proofs.running.run_session.Goals as goal

pub run_on_enough-requires-clause-begins : goal.run_on_enough-requires-clause-begins
run_on_enough-requires-clause-begins g c κs within members least most =
    let kept = c.args.session.now in
    may_begin members record { number = c.args.batch; image = kept.image.image; packets = map (λ p. p.items) c.deref.result.now }
    least most (kept_few kept c.deref.result.now c.deref.ensures.value)
    (kept_whole kept c.deref.result.now c.deref.ensures.value)

pub returns-clause-outcomes : goal.returns-clause-outcomes
returns-clause-outcomes g c fit s is =
    let outcomes =
    of_kept c.args.session.now c.deref.result.now c.in_ok-collected.collected s c.deref.ensures.value is
    (c.in_ok-collected.ensures.outcomes fit) in
    subst (λ (os : List (Option RunResult)). AllZip (IsOutcome s.image) s.packets os) (sym c.in_ok-new.ensures) outcomes
