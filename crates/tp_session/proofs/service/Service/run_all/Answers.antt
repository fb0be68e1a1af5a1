use Rattle.std.proofs.Common.{◌≡◌, ◌<◌, Some, List, length, take, slice_get, slice_set, sym, ap, subst, ◌∙◌, add-one, arith}
use Rattle.std.specs.List.{AllZip, each_same}
use Rattle.tp_answers.specs.Sessions.{Session, without_packets}
use Rattle.tp_answers.specs.Rules.{IsOutcome}
use Rattle.tp_answers.specs.Answers.{IsRun}
use Rattle.tp_session.proofs.ServiceLemmas.{there, one_more, partly, partly_at, partly_more}
use Rattle.tp_session.proofs.service.Service.run_all.Goals as goal

pub loop-index-preserved : goal.loop-index-preserved
loop-index-preserved g c =
    let was = c.loop-index.invariant in
    let all = c.args.self.now.sessions in
    let i = c.loop-index.index in
    let within : i < length all = omega (arith, c.loop-index-test.true, c.len-index-end.ensures) in
    let at = there all i within in
    let s = at.0 in
    let now_at : slice_get c.loop-index.self.sessions i ≡ Some s =
    ap (λ l. slice_get l i) was.forgotten ∙ partly_at all i s at.1 in
    let run = c.in_ok-outcomes.ensures.sessions s now_at ∙ ap (λ l. slice_set l i (without_packets s)) was.forgotten in
    let name = c.name_at.ensures s now_at in
    record {
      stays =
          record {
            members = c.in_ok-outcomes.ensures.stays.members ∙ was.stays.members;
            fit = λ fit. c.in_ok-outcomes.ensures.stays.fit (was.stays.fit fit);
            trace = c.in_ok-outcomes.ensures.stays.trace ∙ was.stays.trace;
          };
      runs = λ fit.
          let outcomes = c.in_ok-outcomes.ensures.outcomes (was.stays.fit fit) s now_at in
          let more =
          one_more (IsRun IsOutcome) all c.loop-index.all i s (c.in_ok-name.name.items, c.in_ok-outcomes.outcomes) at.1
          (was.runs fit) (each_same _ _ c.in_ok-name.ensures.cases ∙ sym name, outcomes) in
          subst (λ (l : List Session). AllZip (IsRun IsOutcome) l c.push.new.self) (ap (λ n. take n all) (sym (add-one i)))
          (rw c.in_ok-push.ensures more);
      forgotten = run ∙ partly_more all i s at.1 ∙ ap (partly all) (sym (add-one i));
    }
