use Rattle.std.proofs.Common.{rules, sym, ◌∙◌, refl}
use Rattle.tp_step.proofs.SentLemmas.{result_length}
use Rattle.tp_farm.proofs.Refusals.{same_reason}
use Rattle.tp_farm.proofs.handling.handle.Goals as goal

pub receive_held-answer-requires-clause-count : goal.receive_held-answer-requires-clause-count
receive_held-answer-requires-clause-count g c =
    c.result_bytes-n.ensures.value
    ∙ sym (result_length _ _ _ (c.in_ok-outcome.ensures.given _ c.in_ok-prepare.ensures.ready c.requires.length).alone)

pub returns-in_err-traced-clause-reason : goal.returns-in_err-traced-clause-reason
returns-in_err-traced-clause-reason g c =
    let given = c.in_ok-outcome.ensures.given _ c.in_ok-prepare.ensures.ready c.requires.length in
    let reason = c.in_err-traced.ensures.reason _ _ record { run = _; alone = given.alone; is = refl } in
    search (reason, same_reason, rules)
