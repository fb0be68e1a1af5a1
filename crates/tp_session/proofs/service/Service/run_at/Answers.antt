use Rattle.std.proofs.Common.{slice_set, ap, ◌∙◌}
use Rattle.tp_answers.proofs.SessionLemmas.{kept_as, forgot}
use Rattle.tp_session.proofs.service.Service.run_at.Goals as goal

pub returns-clause-outcomes : goal.returns-clause-outcomes
returns-clause-outcomes g c fit s there =
    c.in_ok-outcomes.ensures.outcomes fit s (c.at_mut-session.ensures.value s there)

pub returns-clause-sessions : goal.returns-clause-sessions
returns-clause-sessions g c s there =
    let sessions = c.args.self.now.sessions in
    kept_as sessions c.args.index s c.forget.new.self there
    ∙ ap (slice_set sessions c.args.index)
    (forgot s c.at_mut-session.result.now c.forget.new.self (c.at_mut-session.ensures.value s there) c.forget.ensures.image
    c.forget.ensures.packets)
