use Rattle.std.proofs.Common.{refl, sym, ◌∙◌}
use Rattle.tp_answers.specs.Sessions.{without_packets}
use Rattle.tp_answers.proofs.SessionLemmas.{placed, absent}
use Rattle.tp_session.proofs.service.Service.run.Goals as goal

pub returns-in_ok-run_at-in-Some-clause-answer : goal.returns-in_ok-run_at-in-Some-clause-answer
returns-in_ok-run_at-in-Some-clause-answer g c fit =
    let it = placed c.args.name.now.items c.args.self.now.sessions c.in-Some.index (sym c.find.ensures ∙ c.in-Some.is) in
    rw it.is_named (_, c.in_ok-run_at-in-Some.ensures.outcomes fit it.session it.there, refl)

pub returns-in_ok-run_at-in-Some-clause-sessions : goal.returns-in_ok-run_at-in-Some-clause-sessions
returns-in_ok-run_at-in-Some-clause-sessions g c =
    let it = placed c.args.name.now.items c.args.self.now.sessions c.in-Some.index (sym c.find.ensures ∙ c.in-Some.is) in
    c.in_ok-run_at-in-Some.ensures.sessions it.session it.there ∙ it.changed without_packets

pub returns-in-None-clause-answer : goal.returns-in-None-clause-answer
returns-in-None-clause-answer g c fit =
    let none = absent c.args.name.now.items c.args.self.now.sessions (sym c.find.ensures ∙ c.in-None.is) in
    rw (none.is_named) refl

pub returns-in-None-clause-sessions : goal.returns-in-None-clause-sessions
returns-in-None-clause-sessions g c =
    (absent c.args.name.now.items c.args.self.now.sessions (sym c.find.ensures ∙ c.in-None.is)).changed without_packets
