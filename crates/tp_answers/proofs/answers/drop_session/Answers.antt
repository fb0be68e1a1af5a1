use Rattle.std.proofs.Common.{refl, sym, ◌∙◌}
use Rattle.tp_answers.proofs.SessionLemmas.{placed, absent}
use Rattle.tp_answers.proofs.answers.drop_session.Goals as goal

pub returns-in_default : goal.returns-in_default
returns-in_default c =
    let none = absent c.args.name.now.items c.args.sessions.now (sym c.find.ensures ∙ c.in_default.is) in
    record { answer = rw (none.is_named) refl; sessions = none.removed }

pub returns : goal.returns
returns c =
    let it = placed c.args.name.now.items c.args.sessions.now c.in-Some.index (sym c.find.ensures ∙ c.in-Some.is) in
    record { answer = rw (it.is_named) refl; sessions = c.remove.ensures ∙ it.removed }
