use Rattle.std.proofs.Common.{sym, ◌∙◌}
use Rattle.tp_answers.proofs.SessionLemmas.{placed}
use Rattle.tp_answers.proofs.sessions.Sessions.set.Goals as goal

pub returns-in-Some : goal.returns-in-Some
returns-in-Some c =
    (placed c.args.name.items c.args.self.now c.in-Some.index (sym c.requires ∙ c.in-Some.is)).replaced c.args.kept
