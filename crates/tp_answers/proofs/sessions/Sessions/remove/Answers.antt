use Rattle.std.proofs.Common.{rules, refl, ap, map, remove, ◌∙◌}
use Rattle.tp_answers.specs.OpenSessions.{session_of}
use Rattle.tp_answers.proofs.SessionLemmas.{remove_same}
use Rattle.tp_answers.proofs.sessions.Sessions.remove.Goals as goal

pub returns : goal.returns
returns c =
    ap (map (λ e. session_of e.0.items e.1)) (search rules) ∙ remove_same (λ k. k.items) session_of (λ n v. refl)
    c.self.inside.by_name.entries c.args.index ∙ ap (λ l. remove l c.args.index) c.self.view_is
