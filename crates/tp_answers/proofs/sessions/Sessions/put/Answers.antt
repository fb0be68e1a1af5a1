use Rattle.std.proofs.Common.{refl, ap, map, ◌∙◌}
use Rattle.tp_answers.specs.Sessions.{with_session}
use Rattle.tp_answers.specs.OpenSessions.{session_of}
use Rattle.tp_answers.proofs.SessionLemmas.{put_same}
use Rattle.tp_answers.proofs.sessions.Sessions.put.Goals as goal

pub returns : goal.returns
returns c =
    ap (map (λ e. session_of e.0.items e.1)) c.in_ok-insert.ensures.entries
    ∙ put_same (λ k. k.items) session_of (λ n v. refl) c.args.name c.args.kept c.self.inside.by_name.entries
    ∙ ap (with_session (session_of c.args.name.items c.args.kept)) c.self.view_is
