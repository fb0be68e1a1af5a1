use Rattle.std.proofs.Common.{refl, ap, position, ◌∙◌}
use Rattle.tp_answers.specs.Sessions.{is_of}
use Rattle.tp_answers.specs.OpenSessions.{session_of}
use Rattle.tp_answers.proofs.SessionLemmas.{found_same}
use Rattle.tp_answers.proofs.sessions.Sessions.find.Goals as goal

pub returns : goal.returns
returns c =
    c.get_index_of.ensures.index ∙ found_same (λ k. k.items) session_of
    (λ n v. refl) c.args.name.now c.self.inside.by_name.entries ∙ ap (position (is_of c.args.name.now.items)) c.self.view_is
