use Rattle.std.proofs.Common.{refl, ap, slice_get, ◌∙◌}
use Rattle.tp_answers.specs.OpenSessions.{session_of, with_kept}
use Rattle.tp_answers.proofs.SessionLemmas.{lent_same, at_same}
use Rattle.tp_answers.proofs.sessions.Sessions.at_mut.Goals as goal

pub returns : goal.returns
returns c =
    let entries = c.self.inside.by_name.entries in (
      (refl, λ kept. lent_same entries c.args.index kept ∙ ap (λ l. with_kept l c.args.index kept) c.self.view_is),
      record {
        lends = tt;
        value = λ s there.
            at_same (λ k. k.items) session_of (λ n v. refl) entries c.args.index c.index_mut.result.now s
            c.index_mut.ensures.value (ap (λ l. slice_get l c.args.index) c.self.view_is ∙ there);
      },
    )
