use Rattle.std.proofs.Common.{◌≡◌, ◌++◌, ◌∙◌, ap, subst}
use Rattle.std.specs.Io.KnownBytes.{Appends}
use Rattle.tpw_runs.specs.Lines.{entries_text}
use Rattle.tpw_runs.specs.Shown.{all_unshown}
use Rattle.tpw_runs.specs.Tallies.{counted, with_entries}
use Rattle.tpw_runs.proofs.Forms.{forms}
use Rattle.tpw_running.proofs.running.run_shown.Goals as goal

pub returns : goal.returns
returns g c =
    let begun = c.new-shown.ensures in
    let ran = c.in_ok-run_reported.ensures in
    let s = c.new-shown.result in
    let image = c.args.prepared.now.image in
    let entries = ran.entries in
    let all = forms s c.run_reported.new.report _ entries ran.written ran.shown in
    let first : counted s.tally ≡ 0 = ap counted begun.tally in
    let text : ran.written ≡ entries_text c.args.form image.budget 0 entries =
    all.text_is ∙ ap (λ f. entries_text f s.budget (counted s.tally) entries) begun.form_is
    ∙ ap (λ b. entries_text c.args.form b (counted s.tally) entries) (begun.budget_is ∙ c.budget.ensures.value)
    ∙ ap (λ n. entries_text c.args.form image.budget n entries) first in
    record {
      entries = entries;
      results = ran.results;
      written = subst (Appends (g.W.Write.contents c.args.writer.now) (g.W.Write.contents c.run_reported.new.writer)) text ran.appended;
      counted = all.tally ∙ ap (λ f. with_entries f s.tally entries) begun.form_is
          ∙ ap (λ t. with_entries c.args.form t entries) begun.tally;
      losses = all.losses ∙ ap (λ l. l ++ all_unshown s.form (counted s.tally) entries) begun.losses
          ∙ ap (λ f. all_unshown f (counted s.tally) entries) begun.form_is
          ∙ ap (λ n. all_unshown c.args.form n entries) first;
    }
