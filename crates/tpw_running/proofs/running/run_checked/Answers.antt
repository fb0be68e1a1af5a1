use Rattle.std.proofs.Common.{◌≡◌, ◌++◌, ◌∙◌, List, ℕ, ap, subst, map}
use Rattle.std.specs.Io.KnownBytes.{Appends}
use Rattle.tpw_runs.specs.Tallies.{counted, with_entries}
use Rattle.tpw_running.specs.Checks.{all_others, all_unexpected, others_text}
use Rattle.tpw_running.proofs.Others.{checks}
use Rattle.tpw_running.proofs.running.run_checked.Goals as goal

pub returns : goal.returns
returns g c =
    let begun = c.new-checking.ensures in
    let ran = c.in_ok-run_reported.ensures in
    let s = c.new-checking.result in
    let meaning = c.args.core.now in
    let style = c.args.style in
    let form = c.args.form in
    let image = c.args.prepared.now.image in
    let packets : List (List ℕ) = map (λ p. p.items) c.args.prepared.now.packets.items in
    let entries = ran.entries in
    let all = checks s c.run_reported.new.report packets entries ran.written ran.shown in
    let first : counted s.tally ≡ 0 = ap counted begun.tally in
    let text : ran.written ≡ others_text meaning style form image.budget 0 packets entries =
    all.text_is ∙ ap (λ w. others_text w s.style s.form s.budget (counted s.tally) packets entries) begun.core_is
    ∙ ap (λ y. others_text meaning y s.form s.budget (counted s.tally) packets entries) begun.style_is
    ∙ ap (λ f. others_text meaning style f s.budget (counted s.tally) packets entries) begun.form_is
    ∙ ap (λ b. others_text meaning style form b (counted s.tally) packets entries) (begun.budget_is ∙ c.budget.ensures.value)
    ∙ ap (λ n. others_text meaning style form image.budget n packets entries) first in
    record {
      entries = entries;
      results = ran.results;
      written = subst (Appends (g.W.Write.contents c.args.writer.now) (g.W.Write.contents c.run_reported.new.writer)) text ran.appended;
      others = all.others ∙ ap (λ l. l ++ all_others s.core.now (counted s.tally) packets entries) begun.others
          ∙ ap (λ w. all_others w (counted s.tally) packets entries) begun.core_is
          ∙ ap (λ n. all_others meaning n packets entries) first;
      unexpected = all.unexpected ∙ ap (λ l. l ++ all_unexpected s.form (counted s.tally) entries) begun.unexpected
          ∙ ap (λ f. all_unexpected f (counted s.tally) entries) begun.form_is
          ∙ ap (λ n. all_unexpected form n entries) first;
      counted = all.tally ∙ ap (λ f. with_entries f s.tally entries) begun.form_is
          ∙ ap (λ t. with_entries form t entries) begun.tally;
    }
