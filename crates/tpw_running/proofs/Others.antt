-- What a check shows of packets, in terms of what their text means.
use Rattle.std.proofs.Common.{◌≡◌, ℕ, ◌+◌, List, [], ◌∷◌, ◌++◌, ap, sym, ◌∙◌, append_assoc}
use Rattle.std.proofs.lemmas.List.{append-nil}
use Rattle.tp_collect.specs.declared.collected.Entry.{Entry}
use Rattle.tpw_occam_scoped.specs.Meaning.{meaning}
use Rattle.tpw_runs.specs.Reports.{ShowsAll}
use Rattle.tpw_runs.specs.Tallies.{counted, with_entries}
use Rattle.tpw_runs.proofs.Forms.{one_counted}
use Rattle.tpw_running.specs.declared.checking.Checking.{Checking}
use Rattle.tpw_running.specs.Checks.{other_text, other_numbers, others_text, all_others, checked_text, CheckedNext}
use Rattle.tpw_running.specs.Checks.{unexpected_numbers, all_unexpected}

-- what is shown of packets by a check, and kept of them
pub record Checks (c : Checking) (packets : List (List ℕ)) (entries : List Entry) (text : List ℕ) (d : Checking) : Type 0 where
  pub text_is : text ≡ others_text c.core.now c.style c.form c.budget (counted c.tally) packets entries
  pub others : d.others.items ≡ c.others.items ++ all_others c.core.now (counted c.tally) packets entries
  pub unexpected : d.unexpected.items ≡ c.unexpected.items ++ all_unexpected c.form (counted c.tally) entries
  pub tally : d.tally ≡ with_entries c.form c.tally entries

pub checks : (c d : Checking) (packets : List (List ℕ)) (entries : List Entry) (text : List ℕ)
    → ShowsAll checked_text CheckedNext c packets entries text d → Checks c packets entries text d
checks c d [] [] text all = record {
  text_is = all.0;
  others = ap (λ r. r.others.items) all.1 ∙ sym (append-nil c.others.items);
  unexpected = ap (λ r. r.unexpected.items) all.1 ∙ sym (append-nil c.unexpected.items);
  tally = ap (λ r. r.tally) all.1;
}
checks c d [] (e ∷ entries) text all = absurd all
checks c d (p ∷ packets) [] text all = absurd all
checks c d (p ∷ packets) (e ∷ entries) text all =
    let next = all.0 in
    let is = all.1 in
    let rest = checks next d packets entries all.2.0 all.2.2 in
    let n = counted c.tally in
    let w = c.core.now in
    let later : counted next.tally ≡ n + 1 = ap counted is.tally ∙ one_counted c.form c.tally e in
    let others : all.2.0 ≡ others_text w c.style c.form c.budget (n + 1) packets entries =
    rest.text_is
    ∙ ap (λ v. others_text v next.style next.form next.budget (counted next.tally) packets entries) is.core_is
    ∙ ap (λ s. others_text w s next.form next.budget (counted next.tally) packets entries) is.style_is
    ∙ ap (λ f. others_text w c.style f next.budget (counted next.tally) packets entries) is.form_is
    ∙ ap (λ b. others_text w c.style c.form b (counted next.tally) packets entries) is.budget_is
    ∙ ap (λ m. others_text w c.style c.form c.budget m packets entries) later in
    let numbers : all_others next.core.now (counted next.tally) packets entries ≡ all_others w (n + 1) packets entries =
    ap (λ v. all_others v (counted next.tally) packets entries) is.core_is
    ∙ ap (λ m. all_others w m packets entries) later in
    let unexpected : all_unexpected next.form (counted next.tally) entries ≡ all_unexpected c.form (n + 1) entries =
    ap (λ f. all_unexpected f (counted next.tally) entries) is.form_is
    ∙ ap (λ m. all_unexpected c.form m entries) later in
    record {
      text_is = all.2.1 ∙ ap (λ l. other_text c.style c.form c.budget n e (meaning w p) ++ l) others;
      others = rest.others ∙ ap (λ l. next.others.items ++ l) numbers ∙ ap (λ l. l ++ all_others w (n + 1) packets entries) is.others
          ∙ append_assoc c.others.items (other_numbers n e (meaning w p)) (all_others w (n + 1) packets entries);
      unexpected = rest.unexpected ∙ ap (λ l. next.unexpected.items ++ l) unexpected
          ∙ ap (λ l. l ++ all_unexpected c.form (n + 1) entries) is.unexpected
          ∙ append_assoc c.unexpected.items (unexpected_numbers c.form n e) (all_unexpected c.form (n + 1) entries);
      tally = rest.tally ∙ ap (λ f. with_entries f next.tally entries) is.form_is
          ∙ ap (λ t. with_entries c.form t entries) is.tally;
    }
