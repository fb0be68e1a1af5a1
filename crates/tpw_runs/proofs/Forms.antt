-- What a form shows of packets, and what is counted of them.
use Rattle.std.proofs.Common.{◌≡◌, ℕ, ◌+◌, Bool, true, false, if◌then◌else◌, List, [], ◌∷◌, ◌++◌, refl, ap, sym, ◌∙◌, arith, append_assoc}
use Rattle.std.proofs.lemmas.List.{append-nil}
use Rattle.tp_collect.specs.declared.collected.Entry.{Entry}
use Rattle.tp_collect.specs.declared.collected.Entry.TheVariants as entry
use Rattle.tpw_runs.specs.declared.form.Form.{Form}
use Rattle.tpw_runs.specs.declared.report.Shown.{Shown}
use Rattle.tpw_runs.specs.declared.tally.Kind.{Kind}
use Rattle.tpw_runs.specs.declared.tally.Kind.TheVariants as kind
use Rattle.tpw_runs.specs.declared.tally.Tally.{Tally}
use Rattle.tpw_runs.specs.Lines.{entry_text, entries_text, is_other}
use Rattle.tpw_runs.specs.Reports.{ShowsAll}
use Rattle.tpw_runs.specs.Shown.{all_unshown, unshown, shown_text, ShownNext}
use Rattle.tpw_runs.specs.Tallies.{counted, kind_of, with_kind, with_steps, with_flagged, with_done, with_first, with_entry, with_entries}

-- one packet more is counted
one_kind : (k : Kind) (t : Tally) → counted (with_kind k t) ≡ counted t + 1
one_kind kind.Done t = omega arith
one_kind kind.Other t = omega arith
one_kind kind.Lost t = omega arith

same_flagged : (b : Bool) (number : ℕ) (t : Tally) → counted (with_flagged b number t) ≡ counted t
same_flagged true number t = refl
same_flagged false number t = refl

same_done : (number : ℕ) (e : Entry) (t : Tally) → counted (with_done number e t) ≡ counted t
same_done number (entry.Done done) t = same_flagged done.error number (with_steps done.steps t)
same_done number (entry.Lost cause) t = refl

same_first : (b : Bool) (number : ℕ) (t : Tally) → counted (if b then with_first number t else t) ≡ counted t
same_first true number t = refl
same_first false number t = refl

pub one_counted : (form : Form) (t : Tally) (e : Entry) → counted (with_entry form t e) ≡ counted t + 1
one_counted form t e =
    let n = counted t in
    let k = kind_of form n e in
    same_first (is_other form n e) n (with_done n e (with_kind k t)) ∙ same_done n e (with_kind k t) ∙ one_kind k t

-- what is shown of packets by a form, counted and not shown, in terms of entries alone
pub record Forms (s : Shown) (entries : List Entry) (text : List ℕ) (t : Shown) : Type 0 where
  pub text_is : text ≡ entries_text s.form s.budget (counted s.tally) entries
  pub tally : t.tally ≡ with_entries s.form s.tally entries
  pub losses : t.unshown.items ≡ s.unshown.items ++ all_unshown s.form (counted s.tally) entries

pub forms : (s t : Shown) (packets : List (List ℕ)) (entries : List Entry) (text : List ℕ)
    → ShowsAll shown_text ShownNext s packets entries text t → Forms s entries text t
forms s t [] [] text all = record {
  text_is = all.0;
  tally = ap (λ r. r.tally) all.1;
  losses = ap (λ r. r.unshown.items) all.1 ∙ sym (append-nil s.unshown.items);
}
forms s t [] (e ∷ entries) text all = absurd all
forms s t (p ∷ packets) [] text all = absurd all
forms s t (p ∷ packets) (e ∷ entries) text all =
    let next = all.0 in
    let is = all.1 in
    let rest = forms next t packets entries all.2.0 all.2.2 in
    let n = counted s.tally in
    let later : counted next.tally ≡ n + 1 = ap counted is.tally ∙ one_counted s.form s.tally e in
    let others : all.2.0 ≡ entries_text s.form s.budget (n + 1) entries =
    rest.text_is ∙ ap (λ f. entries_text f next.budget (counted next.tally) entries) is.form_is
    ∙ ap (λ b. entries_text s.form b (counted next.tally) entries) is.budget_is ∙ ap (λ m. entries_text s.form s.budget m entries) later in
    let lost : all_unshown next.form (counted next.tally) entries ≡ all_unshown s.form (n + 1) entries =
    ap (λ f. all_unshown f (counted next.tally) entries) is.form_is ∙ ap (λ m. all_unshown s.form m entries) later in
    record {
      text_is = all.2.1 ∙ ap (λ l. entry_text s.form s.budget n e ++ l) others;
      tally = rest.tally ∙ ap (λ f. with_entries f next.tally entries) is.form_is ∙ ap (λ u. with_entries s.form u entries) is.tally;
      losses = rest.losses ∙ ap (λ l. next.unshown.items ++ l) lost
          ∙ ap (λ l. l ++ all_unshown s.form (n + 1) entries) is.losses
          ∙ append_assoc s.unshown.items (unshown s.form n e) (all_unshown s.form (n + 1) entries);
    }
