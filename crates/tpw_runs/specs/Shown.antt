-- What is shown of packets in a form, and counted.
use Rattle.std.specs.Prelude.{◌≡◌, ℕ, ◌+◌, List, [], ◌∷◌, ◌++◌}
use Rattle.tp_collect.specs.declared.collected.Entry.{Entry}
use Rattle.tp_collect.specs.declared.collected.Entry.TheVariants as entry
use Rattle.tpw_runs.specs.declared.form.Form.{Form}
use Rattle.tpw_runs.specs.declared.form.Form.TheVariants.{Raw}
use Rattle.tpw_runs.specs.declared.report.Loss.{Loss}
use Rattle.tpw_runs.specs.declared.report.Shown.{Shown}
use Rattle.tpw_runs.specs.Lines.{entry_text}
use Rattle.tpw_runs.specs.Tallies.{counted, nothing_counted, with_entry}

-- the loss of the packet of a number, if a form shows nothing of it
abbrev pub unshown : Form → (number : ℕ) → Entry → List Loss
unshown Raw number (entry.Lost cause) = record { number = number; cause = cause } ∷ []
unshown form number e = []

-- of packets, the first of which has a number
abbrev pub all_unshown : Form → (number : ℕ) → List Entry → List Loss
all_unshown form number [] = []
all_unshown form number (e ∷ entries) = unshown form number e ++ all_unshown form (number + 1) entries

pub record IsNothingShown (form : Form) (budget : ℕ) (s : Shown) : Type 0 where
  pub form_is : s.form ≡ form
  pub budget_is : s.budget ≡ budget
  pub tally : s.tally ≡ nothing_counted
  pub losses : s.unshown.items ≡ []

abbrev pub shown_count : Shown → ℕ
shown_count s = counted s.tally

abbrev pub shown_text : Shown → List ℕ → Entry → List ℕ
shown_text s packet e = entry_text s.form s.budget (counted s.tally) e

-- one packet more is shown
pub record ShownNext (s : Shown) (packet : List ℕ) (e : Entry) (t : Shown) : Type 0 where
  pub form_is : t.form ≡ s.form
  pub budget_is : t.budget ≡ s.budget
  pub tally : t.tally ≡ with_entry s.form s.tally e
  pub losses : t.unshown.items ≡ s.unshown.items ++ unshown s.form (counted s.tally) e
