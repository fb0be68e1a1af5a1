-- Packets, counted by what became of them.
use Rattle.std.specs.Prelude.{ℕ, ◌+◌, Bool, true, false, min, max, if◌then◌else◌, List, [], ◌∷◌, Option, Some, None}
use Rattle.std.specs.Option.{unwrap_or}
use Rattle.tp_collect.specs.declared.collected.Entry.{Entry}
use Rattle.tp_collect.specs.declared.collected.Entry.TheVariants as entry
use Rattle.tpw_runs.specs.Lines.{is_other}
use Rattle.tpw_runs.specs.declared.form.Form.{Form}
use Rattle.tpw_runs.specs.declared.tally.Kind.{Kind}
use Rattle.tpw_runs.specs.declared.tally.Kind.TheVariants as kind
use Rattle.tpw_runs.specs.declared.tally.StepRange.{StepRange}
use Rattle.tpw_runs.specs.declared.tally.Tally.{Tally}

abbrev pub widened : Option StepRange → ℕ → StepRange
widened None steps = record { least = steps; most = steps }
widened (Some range) steps = record { least = min range.least steps; most = max range.most steps }

abbrev pub nothing_counted : Tally
nothing_counted = record { done = 0; other = 0; lost = 0; steps = None; first = None; flagged = None }

-- how many packets are counted
abbrev pub counted : Tally → ℕ
counted tally = tally.done + tally.other + tally.lost

-- a packet of a kind is counted
abbrev pub with_kind : Kind → Tally → Tally
with_kind kind.Done tally = record tally { done = tally.done + 1 }
with_kind kind.Other tally = record tally { other = tally.other + 1 }
with_kind kind.Lost tally = record tally { lost = tally.lost + 1 }

abbrev pub with_steps : ℕ → Tally → Tally
with_steps steps tally = record tally { steps = Some (widened tally.steps steps) }

-- the packet of a number has not the result that is expected: the first such one is kept
abbrev pub with_first : (number : ℕ) → Tally → Tally
with_first number tally = record tally { first = Some (unwrap_or tally.first number) }

-- the kind of the packet of a number, by what became of it
abbrev pub kind_of : Form → (number : ℕ) → Entry → Kind
kind_of form number (entry.Done done) = if is_other form number (entry.Done done) then kind.Other else kind.Done
kind_of form number (entry.Lost cause) = kind.Lost

-- the packet of a number has its error flag set, or not: the first such one is kept
abbrev pub with_flagged : Bool → (number : ℕ) → Tally → Tally
with_flagged true number tally = record tally { flagged = Some (unwrap_or tally.flagged number) }
with_flagged false number tally = tally

-- the steps and the error flag of a packet that has a result
abbrev pub with_done : (number : ℕ) → Entry → Tally → Tally
with_done number (entry.Done done) tally = with_flagged done.error number (with_steps done.steps tally)
with_done number (entry.Lost cause) tally = tally

-- what became of the next packet is counted, whose number is how many came before
abbrev pub with_entry : Form → Tally → Entry → Tally
with_entry form tally e =
    let number = counted tally in
    let more = with_done number e (with_kind (kind_of form number e) tally) in
    if is_other form number e then with_first number more else more

-- what became of packets is counted, one after another
abbrev pub with_entries : Form → Tally → List Entry → Tally
with_entries form tally [] = tally
with_entries form tally (e ∷ entries) = with_entries form (with_entry form tally e) entries
