-- What packets' runs give, beside what the text in occam means by the packets.
use Rattle.std.specs.Prelude.{◌≡◌, ℕ, ◌+◌, nat_eq, ◌&&◌, ◌==◌, Bool, true, false, if◌then◌else◌, List, [], ◌∷◌, ◌++◌}
use Rattle.std.specs.Prelude.{length, codes, not, nat_le, ⊤}
use Rattle.std.specs.Prelude.{Option, Some, None, slice_get}
use Rattle.std.specs.Fmt.{decimal}
use Rattle.std.specs.Str.{bytes_eq}
use Rattle.std.specs.Io.KnownBytes.{Appends}
use Rattle.tp_link.specs.declared.links.Link.{Link}
use Rattle.tp_link.specs.declared.links.Link.TheVariants as link
use Rattle.tp_link.specs.declared.device.DeviceFault.{DeviceFault}
use Rattle.tp_link.specs.declared.device.DeviceFault.TheVariants as device
use Rattle.tp_accept.specs.declared.accepted.Accepted.{Accepted}
use Rattle.tp_collect.specs.declared.collected.Entry.{Entry}
use Rattle.tp_collect.specs.declared.collected.Entry.TheVariants as entry
use Rattle.tp_collect.specs.declared.collected.LostCause.{LostCause}
use Rattle.tp_collect.specs.declared.collected.LostCause.TheVariants as cause
use Rattle.tpw_occam_core.specs.Meaning.{Meant}
use Rattle.tpw_occam_interpreter.specs.declared.workers.Given.{Given}
use Rattle.tpw_occam_scoped.specs.declared.process.Process.{Process}
use Rattle.tpw_occam_scoped.specs.Meaning.{meaning}
use Rattle.tpw_files.specs.declared.outcome.Outcome.{Outcome}
use Rattle.tpw_files.specs.declared.outcome.Outcome.TheVariants.{Good, Bad}
use Rattle.tpw_runs.specs.declared.form.Style.{Style}
use Rattle.tpw_runs.specs.declared.form.Expected.{Expected}
use Rattle.tpw_runs.specs.declared.form.Form.{Form}
use Rattle.tpw_runs.specs.declared.form.Form.TheVariants.{Lines, Differences}
use Rattle.tpw_runs.specs.Lines.{flag, message_text, trace_text, whole_line, is_other, expected_text}
use Rattle.tpw_runs.specs.Results.{AreResults}
use Rattle.tpw_runs.specs.Tallies.{counted, nothing_counted, with_entry, with_entries}
use Rattle.tpw_running.specs.declared.checking.Checking.{Checking}

abbrev pub given_value : Given → Meant
given_value given = record { result = given.result.items; flag = given.flag; traced = given.traced.items }

-- ---- lines

abbrev pub meant_head : ℕ → Bool → List ℕ
meant_head number error = decimal number ++ codes "  flag " ++ decimal (flag error) ++ codes " "

abbrev pub given_text : Style → ℕ → Meant → List ℕ
given_text style number meant =
    meant_head number meant.flag ++ message_text style meant.result ++ trace_text style meant.traced ++ codes "\n"

abbrev pub lost_text : ℕ → List ℕ
lost_text number = decimal number ++ codes "  LOST  its trace has more than 256 bytes\n"

-- what a text means by the packet of a number
abbrev pub meant_text : Style → ℕ → Option Meant → List ℕ
meant_text style number (Some meant) = given_text style number meant
meant_text style number None = lost_text number

-- ---- differences

-- a device refused more bytes of a trace than there is room for
abbrev pub is_long_trace : Link → DeviceFault → Bool
is_long_trace link.Trace device.Full = true
is_long_trace l fault = false

abbrev pub is_for_trace : LostCause → Bool
is_for_trace (cause.Link refused) = is_long_trace refused.link refused.code
is_for_trace cause.Stopped = false

-- a run gives what the text means: the result, the error flag and the trace, or a loss for the trace
abbrev pub is_meant : Entry → Option Meant → Bool
is_meant (entry.Done done) (Some meant) =
    bytes_eq done.result meant.result && nat_eq (flag done.error) (flag meant.flag) && bytes_eq done.trace meant.traced
is_meant (entry.Lost cause) None = is_for_trace cause
is_meant e meant = false

-- what the text means by a packet that has something else
abbrev pub meaning_text : Style → ℕ → Entry → Option Meant → List ℕ
meaning_text style number e meant =
    if is_meant e meant then [] else codes "  the text means\n" ++ meant_text style number meant

-- what is expected of a packet, where a form says that
abbrev pub expected_of : Form → (number : ℕ) → List ℕ
expected_of (Differences style expected) number = expected_text style (slice_get expected.now number)
expected_of form number = []

-- what is expected of a packet that has something else
abbrev pub wanted_text : Form → (number : ℕ) → Entry → List ℕ
wanted_text form number e = if is_other form number e then expected_of form number else []

-- of a packet that has something else than the text means, or than is expected: what it has, and that
abbrev pub other_text : Style → Form → (budget number : ℕ) → Entry → Option Meant → List ℕ
other_text style form budget number e meant =
    if is_meant e meant && not (is_other form number e) then []
    else whole_line style budget number e ++ meaning_text style number e meant ++ wanted_text form number e

abbrev pub other_numbers : (number : ℕ) → Entry → Option Meant → List ℕ
other_numbers number e meant = if is_meant e meant then [] else number ∷ []

abbrev pub unexpected_numbers : Form → (number : ℕ) → Entry → List ℕ
unexpected_numbers form number e = if is_other form number e then number ∷ [] else []

-- of packets, the first of which has a number
abbrev pub others_text : Process → Style → Form → (budget number : ℕ) → List (List ℕ) → List Entry → List ℕ
others_text core style form budget number (packet ∷ packets) (e ∷ entries) =
    other_text style form budget number e (meaning core packet)
    ++ others_text core style form budget (number + 1) packets entries
others_text core style form budget number packets entries = []

-- the numbers of those that have something else than the text means
abbrev pub all_others : Process → (number : ℕ) → List (List ℕ) → List Entry → List ℕ
all_others core number (packet ∷ packets) (e ∷ entries) =
    other_numbers number e (meaning core packet) ++ all_others core (number + 1) packets entries
all_others core number packets entries = []

-- the numbers of those that have something else than is expected
abbrev pub all_unexpected : Form → (number : ℕ) → List Entry → List ℕ
all_unexpected form number [] = []
all_unexpected form number (e ∷ entries) =
    unexpected_numbers form number e ++ all_unexpected form (number + 1) entries

-- ---- the check, packet by packet

pub record IsNothingChecked (core : Process) (style : Style) (form : Form) (budget : ℕ) (c : Checking) : Type 0 where
  pub core_is : c.core.now ≡ core
  pub style_is : c.style ≡ style
  pub form_is : c.form ≡ form
  pub budget_is : c.budget ≡ budget
  pub tally : c.tally ≡ nothing_counted
  pub others : c.others.items ≡ []
  pub unexpected : c.unexpected.items ≡ []

abbrev pub checked_count : Checking → ℕ
checked_count c = counted c.tally

abbrev pub checked_text : Checking → List ℕ → Entry → List ℕ
checked_text c packet e = other_text c.style c.form c.budget (counted c.tally) e (meaning c.core.now packet)

-- one packet more is checked
pub record CheckedNext (c : Checking) (packet : List ℕ) (e : Entry) (d : Checking) : Type 0 where
  pub core_is : d.core.now ≡ c.core.now
  pub style_is : d.style ≡ c.style
  pub form_is : d.form ≡ c.form
  pub budget_is : d.budget ≡ c.budget
  pub tally : d.tally ≡ with_entry c.form c.tally e
  pub others : d.others.items ≡ c.others.items ++ other_numbers (counted c.tally) e (meaning c.core.now packet)
  pub unexpected : d.unexpected.items ≡ c.unexpected.items ++ unexpected_numbers c.form (counted c.tally) e

-- Packets were run: of each that has something else than the text means, or than is expected, and of no other, what it
-- has and that are written, and its number is kept. All are counted.
pub record HasChecked (image : Accepted) (core : Process) (style : Style) (form : Form) (packets : List (List ℕ))
    (before after : Option (List ℕ)) (c : Checking) : Type 0 where
  pub entries : List Entry
  pub results : AreResults image.image image.budget packets entries
  pub written : Appends before after (others_text core style form image.budget 0 packets entries)
  pub others : c.others.items ≡ all_others core 0 packets entries
  pub unexpected : c.unexpected.items ≡ all_unexpected form 0 entries
  pub counted : c.tally ≡ with_entries form nothing_counted entries

-- a form has the results that are expected, where there are such
abbrev pub IsFormOf : Option (List Expected) → Form → Type 0
IsFormOf None (Lines style) = ⊤
IsFormOf (Some expected) (Differences style results) = results.now ≡ expected
IsFormOf expected form = ⊥

-- of a number of packets each result that is expected has one
abbrev pub has_packets : Option (List Expected) → ℕ → Bool
has_packets None packets = true
has_packets (Some expected) packets = nat_le (length expected) packets

-- Packets were run, and the check is good where each has what the text means, and what is expected where that is said.
pub record IsChecked (image : Accepted) (core : Process) (expected : Option (List Expected)) (packets : List (List ℕ))
    (outcome : Outcome) : Type 0 where
  pub entries : List Entry
  pub results : AreResults image.image image.budget packets entries
  pub form : Form
  pub form_is : IsFormOf expected form
  pub outcome_is : outcome ≡ (if ((length (all_others core 0 packets entries) == 0)
      && (length (all_unexpected form 0 entries) == 0)) && has_packets expected (length packets) then Good else Bad)
