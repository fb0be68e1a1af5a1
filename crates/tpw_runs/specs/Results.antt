-- What became of packets that were run in batches, one behind another.
use Rattle.std.specs.Prelude.{◌≡◌, ℕ, ◌≤◌, List, length, map, All, Option}
use Rattle.std.specs.List.{AllZip}
use Rattle.std.specs.Io.KnownBytes.{Appends}
use Rattle.tp_image.specs.Image.{ImageValue}
use Rattle.tp_link.specs.Device.{DeviceState}
use Rattle.tp_link.specs.declared.links.Links.{Links}
use Rattle.tp_outcome.specs.Devices.{devices_of}
use Rattle.tp_accept.specs.declared.accepted.Accepted.{Accepted}
use Rattle.tp_accept.specs.Ending.{EndsWithin}
use Rattle.tp_board.specs.Limits.{most_members}
use Rattle.tp_collect.specs.declared.collected.Entry.{Entry}
use Rattle.tp_farm.specs.Promised.{IsEntryOf, TakeAll}
use Rattle.tpw_runs.specs.declared.form.Form.{Form}
use Rattle.tpw_runs.specs.declared.report.Shown.{Shown}
use Rattle.tpw_runs.specs.Lines.{entries_text}
use Rattle.tpw_runs.specs.Reports.{ShowsAll}
use Rattle.tpw_runs.specs.Shown.{all_unshown}
use Rattle.tpw_runs.specs.Tallies.{nothing_counted, with_entries}

-- A packet's run alone ends by stopp within the budget. What became of the packet is that run's result, or a loss where
-- its trace is longer than it may be.
pub record IsResultOf (image : ImageValue) (budget : ℕ) (packet : List ℕ) (entry : Entry) : Type 0 where
  pub ends : EndsWithin image budget packet
  pub comes : IsEntryOf ends.run entry

-- so it is of each packet, in order: none is missing, and none stands twice
abbrev pub AreResults : ImageValue → ℕ → List (List ℕ) → List Entry → Type 0
AreResults image budget packets entries = AllZip (IsResultOf image budget) packets entries

-- 1 to 64 members, whose devices are open, cannot fail, and have room for packets, results and the longest trace
pub record AreReady {D : Type 0} (state : D → DeviceState) (image : ImageValue) (links : List (Links D)) : Type 0 where
  pub least : 1 ≤ length links
  pub most : length links ≤ most_members
  pub take : All (TakeAll image) (map (devices_of state) links)

-- Packets were run: a report shows them and their results, in order, and what it shows is written.
pub record HasRun {R : Type 0} (text : R → List ℕ → Entry → List ℕ) (becomes : R → List ℕ → Entry → R → Type 0)
    (image : Accepted) (packets : List (List ℕ)) (before after : Option (List ℕ)) (old new : R) : Type 0 where
  pub entries : List Entry
  pub results : AreResults image.image image.budget packets entries
  pub written : List ℕ
  pub shown : ShowsAll text becomes old packets entries written new
  pub appended : Appends before after written

-- Packets were run: what a form shows of their results, in order of number from 0, is written. They are counted, and
-- the losses of which the form shows nothing are kept.
pub record HasShown (image : Accepted) (form : Form) (packets : List (List ℕ)) (before after : Option (List ℕ))
    (shown : Shown) : Type 0 where
  pub entries : List Entry
  pub results : AreResults image.image image.budget packets entries
  pub written : Appends before after (entries_text form image.budget 0 entries)
  pub counted : shown.tally ≡ with_entries form nothing_counted entries
  pub losses : shown.unshown.items ≡ all_unshown form 0 entries
