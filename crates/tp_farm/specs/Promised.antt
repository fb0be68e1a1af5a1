-- What is promised of a batch of accepted code.
use Rattle.std.specs.Prelude.{◌≡◌, ℕ, ◌*◌, ◌<◌, ◌≤◌, true, false, List, length, Some, slice_get}
use Rattle.tp_link.specs.Device.{DeviceState}
use Rattle.tp_link.specs.declared.device.DeviceFault.TheVariants.{Full}
use Rattle.tp_link.specs.declared.links.Link.TheVariants.{Trace}
use Rattle.tp_image.specs.Image.{ImageValue}
use Rattle.tp_step.specs.Runs.{Run}
use Rattle.tp_accept.specs.Ending.{EndsWithin}
use Rattle.tp_outcome.specs.Devices.{Devices}
use Rattle.tp_collect.specs.declared.collected.Entry.{Entry}
use Rattle.tp_collect.specs.declared.collected.Entry.TheVariants as entry
use Rattle.tp_collect.specs.declared.collected.LostCause.TheVariants as cause
use Rattle.tp_collect.specs.Collected.{JobValue}
use Rattle.tp_collect.specs.DoneValue.{run_of_done, most_trace}

-- ---- over any devices, and under any gate

-- a collected result is what a run gives: its result, its flag, its steps, its trace
abbrev pub GivesRun : Run → Entry → Type 0
GivesRun run (entry.Done done) = run_of_done done ≡ run
GivesRun run (entry.Lost cause) = Unit {0}

-- The run of packet i alone ends by stopp within the budget, with a result of the stated length, and no state on its
-- way is stuck. The packet has an entry; where that is a result, it is what this run gives.
pub record IsPromised (batch : JobValue) (budget : ℕ) (entries : List Entry) (i : ℕ) (packet : List ℕ) : Type 0 where
  pub ends : EndsWithin batch.image budget packet
  pub entry : Entry
  pub there : slice_get entries i ≡ Some entry
  pub gives : GivesRun ends.run entry

-- so it is of each packet
abbrev pub GoesWell : JobValue → (budget : ℕ) → List Entry → Type 0
GoesWell batch budget entries =
    (i : ℕ) (packet : List ℕ) → slice_get batch.packets i ≡ Some packet → IsPromised batch budget entries i packet

-- ---- over devices that do their work, under a gate that is open for good

-- it is open and cannot fail, and has room for this many bytes
pub record Takes (n : ℕ) (device : DeviceState) : Type 0 where
  pub opened : device.opened ≡ true
  pub sure : device.fallible ≡ false
  pub room : n ≤ device.room

-- a member's devices take a packet, a result, and the longest trace
pub record TakeAll (image : ImageValue) (devices : Devices) : Type 0 where
  pub source : Takes (4 * image.packet) devices.source
  pub sink : Takes (4 * image.result) devices.sink
  pub trace : Takes most_trace devices.trace

-- the outcome of a run: its result, or where its trace is longer than it may be, a loss for want of room in the trace
abbrev pub IsEntryOf : Run → Entry → Type 0
IsEntryOf run (entry.Done done) = (run_of_done done ≡ run) × (length run.trace ≤ most_trace)
IsEntryOf run (entry.Lost (cause.Link fault)) =
    (fault ≡ record { link = Trace; code = Full }) × (most_trace < length run.trace)
IsEntryOf run (entry.Lost cause.Stopped) = ⊥

-- packet i has the outcome of its run alone
pub record IsComplete (batch : JobValue) (budget : ℕ) (entries : List Entry) (i : ℕ) (packet : List ℕ) : Type 0 where
  pub ends : EndsWithin batch.image budget packet
  pub entry : Entry
  pub there : slice_get entries i ≡ Some entry
  pub comes : IsEntryOf ends.run entry

-- so does each packet
abbrev pub LosesLongTracesAlone : JobValue → (budget : ℕ) → List Entry → Type 0
LosesLongTracesAlone batch budget entries =
    (i : ℕ) (packet : List ℕ) → slice_get batch.packets i ≡ Some packet → IsComplete batch budget entries i packet
