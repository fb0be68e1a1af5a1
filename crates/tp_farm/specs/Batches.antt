-- A batch that was run.
use Rattle.std.specs.Prelude.{◌≡◌, ℕ, ◌+◌, Bool, false, List, map, sum_by, Some, slice_get}
use Rattle.std.specs.List.{AllZip}
use Rattle.tp_link.specs.Device.{DeviceState}
use Rattle.tp_link.specs.declared.links.Link.{Link}
use Rattle.tp_link.specs.declared.links.Link.TheVariants.{Source, Sink, Trace}
use Rattle.tp_link.specs.declared.links.LinkFault.{LinkFault}
use Rattle.tp_link.specs.declared.links.Links.{Links}
use Rattle.tp_outcome.specs.Devices.{Devices, devices_of}
use Rattle.tp_collect.specs.declared.collected.Entry.{Entry}
use Rattle.tp_collect.specs.declared.collected.Entry.TheVariants as entry
use Rattle.tp_collect.specs.declared.collected.LostCause.TheVariants as cause
use Rattle.tp_collect.specs.Collected.{JobValue, IsCollected}
use Rattle.tp_farm.specs.declared.batch.Batch.{Batch}
use Rattle.tp_farm.specs.Jobs.{AreWhole}
use Rattle.tp_farm.specs.Settings.{SameSettings, failures_by}
use Rattle.tp_farm.specs.Losses.{MayLose}
use Rattle.tp_farm.specs.BatchWork.{BatchWork}

-- the device of a link, of a member's three
abbrev pub device_at : Link → Devices → DeviceState
device_at Source devices = devices.source
device_at Sink devices = devices.sink
device_at Trace devices = devices.trace

-- how often the devices of a link have failed, of all members
abbrev pub failures_at : Link → List Devices → ℕ
failures_at which all = sum_by (λ devices. (device_at which devices).faults) all

-- 1 where an entry is a failure of the link's device, else 0
abbrev pub failures_in_entry : Link → Entry → ℕ
failures_in_entry which (entry.Done done) = 0
failures_in_entry which (entry.Lost (cause.Link fault)) = failures_by which fault
failures_in_entry which (entry.Lost cause.Stopped) = 0

-- the devices of some member may have lost packet i of the batch so
pub record LostBySome (batch : JobValue) (members : List Devices) (i : ℕ) (fault : LinkFault) : Type 0 where
  pub packet : List ℕ
  pub is : slice_get batch.packets i ≡ Some packet
  pub member : ℕ
  pub devices : Devices
  pub there : slice_get members member ≡ Some devices
  pub cause : MayLose batch.image packet devices fault.link fault.code

-- What became of a batch whose members had these devices before, and have these after:
pub record IsBatch (batch : JobValue) (open_for_good : Bool) (before after : List Devices)
    (entries : List Entry) : Type 0 where
  -- each packet is as many bytes as the image states
  pub packets : AreWhole batch
  -- each result is what the run of its packet alone gives, and there is one entry for each packet
  pub collected : IsCollected batch entries
  -- the links come back in the order given, each device with its room, openness and whether it can fail
  pub settings : AllZip SameSettings before after
  -- as many entries tell of a failure of a link as its devices have failed in all
  pub failures : (which : Link)
      → failures_at which after ≡ failures_at which before + sum_by (failures_in_entry which) entries
  -- each loss by a device has its cause
  pub losses : (i : ℕ) (fault : LinkFault) → slice_get entries i ≡ Some (entry.Lost (cause.Link fault))
      → LostBySome batch before i fault
  -- a packet is lost by a stop only where the gate is not open for good
  pub stopped : (i : ℕ) → slice_get entries i ≡ Some (entry.Lost cause.Stopped) → open_for_good ≡ false

-- what became of the work of members that had these links before
abbrev pub IsBatchOver : {D : Type 0} → (D → DeviceState) → BatchWork → (before : List (Links D)) → Batch D → Type 0
IsBatchOver state work before b =
    IsBatch work.batch work.open_for_good (map (devices_of state) before) (map (devices_of state) b.links.items)
    b.collected
