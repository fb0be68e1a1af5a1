-- What serving asks of the devices that it is lent.
use Rattle.std.specs.Prelude.{◌≡◌, ◌≤◌, List, length, map, All}
use Rattle.tp_link.specs.Device.{DeviceState}
use Rattle.tp_link.specs.declared.links.Links.{Links}
use Rattle.tp_outcome.specs.Devices.{Devices, devices_of}
use Rattle.tp_board.specs.Limits.{most_members}
use Rattle.tp_collect.specs.DoneValue.{most_trace}
use Rattle.tp_farm.specs.Promised.{Takes}

-- A member's three devices are open and cannot fail, with room for the longest trace; no packet and no result is
-- longer.
pub record AreFitOf (devices : Devices) : Type 0 where
  pub source : Takes most_trace devices.source
  pub sink : Takes most_trace devices.sink
  pub trace : Takes most_trace devices.trace

-- those of all members are
abbrev pub AreFit : {D : Type 0} → (D → DeviceState) → List (Links D) → Type 0
AreFit state links = All AreFitOf (map (devices_of state) links)

-- 1 to 64 members
pub record HasMembers {D : Type 0} (links : List (Links D)) : Type 0 where
  pub least : 1 ≤ length links
  pub most : length links ≤ most_members

-- as many members after as before
abbrev pub AreAsMany : {D : Type 0} → (before after : List (Links D)) → Type 0
AreAsMany before after = length after ≡ length before
