-- What contracts see of a medium, and of a device that leads to one.
use Rattle.std.specs.Prelude.{ℕ, Bool, true, false, List, []}
use Rattle.tp_link.specs.Device.{DeviceState}

-- the bytes that it holds, oldest first, the most that it can hold, whether the device to it is
-- open, and whether the last device to it has ended
pub record MediumState : Type 0 where
  pub bytes : List ℕ
  pub room : ℕ
  pub opened : Bool
  pub ended : Bool

-- a medium of some room to which no device has led yet
abbrev pub empty_medium : ℕ → MediumState
empty_medium room = record { bytes = []; room = room; opened = false; ended = false }

abbrev pub with_bytes : MediumState → List ℕ → MediumState
with_bytes m bytes = record m { bytes = bytes }

-- a medium to which a new device leads
abbrev pub wired : MediumState → MediumState
wired m = record m { opened = true; ended = false }

-- a medium whose device has ended
abbrev pub unwired : MediumState → MediumState
unwired m = record m { opened = false; ended = true }

-- what a device that leads to the medium means
abbrev pub device_over : MediumState → ℕ → Bool → DeviceState
device_over m faults fallible = record {
  held = m.bytes;
  room = m.room;
  opened = m.opened;
  faults = faults;
  fallible = fallible;
}

-- a device to the medium that never fails
abbrev pub faultless_device : MediumState → DeviceState
faultless_device m = device_over m 0 false
