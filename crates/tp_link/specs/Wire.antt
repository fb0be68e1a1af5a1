-- What a wire means.
use Rattle.std.specs.Borrow.{GName}
use Rattle.tp_link.specs.Device.{DeviceState}
use Rattle.tp_link.specs.Medium.{MediumState, faultless_device}
use Rattle.tp_link.specs.declared.wire.Wire.{Wire}

-- which borrow of its medium the wire holds: its end is seen in what was borrowed
abbrev pub loan_of : Wire → GName
loan_of w = w.medium.ghost_name

abbrev pub medium_of : Wire → MediumState
medium_of w = w.medium.now

abbrev pub device_of : Wire → DeviceState
device_of w = faultless_device (medium_of w)
