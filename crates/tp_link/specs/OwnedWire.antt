-- What a wire that owns its medium means.
use Rattle.tp_link.specs.Device.{DeviceState}
use Rattle.tp_link.specs.Medium.{MediumState, faultless_device}
use Rattle.tp_link.specs.declared.owned.OwnedWire.{OwnedWire}

abbrev pub medium_of : OwnedWire → MediumState
medium_of w = w.medium

abbrev pub device_of : OwnedWire → DeviceState
device_of w = faultless_device (medium_of w)
