-- What the handling of a packet answers.
use Rattle.std.specs.Prelude.{ℕ, List, Result, Ok, Err}
use Rattle.tp_link.specs.declared.device.DeviceFault.{DeviceFault}
use Rattle.tp_link.specs.declared.links.Link.{Link}
use Rattle.tp_link.specs.declared.links.LinkFault.{LinkFault}
use Rattle.tp_image.specs.Image.{ImageValue}
use Rattle.tp_outcome.specs.Devices.{Devices}
use Rattle.tp_farm.specs.Settings.{Rises, failures_by}
use Rattle.tp_farm.specs.Losses.{MayLose}

-- a device's answer, with its link
abbrev pub on_link : {A : Type 0} → Link → Result A DeviceFault → Result A LinkFault
on_link which (Ok x) = Ok x
on_link which (Err code) = Err record { link = which; code = code }

-- why a packet has no result: by a device alone, since the worker of an accepted image is never stuck and ends in time
abbrev pub HasReason : ImageValue → List ℕ → Devices → LinkFault → Type 0
HasReason image packet devices fault = MayLose image packet devices fault.link fault.code

-- how often the device of a link failed in a handling
abbrev pub failures_in : {A : Type 0} → Link → Result A LinkFault → ℕ
failures_in which (Ok x) = 0
failures_in which (Err fault) = failures_by which fault

-- each device's count of faults rose by that
abbrev pub RisesIn : {A : Type 0} → Result A LinkFault → (before after : Devices) → Type 0
RisesIn result before after = Rises before after (λ which. failures_in which result)
