-- Why a packet may be lost.
use Rattle.std.specs.Prelude.{◌≡◌, ℕ, ◌*◌, ◌<◌, min, true, false, List}
use Rattle.tp_link.specs.Device.{DeviceState}
use Rattle.tp_link.specs.declared.device.DeviceFault.{DeviceFault}
use Rattle.tp_link.specs.declared.device.DeviceFault.TheVariants.{Closed, Full, Short, Failed}
use Rattle.tp_link.specs.declared.links.Link.{Link}
use Rattle.tp_link.specs.declared.links.Link.TheVariants.{Source, Sink, Trace}
use Rattle.tp_image.specs.Image.{ImageValue}
use Rattle.tp_step.specs.Runs.{TracesMoreThan}
use Rattle.tp_outcome.specs.Devices.{Devices}
use Rattle.tp_collect.specs.DoneValue.{most_trace}

-- on its way from a packet's start a worker sends more bytes on link 1 than a trace may have, or than there is room for
abbrev pub TracesMore : ImageValue → (packet : List ℕ) → (room : ℕ) → Type 0
TracesMore image packet room = TracesMoreThan (min most_trace room) image packet

-- a device's refusal has a cause: it can fail (their counts of faults say how often devices failed); it is
-- closed; it lacks room. It never holds fewer bytes than are asked for.
abbrev pub HasCause : DeviceState → (lacks_room : Type 0) → DeviceFault → Type 0
HasCause device lacks_room Failed = device.fallible ≡ true
HasCause device lacks_room Closed = device.opened ≡ false
HasCause device lacks_room Full = lacks_room
HasCause device lacks_room Short = ⊥

-- a member's devices lose a packet: the source may have too little room for it, the sink for the result, the trace for
-- what the worker sends on link 1
abbrev pub MayLose : ImageValue → List ℕ → Devices → Link → DeviceFault → Type 0
MayLose image packet devices Source code = HasCause devices.source (devices.source.room < 4 * image.packet) code
MayLose image packet devices Sink code = HasCause devices.sink (devices.sink.room < 4 * image.result) code
MayLose image packet devices Trace code = HasCause devices.trace (TracesMore image packet devices.trace.room) code
