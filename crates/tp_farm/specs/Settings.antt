-- What a member keeps of its devices while it handles packets.
use Rattle.std.specs.Prelude.{◌≡◌, ℕ, ◌+◌, ◌*◌, Err}
use Rattle.tp_link.specs.Device.{DeviceState, failures}
use Rattle.tp_link.specs.declared.links.Link.{Link}
use Rattle.tp_link.specs.declared.links.Link.TheVariants.{Source, Sink, Trace}
use Rattle.tp_link.specs.declared.links.LinkFault.{LinkFault}
use Rattle.tp_outcome.specs.Devices.{Devices}

-- room, openness and whether it can fail are the same
pub record SameDevice (before after : DeviceState) : Type 0 where
  pub room : after.room ≡ before.room
  pub opened : after.opened ≡ before.opened
  pub fallible : after.fallible ≡ before.fallible

-- those of each device are the same
pub record SameSettings (before after : Devices) : Type 0 where
  pub source : SameDevice before.source after.source
  pub sink : SameDevice before.sink after.sink
  pub trace : SameDevice before.trace after.trace

-- 1 where they are the same link, else 0
abbrev pub same_link : Link → Link → ℕ
same_link Source Source = 1
same_link Sink Sink = 1
same_link Trace Trace = 1
same_link one other = 0

-- how often the device of a link failed, by a refusal: once where it answered K4, else never
abbrev pub failures_by : Link → LinkFault → ℕ
failures_by which fault = same_link which fault.link * failures (Err fault.code)

-- each device's count of faults rose by its link's number
pub record Rises (before after : Devices) (n : Link → ℕ) : Type 0 where
  pub source : after.source.faults ≡ before.source.faults + n Source
  pub sink : after.sink.faults ≡ before.sink.faults + n Sink
  pub trace : after.trace.faults ≡ before.trace.faults + n Trace
