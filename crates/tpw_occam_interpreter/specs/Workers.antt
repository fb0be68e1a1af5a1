-- What is given of a packet.
use Rattle.std.specs.Prelude.{◌≡◌, Option, Some, None}
use Rattle.tpw_occam_interpreter.specs.declared.workers.Given.{Given}
use Rattle.tpw_occam_core.specs.Meaning.{Meant}

-- this is given: nothing, or a result, the flag and the traces
abbrev pub IsGiven : Option Meant → Option Given → Type 0
IsGiven meant None = meant ≡ None
IsGiven meant (Some g) = meant ≡ Some (record { result = g.result.items; flag = g.flag; traced = g.traced.items })
