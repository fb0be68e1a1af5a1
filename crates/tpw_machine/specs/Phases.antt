-- How far a worker is.
use Rattle.std.specs.Prelude.{ℕ, Bool, true, false}
use Rattle.tpw_machine.specs.declared.phase.Phase.{Phase}
use Rattle.tpw_machine.specs.declared.phase.Phase.TheVariants.{BeforePacket, BeforeResult, AfterResult, Stopped}

abbrev pub phase_number : Phase → ℕ
phase_number BeforePacket = 0
phase_number BeforeResult = 1
phase_number AfterResult = 2
phase_number Stopped = 2

abbrev pub is_stopped : Phase → Bool
is_stopped BeforePacket = false
is_stopped BeforeResult = false
is_stopped AfterResult = false
is_stopped Stopped = true
