-- A run that goes on from where a machine is.
use Rattle.std.specs.Prelude.{◌≡◌, ℕ, [], Some, Result, Ok, Err}
use Rattle.tp_image.specs.Image.{ImageValue}
use Rattle.tp_link.specs.Device.{DeviceState}
use Rattle.tp_step.specs.State.{State}
use Rattle.tp_step.specs.Steps.{steps}
use Rattle.tpw_machine.specs.declared.machine.Machine.{Machine}
use Rattle.tp_outcome.specs.declared.outcome.Outcome.{Outcome}
use Rattle.tpw_machine.specs.declared.fault.RunFault.{RunFault}
use Rattle.tpw_machine.specs.declared.fault.RunFault.TheVariants as fault
use Rattle.tpw_machine.specs.declared.phase.Phase.{Phase}
use Rattle.tp_outcome.specs.Devices.{Devices, packet_of}
use Rattle.tp_outcome.specs.Answers.{start_of}
use Rattle.tpw_machine.specs.Answers.{AnsweredFrom}
use Rattle.tpw_machine.specs.Meaning.{Messages, state_of, HasExchanged}

-- in this phase, with the packet to come that the source holds; what was sent before is not counted
abbrev pub nothing_sent : ImageValue → Phase → DeviceState → Messages
nothing_sent image phase source = record { phase = phase; to_come = packet_of image source; sent = []; traced = [] }

-- n steps from a first state have led to what the machine stands for
pub record HasReached (image : ImageValue) (first : State) (before : Devices) (n : ℕ) (m : Machine) (phase : Phase)
    (now : Devices) : Type 0 where
  pub messages : Messages
  pub leads : steps image n first ≡ Some (state_of m messages)
  pub standing : HasExchanged image before phase messages now

-- where all of its steps were made, the machine stands for the state that they led to
abbrev pub HasReachedBy : ImageValue → State → (limit : ℕ) → (before after : Devices) → Machine → Phase
    → Result Outcome RunFault → Type 0
HasReachedBy image first limit before after m phase (Ok outcome) =
    HasReached image first before outcome.steps m phase after
HasReachedBy image first limit before after m phase (Err (fault.Link f)) = Unit {0}
HasReachedBy image first limit before after m phase (Err (fault.Stuck address)) = Unit {0}
HasReachedBy image first limit before after m phase (Err fault.Limit) =
    HasReached image first before limit m phase after

-- what the answer says, and where the machine is
abbrev pub Resumed : ImageValue → State → (limit : ℕ) → (before after : Devices) → Machine → Phase
    → Result Outcome RunFault → Type 0
Resumed image first limit before after m phase answer =
    AnsweredFrom image first limit before after answer × HasReachedBy image first limit before after m phase answer

-- a run from a packet's start leaves the machine where its steps have led, in some phase
abbrev pub LeavesMachine : ImageValue → (limit : ℕ) → (before after : Devices) → Machine → Result Outcome RunFault
    → Type 0
LeavesMachine image limit before after m answer =
    (phase : Phase) × HasReachedBy image (start_of image before) limit before after m phase answer
