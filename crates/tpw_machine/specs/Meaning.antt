-- The state that a machine stands for, and how a method's effect on the machine is one on states.
use Rattle.std.specs.Prelude.{◌≡◌, ℕ, ◌*◌, ◌-◌, Bool, true, false, nat_le, if◌then◌else◌, List, length, Option, Some}
use Rattle.std.specs.Prelude.{None, slice_index, slice_index_or}
use Rattle.tp_image.specs.Image.{ImageValue}
use Rattle.tp_step.specs.Memory.{Memory}
use Rattle.tp_step.specs.State.{State, mem_start}
use Rattle.tpw_machine.specs.declared.machine.Machine.{Machine}
use Rattle.tpw_machine.specs.declared.phase.Phase.{Phase}
use Rattle.tpw_machine.specs.declared.phase.Phase.TheVariants.{BeforePacket}
use Rattle.tpw_machine.specs.Phases.{phase_number, is_stopped}
use Rattle.tpw_machine.specs.declared.turn.Turn.{Turn}
use Rattle.tpw_machine.specs.declared.turn.Turn.TheVariants as turn
use Rattle.tp_outcome.specs.Devices.{Devices, packet_of, Took, Gave}
use Rattle.tp_outcome.specs.Answers.{RefusedAt}

-- the workspace's bytes, each with its tag, from the first address on
unfoldable pub memory_of : List Bool → List ℕ → Memory
memory_of defined bytes a =
    if nat_le mem_start a then
    (if slice_index_or defined (a - mem_start) false then Some (slice_index bytes (a - mem_start)) else None)
    else None

-- what of a state a machine's own memory does not hold: how far the worker is, the bytes to come and those sent
pub record Messages : Type 0 where
  pub phase : Phase
  pub to_come : List ℕ
  pub sent : List ℕ
  pub traced : List ℕ

-- what a machine knows of its bytes
abbrev pub memory_in : Machine → Memory
memory_in m = memory_of m.defined m.bytes

abbrev pub state_of : Machine → Messages → State
state_of m p = record {
  iptr = m.iptr;
  oreg = m.oreg;
  wptr = m.wptr;
  areg = m.areg;
  breg = m.breg;
  creg = m.creg;
  memory = memory_in m;
  error = m.error;
  phase = phase_number p.phase;
  stopped = is_stopped p.phase;
  to_come = p.to_come;
  sent = p.sent;
  traced = p.traced;
}

-- f leads from the states before to the states after, or leads nowhere, whatever came and went
abbrev pub Made : (State → Option State) → (Messages → State) → (Messages → State) → Bool → Type 0
Made f old new true = (p : Messages) → f (old p) ≡ Some (new p)
Made f old new false = (p : Messages) → f (old p) ≡ None

-- what came and went since the devices were as before, in this phase
pub record HasExchanged (image : ImageValue) (before : Devices) (phase : Phase) (p : Messages)
    (now : Devices) : Type 0 where
  pub phase_is : p.phase ≡ phase
  pub to_come : phase ≡ BeforePacket → p.to_come ≡ packet_of image before.source
  pub source : Gave before.source (4 * image.packet - length p.to_come) now.source
  pub sink : Took before.sink p.sent now.sink
  pub trace : Took before.trace p.traced now.trace

-- f leads on, with the bytes that the devices took and gave; or leads nowhere; or is refused by a device
abbrev pub Turned : ImageValue → (State → Option State) → (old new : Messages → State) → (phase later : Phase)
    → (now after : Devices) → Turn → Type 0
Turned image f old new phase later now after turn.Made =
    (before : Devices) (p : Messages) → HasExchanged image before phase p now →
    (q : Messages) × (f (old p) ≡ Some (new q)) × HasExchanged image before later q after
Turned image f old new phase later now after turn.Stuck =
    ((p : Messages) → p.phase ≡ phase → f (old p) ≡ None) × (after ≡ now)
Turned image f old new phase later now after (turn.Refused fault) =
    (before : Devices) (p : Messages) → HasExchanged image before phase p now →
    (t : State) × (f (old p) ≡ Some t) × RefusedAt fault.link fault.code (old p) t now after
