-- Whole instructions of the step relation, one after another.
use Rattle.std.specs.Prelude.{◌≡◌, ℕ, suc, ◌<◌, ◌≤◌, Bool, true, false, ℤ, pos, ◌+ℤ◌, List, Option, Some, None}
use Rattle.std.specs.Option.{option_map_or}
use Rattle.tp_decode.specs.Spelling.{is_prefix}
use Rattle.tp_image.specs.Image.{ImageValue}
use Rattle.tp_link.specs.declared.links.LinkFault.{LinkFault}
use Rattle.tp_step.specs.State.{State}
use Rattle.tp_step.specs.Steps.{step, steps, code_byte, IsStuck}
use Rattle.tp_outcome.specs.Devices.{Devices}
use Rattle.tp_outcome.specs.Answers.{HasCome, RefusedAt}
use Rattle.tpw_machine.specs.declared.phase.Phase.{Phase}
use Rattle.tpw_machine.specs.declared.phase.Phase.TheVariants.{Stopped}
use Rattle.tpw_machine.specs.declared.turn.Turn.{Turn}
use Rattle.tpw_machine.specs.declared.turn.Turn.TheVariants as turn
use Rattle.tpw_machine.specs.Meaning.{Messages, HasExchanged}

-- a prefix stands at an address of a code
abbrev pub has_prefix : List ℕ → ℤ → Bool
has_prefix code at = option_map_or is_prefix (code_byte code at) false

-- a code has this number of prefixes from an address on, and then none
pub record ArePrefixes (code : List ℕ) (at : ℤ) (count : ℕ) : Type 0 where
  pub each : (i : ℕ) → i < count → has_prefix code (at +ℤ pos i) ≡ true
  pub last : has_prefix code (at +ℤ pos count) ≡ false

-- one instruction leads from s to t: a step for each of its prefixes, and one for the byte behind them
pub record IsInstruction (image : ImageValue) (s t : State) : Type 0 where
  pub prefixes : ℕ
  pub are : ArePrefixes image.code s.iptr prefixes
  pub leads : steps image (suc prefixes) s ≡ Some t

-- this number of steps from s are none but those of the prefixes of its next instruction
pub record IsBeforeLastByte (image : ImageValue) (s : State) (count : ℕ) : Type 0 where
  pub prefixes : ℕ
  pub are : ArePrefixes image.code s.iptr prefixes
  pub within : count ≤ prefixes

-- steps within the instruction lead from s to a stuck state, and the devices have what belongs to it
pub record StuckFrom (image : ImageValue) (s : State) (before after : Devices) : Type 0 where
  pub count : ℕ
  pub within : IsBeforeLastByte image s count
  pub state : State
  pub come : HasCome image s before count state after
  pub stuck : IsStuck image state

-- or to one whose step is refused by a device
pub record RefusedFrom (image : ImageValue) (s : State) (before : Devices) (fault : LinkFault)
    (after : Devices) : Type 0 where
  pub count : ℕ
  pub within : IsBeforeLastByte image s count
  pub state : State
  pub next : State
  pub now : Devices
  pub come : HasCome image s before count state now
  pub step : step image state ≡ Some next
  pub refused : RefusedAt fault.link fault.code state next now after

-- What becomes of a worker by its next instruction, whatever came and went before. None: it had stopped, and nothing
-- moves.
abbrev pub Advances : ImageValue → (old new : Messages → State) → (phase later : Phase) → (now after : Devices)
    → Option Turn → Type 0
Advances image old new phase later now after None =
    (phase ≡ Stopped) × (later ≡ phase) × (after ≡ now) × ((p : Messages) → new p ≡ old p)
Advances image old new phase later now after (Some turn.Made) =
    (before : Devices) (p : Messages) → HasExchanged image before phase p now →
    (q : Messages) × IsInstruction image (old p) (new q) × HasExchanged image before later q after
Advances image old new phase later now after (Some turn.Stuck) =
    (before : Devices) (p : Messages) → HasExchanged image before phase p now → StuckFrom image (old p) before after
Advances image old new phase later now after (Some (turn.Refused fault)) =
    (before : Devices) (p : Messages) → HasExchanged image before phase p now
    → RefusedFrom image (old p) before fault after
