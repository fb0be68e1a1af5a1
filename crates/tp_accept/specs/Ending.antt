-- What is promised of an image's worker: each packet's run ends in time, and never goes wrong.
use Rattle.std.specs.Prelude.{◌≡◌, ℕ, ◌*◌, ◌<◌, ◌≤◌, List, length, All}
use Rattle.tp_image.specs.Image.{ImageValue}
use Rattle.tp_step.specs.State.{State}
use Rattle.tp_step.specs.Steps.{IsStuck, Reaches}
use Rattle.tp_step.specs.Runs.{start, Run, RunsAlone}

-- as many bytes as the image's packets have
pub record IsPacket (image : ImageValue) (packet : List ℕ) : Type 0 where
  pub long : length packet ≡ 4 * image.packet
  pub bytes : All (λ byte. byte < 256) packet

-- The packet's run alone ends, by stopp, after no more steps than the budget. Its result has the length that the image
-- states. No state that steps reach from its start is stuck.
pub record EndsWithin (image : ImageValue) (budget : ℕ) (packet : List ℕ) : Type 0 where
  pub run : Run
  pub alone : RunsAlone image packet run
  pub within : run.steps ≤ budget
  pub result : length run.result ≡ 4 * image.result
  pub never_stuck : (s : State) → Reaches image (start image packet) s → ¬ IsStuck image s

-- The worker never goes wrong: so does each packet's run.
abbrev pub NeverGoesWrong : ImageValue → ℕ → Type 0
NeverGoesWrong image budget = (packet : List ℕ) → IsPacket image packet → EndsWithin image budget packet
