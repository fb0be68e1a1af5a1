-- The devices of a member, before and after a packet's run.
use Rattle.std.specs.Prelude.{◌≡◌, ℕ, List, []}
use Rattle.tp_image.specs.Image.{ImageValue}
use Rattle.tp_step.specs.Runs.{Run, RunsAlone}
use Rattle.tp_outcome.specs.Devices.{Devices}
use Rattle.tp_outcome.specs.declared.outcome.Outcome.{Outcome}

-- the source holds the packet, and the others nothing
pub record IsReady (packet : List ℕ) (now : Devices) : Type 0 where
  pub source : now.source.held ≡ packet
  pub sink : now.sink.held ≡ []
  pub trace : now.trace.held ≡ []

-- the sink and the trace hold what the run of the packet alone gave
pub record HasGiven (image : ImageValue) (packet : List ℕ) (outcome : Outcome) (now : Devices) : Type 0 where
  pub alone : RunsAlone image packet
      record { result = now.sink.held; error = outcome.error; steps = outcome.steps; trace = now.trace.held }

-- the run of the packet alone sends this on link 1
pub record HasTraced (image : ImageValue) (packet traced : List ℕ) : Type 0 where
  pub run : Run
  pub alone : RunsAlone image packet run
  pub is : traced ≡ run.trace
