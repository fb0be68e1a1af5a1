-- What the image of a text in occam is.
use Rattle.std.specs.Prelude.{◌≤◌, ℕ, List}
use Rattle.tp_image.specs.Image.{ImageValue}
use Rattle.tp_image.specs.Text.{IsTextOf}
use Rattle.tp_step.specs.Runs.{Run, RunsAlone}
use Rattle.tpw_occam.specs.Compilation.{IsMeaningOf}
use Rattle.tpw_occam_scoped.specs.declared.process.Process.{Process}
use Rattle.tpw_occam_scoped.specs.Meaning.{meaning}
use Rattle.tpw_occam_symbolic.specs.Program.{IsPacket, GivesMeaning}

-- A core means what a text means, and the image that bytes spell does that: its packets and results have at most 64
-- words, and where it runs alone on a packet, the run gives what the core makes of the packet.
pub record AreImageOfText (text : List ℕ) (core : Process) (bytes : List ℕ) : Type 0 where
  pub means : IsMeaningOf text (meaning core)
  pub image : ImageValue
  pub read : IsTextOf bytes image
  pub packet : image.packet ≤ 64
  pub result : image.result ≤ 64
  pub runs : (packet : List ℕ) (run : Run) → IsPacket image packet → RunsAlone image packet run
      → GivesMeaning run (meaning core packet)
