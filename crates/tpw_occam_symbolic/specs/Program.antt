-- What is said of a program that is made.
use Rattle.std.specs.Prelude.{◌≡◌, ℕ, ◌*◌, ◌<◌, List, length, All, Option, Some, None}
use Rattle.tp_image.specs.Image.{ImageValue, InRange}
use Rattle.tp_decode.specs.Cutting.{Cut, IsCutting}
use Rattle.tp_flow.specs.NestKept.{KeepsNest}
use Rattle.tp_step.specs.Runs.{Run, RunsAlone}
use Rattle.tpw_asm.specs.declared.program.Program.{Program}
use Rattle.tpw_asm.specs.Assembly.{IsAssembly}
use Rattle.tpw_occam_core.specs.declared.process.Message.{Message}
use Rattle.tpw_occam_core.specs.declared.process.Message.TheVariants as message
use Rattle.tpw_occam_core.specs.declared.worker.Storage.{Storage}
use Rattle.tpw_occam_core.specs.declared.worker.Place.{Place}
use Rattle.tpw_occam_core.specs.declared.worker.Place.TheVariants as place
use Rattle.tpw_occam_core.specs.declared.worker.Worker.{Worker}
use Rattle.tpw_occam_core.specs.Meaning.{Meant, meaning, most_traced}
use Rattle.tpw_occam_core.specs.Sound.{storage_of, bytes_of}

-- how many bytes go to a place, and how many a message has
abbrev pub place_bytes : List Storage → Place → ℕ
place_bytes storages (place.Variable x) = 4
place_bytes storages (place.Array a) = bytes_of (storage_of storages a)

abbrev pub message_bytes : List Storage → Message → ℕ
message_bytes storages (message.Value e) = 4
message_bytes storages (message.Array a) = bytes_of (storage_of storages a)

-- a packet of an image
pub record IsPacket (image : ImageValue) (packet : List ℕ) : Type 0 where
  pub size : length packet ≡ 4 * image.packet
  pub bytes : All (λ byte. byte < 256) packet

-- A run gives what a packet means; where that is nothing, it has traced more than a worker may.
abbrev pub GivesMeaning : Run → Option Meant → Type 0
GivesMeaning run (Some meant) = (run.result ≡ meant.result) × (run.error ≡ meant.flag) × (run.trace ≡ meant.traced)
GivesMeaning run None = most_traced < length run.trace

-- A program means what a worker means: it takes packets and gives results of the worker's sizes, and where the image
-- that it is assembled to runs alone on a packet, the run gives what the worker makes of the packet.
pub record Means (w : Worker) (program : Program) : Type 0 where
  pub packet : 4 * program.packet ≡ place_bytes w.arrays.items w.receive
  pub result : 4 * program.result ≡ message_bytes w.arrays.items w.send
  pub runs : (image : ImageValue) (bytes : List ℕ) (run : Run) → IsAssembly program image → IsPacket image bytes
      → RunsAlone image bytes run → GivesMeaning run (meaning w bytes)

-- An image breaks no rule on its fields, on its code as instructions, and on its loops and jumps: the verifier can
-- refuse it for its states and its budget alone.
pub record KeepsRules (image : ImageValue) : Type 0 where
  pub in_range : InRange image
  pub cuts : List Cut
  pub cutting : IsCutting image.code cuts
  pub nest : KeepsNest image.loops image.workspace cuts

-- so does each image that a program is assembled to
abbrev pub GivesRuled : Program → Type 0
GivesRuled program = (image : ImageValue) → IsAssembly program image → KeepsRules image
