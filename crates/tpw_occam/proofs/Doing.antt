-- What a program that does what a core does gives of a packet: what the core means by it.
use Rattle.std.proofs.Common.{◌≡◌, ◌∙◌, ℕ, ◌*◌, List, length, Option, ap, subst}
use Rattle.tp_image.specs.Image.{ImageValue}
use Rattle.tp_step.specs.Runs.{Run, RunsAlone}
use Rattle.tpw_asm.specs.declared.program.Program.{Program}
use Rattle.tpw_asm.specs.Assembly.{IsAssembly}
use Rattle.tpw_occam_core.specs.declared.worker.Place.{Place}
use Rattle.tpw_occam_core.specs.declared.worker.Place.TheVariants as place
use Rattle.tpw_occam_core.specs.declared.worker.Storage.{Storage}
use Rattle.tpw_occam_core.specs.Meaning.{Meant}
use Rattle.tpw_occam_placing.specs.Working.{Takes}
use Rattle.tpw_occam_scoped.specs.declared.process.Process.{Process}
use Rattle.tpw_occam_scoped.specs.Meaning.{meaning}
use Rattle.tpw_occam_symbolic.specs.Program.{IsPacket, GivesMeaning, place_bytes}
use Rattle.tpw_occam.specs.Compilation.{Does}

-- a place takes a packet of its length
takes : (storages : List Storage) (p : Place) (packet : List ℕ) → length packet ≡ place_bytes storages p → Takes storages p packet
takes storages (place.Variable x) packet is = tt
takes storages (place.Array a) packet is = is

pub gives : (p : Process) (program : Program) → Does p program → (image : ImageValue) (packet : List ℕ) (run : Run)
    → IsAssembly program image → IsPacket image packet → RunsAlone image packet run → GivesMeaning run (meaning p packet)
gives p program does image packet run assembly whole alone =
    let w = does.worker in
    let size : length packet ≡ place_bytes w.arrays.items w.receive =
    whole.size ∙ ap (λ (i : ImageValue). 4 * i.packet) assembly.said ∙ does.means.packet in
    subst (λ (m : Option Meant). GivesMeaning run m) (does.done.agrees packet (takes w.arrays.items w.receive packet size))
    (does.means.runs image packet run assembly whole alone)
