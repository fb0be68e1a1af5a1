-- What the image gives that a program of code is assembled to.
use Rattle.std.proofs.Common.{◌≡◌, ℕ, ◌+◌, ◌*◌, ◌≤◌, true, List, refl}
use Rattle.tp_image.specs.Image.{ImageValue}
use Rattle.tp_step.specs.State.{mem_start}
use Rattle.tp_step.specs.Runs.{Run, RunsAlone}
use Rattle.tpw_asm.specs.declared.program.Program.{Program}
use Rattle.tpw_asm.specs.Layout.{addresses_from}
use Rattle.tpw_asm.specs.Assembly.{IsAssembly}
use Rattle.tpw_occam_symbolic.specs.declared.code.CodeLine.{CodeLine}
use Rattle.tpw_occam_symbolic.specs.declared.items.Placed.{Placed}
use Rattle.tpw_occam_symbolic.specs.Symbolic.{Machine, Leads}
use Rattle.tpw_occam_symbolic.specs.MatchStates.{Site, address_of}
use Rattle.tpw_occam_symbolic.specs.Placing.{AreBetween, site_of}
use Rattle.tpw_occam_symbolic.proofs.SimulationCode.{first_address}
use Rattle.tpw_occam_symbolic.proofs.SimulationImage.{IsMadeOf, lies_in}
use Rattle.tpw_occam_symbolic.proofs.SimulationPlaces.{has_items}
use Rattle.tpw_occam_symbolic.proofs.SimulationStart.{IsFirst, Gives, run_carries}

module _ (program : Program) (image : ImageValue) (is : IsAssembly program image) (code : List CodeLine) (placed : List Placed) (most : ℕ) where
  abbrev pub site : Site
  site = site_of code (addresses_from 0 is.lengths) (mem_start + 4 * image.start) placed

  pub starts_first : address_of site 0 ≡ 0
  starts_first = first_address 0 is.lengths

  -- a run alone gives what the symbolic machine leaves that begins with the same words and the same packet
  pub program_carries : IsMadeOf program site → AreBetween 0 most placed → image.start + most ≤ image.workspace
      → (packet : List ℕ) (run : Run) → RunsAlone image packet run → {m last : Machine} → IsFirst image site packet m → Leads m last
      → last.stopped ≡ true → Gives run last
  program_carries made between room packet run alone first way over =
      run_carries image site packet run
      (lies_in program image is site made refl (has_items image code (addresses_from 0 is.lengths) placed most between room))
      alone first way over
