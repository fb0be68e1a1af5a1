-- The failure of a command whose text in occam has no program.
use Rattle.std.specs.Prelude.{◌≡◌, ⊤}
use Rattle.tpw_occam.specs.declared.fault.OccamFault.{OccamFault}
use Rattle.tpw_occam.specs.declared.fault.OccamFault.TheVariants as occam
use Rattle.tpw_files.specs.declared.failure.Failure.{Failure}
use Rattle.tpw_files.specs.declared.failure.Failure.TheVariants as failure
use Rattle.tpw_files.specs.declared.fault.InputFault.TheVariants as input

-- it is a fault of the compiler, or a growth was refused on the way
abbrev pub IsFault : Failure → Type 0
IsFault (failure.Input (input.Compiler text)) = ⊤
IsFault failure.Memory = ⊤
IsFault e = ⊥

-- it has the diagnostics of the text
abbrev pub IsOfOccam : OccamFault → Failure → Type 0
IsOfOccam occam.Memory e = e ≡ failure.Memory
IsOfOccam (occam.Refused diagnostics) e = e ≡ failure.Text diagnostics
IsOfOccam (occam.Compiler defect) e = IsFault e
