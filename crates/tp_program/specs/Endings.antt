-- Why the program ends before the end of its input.
use Rattle.std.specs.Prelude.{◌≡◌, ◌⊎◌, ℕ, List, take, Option}
use Rattle.std.specs.Io.KnownBytes.{Appends}
use Rattle.std.specs.declared.io.ErrorKind.{ErrorKind as IoKind}
use Rattle.std.specs.declared.io.ErrorKind.TheVariants as io
use Rattle.clap.specs.Words.{Kinds, IsAmong, kind_of}
use Rattle.clap.specs.declared.error.Error.{Error}
use Rattle.clap.specs.declared.error.kind.ErrorKind.{ErrorKind}
use Rattle.clap.specs.declared.error.kind.ErrorKind.TheVariants.{DisplayHelp, DisplayVersion, OutOfMemory}
use Rattle.tp_session.specs.declared.fault.ServeFault.{ServeFault}
use Rattle.tp_session.specs.declared.fault.ServeFault.TheVariants.{Write, Memory}
use Rattle.tp_program.specs.declared.ending.Ending.{Ending}
use Rattle.tp_program.specs.declared.ending.Ending.TheVariants.{Shown, Refused, NotText, Fault}
use Rattle.tp_program.specs.Program.{fault_line, kind_status}

-- a fault is reported, as far as that can be written
abbrev pub Reports : (errors errors' : Option (List ℕ)) → ServeFault → Type 0
Reports errors errors' fault = (some : ℕ) × Appends errors errors' (take some (fault_line fault))

-- what an ending leaves of standard output and standard error, and its status: a text that is asked for goes to
-- standard output, and where it cannot be written, that is reported
abbrev pub IsConcluded : Ending → (old new errors errors' : Option (List ℕ)) → (status : ℕ) → Type 0
IsConcluded (Shown error) old new errors errors' status =
    ((status ≡ 0) × (errors' ≡ errors)) ⊎ ((status ≡ 1) × Reports errors errors' Write)
IsConcluded (Fault fault) old new errors errors' status = (status ≡ 1) × (new ≡ old) × Reports errors errors' fault
IsConcluded (Refused error) old new errors errors' status = (status ≡ 2) × (new ≡ old)
IsConcluded NotText old new errors errors' status = (status ≡ 2) × (new ≡ old)

-- by the kind of what clap answers
abbrev pub ending_by : ErrorKind → Error → Ending
ending_by OutOfMemory error = Fault Memory
ending_by DisplayHelp error = Shown error
ending_by DisplayVersion error = Shown error
ending_by kind error = Refused error

-- by the kind of why no words could be had
abbrev pub ending_without : IoKind → Ending
ending_without io.OutOfMemory = Fault Memory
ending_without kind = NotText

-- it is for want of memory, or of one of these kinds
abbrev pub IsEndingBy : Kinds → Ending → Type 0
IsEndingBy kinds (Shown error) = IsAmong (kind_of error) kinds × (kind_status (kind_of error) ≡ 0)
IsEndingBy kinds (Refused error) = IsAmong (kind_of error) kinds × (kind_status (kind_of error) ≡ 2)
IsEndingBy kinds (Fault fault) = fault ≡ Memory
IsEndingBy kinds NotText = ⊥
