-- How the program ends.
use Rattle.std.specs.Prelude.{◌≡◌, ◌≤◌, ℕ, List, Option, Some, None, Result, Ok, Err}
use Rattle.std.specs.IoError.{error_kind}
use Rattle.std.specs.declared.io.Error.{Error as IoError}
use Rattle.std.specs.declared.io.ErrorKind.{ErrorKind as IoKind}
use Rattle.std.specs.declared.io.ErrorKind.TheVariants.{BrokenPipe}
use Rattle.tpw_files.specs.declared.failure.Failure.{Failure}
use Rattle.tpw_files.specs.declared.failure.Failure.TheVariants as failure
use Rattle.tpw_files.specs.declared.outcome.Outcome.{Outcome}
use Rattle.tpw_files.specs.declared.outcome.Outcome.TheVariants as outcome
use Rattle.tpw_files.specs.Outcomes.{status_on}
use Rattle.tpw_command_line.specs.declared.ending.Ending.{Ending}
use Rattle.tpw_command_line.specs.declared.ending.Ending.TheVariants as ending
use Rattle.tpw_command_line.specs.Endings.{status_of}

-- the status of the program, by what a command answers or how it ends early
abbrev pub status_by : Result Outcome Ending → ℕ
status_by (Ok answer) = status_on answer
status_by (Err e) = status_of e

-- a write that failed, by its kind: that a reader went away is no fault
abbrev pub of_write : IoKind → IoError → Result Outcome Ending
of_write BrokenPipe error = Ok outcome.Good
of_write kind error = Err (ending.Failed (failure.Unwritten error))

-- what is answered by a command that has failed: a failed write has its cause, where there is one
abbrev pub settled : Option IoError → Failure → Result Outcome Ending
settled None why = Err (ending.Failed why)
settled (Some error) failure.Write = of_write (error_kind error) error
settled (Some error) why = Err (ending.Failed why)

-- how the program ends where its words ask for no command: a text that was asked for is written, or that fails; else
-- nothing is written
abbrev pub EndsEarly : Ending → (old new : Option (List ℕ)) → ℕ → Type 0
EndsEarly (ending.Shown error) old new status = status ≤ 1
EndsEarly e old new status = (status ≡ status_of e) × (new ≡ old)
