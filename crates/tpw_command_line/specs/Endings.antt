-- How the program ends early.
use Rattle.std.specs.Prelude.{ℕ}
use Rattle.clap.specs.declared.error.Error.{Error}
use Rattle.clap.specs.declared.error.kind.ErrorKind.{ErrorKind}
use Rattle.clap.specs.declared.error.kind.ErrorKind.TheVariants.{DisplayHelp, DisplayVersion, OutOfMemory}
use Rattle.tpw_files.specs.declared.failure.Failure.TheVariants as failure
use Rattle.tpw_command_line.specs.declared.ending.Ending.{Ending}
use Rattle.tpw_command_line.specs.declared.ending.Ending.TheVariants as ending
use Rattle.tpw_command_line.specs.declared.refusal.Refusal.TheVariants as refusal

-- by the kind of what clap answers to the words of a command line
abbrev pub of_words : ErrorKind → Error → Ending
of_words OutOfMemory error = ending.Failed failure.Memory
of_words DisplayHelp error = ending.Shown error
of_words DisplayVersion error = ending.Shown error
of_words kind error = ending.Refused (refusal.Line error)

-- the status of an ending: a text that was asked for, a command line that is refused, an input without messages, or a
-- failure
abbrev pub status_of : Ending → ℕ
status_of (ending.Shown error) = 0
status_of (ending.Refused why) = 2
status_of (ending.NoMessages input fault) = 1
status_of (ending.Failed why) = 1
