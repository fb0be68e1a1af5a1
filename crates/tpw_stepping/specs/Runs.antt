-- What a run answers.
use Rattle.tpw_step.specs.declared.run.End.{End}
use Rattle.tpw_step.specs.declared.run.End.TheVariants as end
use Rattle.tpw_files.specs.declared.outcome.Outcome.{Outcome}
use Rattle.tpw_files.specs.declared.outcome.Outcome.TheVariants as outcome

-- by its end
abbrev pub of_run : End → Outcome
of_run end.Stopped = outcome.Good
of_run end.Left = outcome.Good
of_run e = outcome.Bad
