-- The status of what a command answers.
use Rattle.std.specs.Prelude.{ℕ}
use Rattle.tpw_files.specs.declared.outcome.Outcome.{Outcome}
use Rattle.tpw_files.specs.declared.outcome.Outcome.TheVariants as outcome

abbrev pub status_on : Outcome → ℕ
status_on outcome.Good = 0
status_on outcome.Bad = 1
