-- What became of a packet: its result, or none where it was lost.
use Rattle.std.specs.Prelude.{Option, Some, None}
use Rattle.tp_collect.specs.DoneValue.{DoneValue}
use Rattle.tp_collect.specs.declared.collected.Entry.{Entry}
use Rattle.tp_collect.specs.declared.collected.Entry.TheVariants as entry
use Rattle.tp_answers.specs.Results.{RunResult, run_result}

abbrev pub result_of : DoneValue → RunResult
result_of done = run_result done.result done.error done.steps done.trace

abbrev pub outcome_of : Entry → Option RunResult
outcome_of (entry.Done done) = Some (result_of done)
outcome_of (entry.Lost cause) = None
