-- The rules that this product answers by: those of the verifier, and the run of a packet alone.
use Rattle.std.specs.Prelude.{ℕ, ◌≤◌, List, length, Option, Some, None, Ok, Err}
use Rattle.tp_image.specs.Image.{ImageValue}
use Rattle.tp_image.specs.Text.{IsTextOf}
use Rattle.tp_step.specs.Runs.{RunsAlone, TracesMoreThan}
use Rattle.tp_accept.specs.declared.refusal.Refusal.TheVariants.{Refused}
use Rattle.tp_accept.specs.Verdict.{IsAnswer, allowed}
use Rattle.tp_collect.specs.DoneValue.{run_of_parts, most_trace}
use Rattle.tp_answers.specs.Results.{RunResult}
use Rattle.tp_answers.specs.Answers.{Verdict, Accepts, Refuses}

-- the verdict on the text of an image
abbrev pub IsVerdict : List ℕ → Verdict → Type 0
IsVerdict text (Accepts image budget) = IsTextOf text image × IsAnswer text (Ok (allowed image budget))
IsVerdict text (Refuses code place) = IsAnswer text (Err (Refused code place))

-- the outcome of a packet: its run alone, or a loss where that traces too much
abbrev pub IsOutcome : ImageValue → List ℕ → Option RunResult → Type 0
IsOutcome image packet (Some run) =
    RunsAlone image packet (run_of_parts run.result run.error run.steps run.trace) × (length run.trace ≤ most_trace)
IsOutcome image packet None = TracesMoreThan most_trace image packet
