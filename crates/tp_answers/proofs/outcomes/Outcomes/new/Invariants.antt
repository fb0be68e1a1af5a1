use Rattle.std.proofs.Common.{◌≡◌, map, take}
use Rattle.tp_answers.specs.Outcomes.{outcome_of}
use Rattle.tp_answers.proofs.outcomes.Outcomes.new.Given as goal

abbrev pub invariant-loop-entry : goal.invariant-loop-entry
invariant-loop-entry l = l.runs.items ≡ map outcome_of (take l.entry-index l.entry-items)
