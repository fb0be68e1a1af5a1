use Rattle.std.proofs.Common.{◌≡◌, ◌++◌, take}
use Rattle.tp_answers.specs.Texts.{outcomes_lines}
use Rattle.tp_answers.proofs.writing.write_outcomes.Given as goal

abbrev pub invariant-loop-number : goal.invariant-loop-number
invariant-loop-number l = l.out.items ≡ l.fn.out.items ++ outcomes_lines l.trace 0 (take l.number l.runs)
