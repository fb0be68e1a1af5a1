use Rattle.std.proofs.Common.{◌≡◌, ◌++◌, take}
use Rattle.tp_answers.proofs.OutcomeLemmas.{runs_of}
use Rattle.tp_answers.proofs.writing.write_runs.Given as goal

abbrev pub invariant-loop-name : goal.invariant-loop-name
invariant-loop-name l = l.out.items ≡ l.fn.out.items ++ runs_of l.trace (take l.name-index l.name-items)
