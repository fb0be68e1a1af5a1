use Rattle.std.proofs.Common.{◌+◌, ◌*◌}
use Rattle.tpw_occam_checking.proofs.+process.Given as goal

abbrev pub decreases-processes::process : goal.decreases-processes::process
decreases-processes::process l = 4 * l.depth

abbrev pub decreases-processes::steps : goal.decreases-processes::steps
decreases-processes::steps l = 4 * l.depth + 1

abbrev pub decreases-processes::choice : goal.decreases-processes::choice
decreases-processes::choice l = 4 * l.depth + 1

abbrev pub decreases-processes::all_cases : goal.decreases-processes::all_cases
decreases-processes::all_cases l = 4 * l.depth + 1

abbrev pub decreases-processes::procedure_call : goal.decreases-processes::procedure_call
decreases-processes::procedure_call l = 4 * l.depth + 1

abbrev pub decreases-processes::scoped : goal.decreases-processes::scoped
decreases-processes::scoped l = 4 * l.depth + 1

abbrev pub decreases-processes::replicated : goal.decreases-processes::replicated
decreases-processes::replicated l = 4 * l.depth + 2

abbrev pub decreases-processes::case : goal.decreases-processes::case
decreases-processes::case l = 4 * l.depth + 2

abbrev pub decreases-functions::valued : goal.decreases-functions::valued
decreases-functions::valued l = 4 * l.depth + 1

abbrev pub decreases-functions::taken : goal.decreases-functions::taken
decreases-functions::taken l = 4 * l.depth + 2

abbrev pub decreases-functions::assigned : goal.decreases-functions::assigned
decreases-functions::assigned l = 4 * l.depth + 3
