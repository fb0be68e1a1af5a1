use Rattle.std.proofs.Common.{◌+◌, ◌*◌, max}
use Rattle.tpw_occam_core.specs.declared.process.Process.{size-Process}
use Rattle.tpw_occam_code.proofs.processes.+process.Given as goal

abbrev pub decreases-process : goal.decreases-process
decreases-process l = 2 * size-Process l.p.now

abbrev pub decreases-repeat : goal.decreases-repeat
decreases-repeat l = 2 * size-Process l.body.now + 1

abbrev pub decreases-choice : goal.decreases-choice
decreases-choice l = 2 * max (size-Process l.guarded.now) (size-Process l.rest.now) + 1

abbrev pub decreases-with_variable : goal.decreases-with_variable
decreases-with_variable l = 2 * size-Process l.body.now + 1

abbrev pub decreases-with_value : goal.decreases-with_value
decreases-with_value l = 2 * size-Process l.body.now + 1
