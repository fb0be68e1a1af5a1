use Rattle.tp_board.proofs.Schedule.{schedule_law}
use Rattle.tp_board.proofs.laws.every_schedule_is_a_run.Goals as goal

pub returns : goal.returns
returns c = schedule_law
