use Rattle.tp_board.proofs.Events.{stop_law}
use Rattle.tp_board.proofs.laws.stop_is_one_event.Goals as goal

pub returns : goal.returns
returns c = stop_law
