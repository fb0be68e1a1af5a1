use Rattle.tp_board.proofs.Events.{abandon_law}
use Rattle.tp_board.proofs.laws.abandon_is_one_event.Goals as goal

pub returns : goal.returns
returns c = abandon_law
