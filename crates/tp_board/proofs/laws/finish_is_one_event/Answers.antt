use Rattle.tp_board.proofs.Events.{finish_law}
use Rattle.tp_board.proofs.laws.finish_is_one_event.Goals as goal

pub returns : goal.returns
returns c = finish_law
