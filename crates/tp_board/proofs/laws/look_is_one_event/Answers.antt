use Rattle.tp_board.proofs.Events.{look_law}
use Rattle.tp_board.proofs.laws.look_is_one_event.Goals as goal

pub returns : goal.returns
returns c = look_law
