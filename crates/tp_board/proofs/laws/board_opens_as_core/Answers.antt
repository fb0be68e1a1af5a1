use Rattle.tp_board.proofs.Opening.{opening_law}
use Rattle.tp_board.proofs.laws.board_opens_as_core.Goals as goal

pub returns : goal.returns
returns c = opening_law
