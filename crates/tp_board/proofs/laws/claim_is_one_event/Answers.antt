use Rattle.tp_board.proofs.Events.{claim_law}
use Rattle.tp_board.proofs.laws.claim_is_one_event.Goals as goal

pub returns : goal.returns
returns c = claim_law
