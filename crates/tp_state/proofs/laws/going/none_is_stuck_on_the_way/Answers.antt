use Rattle.tp_state.proofs.GoingOn.{not_stuck_within}
use Rattle.tp_state.proofs.laws.going.none_is_stuck_on_the_way.Goals as goal

pub returns : goal.returns
returns c = not_stuck_within
