use Rattle.tp_state.proofs.StateOrder.{join-below, below-join}
use Rattle.tp_state.proofs.laws.order.join_with_what_is_below.Goals as goal

pub returns : goal.returns
returns c = record { kept = join-below; only = below-join }
