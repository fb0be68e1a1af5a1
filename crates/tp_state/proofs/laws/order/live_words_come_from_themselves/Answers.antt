use Rattle.tp_state.proofs.StateOrder.{join_live}
use Rattle.tp_state.proofs.laws.order.live_words_come_from_themselves.Goals as goal

pub returns : goal.returns
returns c = join_live
