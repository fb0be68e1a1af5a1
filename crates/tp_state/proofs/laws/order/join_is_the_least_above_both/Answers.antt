use Rattle.tp_state.proofs.StateOrder.{is_below-join_left, is_below-join_right, is_below-least}
use Rattle.tp_state.proofs.laws.order.join_is_the_least_above_both.Goals as goal

pub returns : goal.returns
returns c = record { left = is_below-join_left; right = is_below-join_right; least = is_below-least }
