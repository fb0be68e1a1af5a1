use Rattle.tp_state.proofs.StateOrder.{is_below-self, is_below-trans, is_below-antisym}
use Rattle.tp_state.proofs.laws.order.below_is_a_partial_order.Goals as goal

pub returns : goal.returns
returns c = record { reflexive = is_below-self; transitive = is_below-trans; antisymmetric = is_below-antisym }
