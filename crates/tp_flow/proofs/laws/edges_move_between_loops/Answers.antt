use Rattle.tp_flow.proofs.LoopMoves.{keeps_around}
use Rattle.tp_flow.proofs.laws.edges_move_between_loops.Goals as goal

pub returns : goal.returns
returns c = keeps_around
