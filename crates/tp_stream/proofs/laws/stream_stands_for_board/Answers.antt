use Rattle.tp_stream.proofs.Stages.{stand_law}
use Rattle.tp_stream.proofs.laws.stream_stands_for_board.Goals as goal

pub returns : goal.returns
returns c = stand_law
