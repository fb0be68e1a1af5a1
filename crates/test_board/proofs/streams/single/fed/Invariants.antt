use Rattle.tp_stream.specs.Streams.{IsFeederOf}
use Rattle.test_board.proofs.streams.single.fed.Given as goal

abbrev pub invariant-loop-count : goal.invariant-loop-count
invariant-loop-count g l = IsFeederOf l.stream l.feeder
