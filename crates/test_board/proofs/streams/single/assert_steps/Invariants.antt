use Rattle.tp_stream.specs.Streams.{IsFeederOf, IsHandOf}
use Rattle.test_board.proofs.streams.single.assert_steps.Given as goal

abbrev pub invariant-loop-place : goal.invariant-loop-place
invariant-loop-place g l = IsFeederOf l.stream l.feeder × IsHandOf l.stream l.hand
