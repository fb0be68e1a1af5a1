use Rattle.tp_stream.specs.Streams.{IsFeederOf}
use Rattle.test_board.proofs.streams.threads.feed_all.Given as goal

abbrev pub invariant-loop : goal.invariant-loop
invariant-loop g l = IsFeederOf l.stream l.feeder
