use Rattle.std.proofs.Common.{All}
use Rattle.tp_stream.specs.Streams.{IsFeederOf, IsHandOf}
use Rattle.test_board.proofs.streams.single.all_worked.Given as goal

abbrev pub invariant-loop : goal.invariant-loop
invariant-loop g l = record {
  feeder : IsFeederOf l.stream l.feeder;
  hands : All (IsHandOf l.stream) l.hands.items;
  back : All (IsHandOf l.stream) l.back.items;
}
