use Rattle.std.proofs.Common.{◌≡◌, None}
use Rattle.tp_board.specs.Sources.{progress_of}
use Rattle.tp_stream.specs.Streams.{IsFeederOf, IsHandOf, hand_seen}
use Rattle.test_board.proofs.streams.single.worked.Given as goal

abbrev pub invariant-loop-count : goal.invariant-loop-count
invariant-loop-count g l = IsFeederOf l.stream l.feeder × IsHandOf l.stream l.hand × ((progress_of (hand_seen l.hand)).in_hand ≡ None)
