use Rattle.std.proofs.Common.{◌≡◌, ℕ, None, replicate}
use Rattle.tp_board.specs.Calls.{Makes, sees_no_stop}
use Rattle.tp_stream.specs.Streams.{IsHandOf, hand_seen}
use Rattle.tp_stream.proofs.stream.StreamQueue.claim.Given as goal

abbrev pub invariant-loop : goal.invariant-loop
invariant-loop g l = record {
  own : IsHandOf l.self l.hand;
  empty : l.hand.number ≡ None;
  going : ((hand_seen l.hand).ended ≡ 0) × ((hand_seen l.hand).seen.stop ≡ 0);
  made : (k : ℕ) × Makes (hand_seen l.fn.hand) (replicate k sees_no_stop) (hand_seen l.hand);
}
