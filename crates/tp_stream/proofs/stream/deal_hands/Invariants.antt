use Rattle.std.proofs.Common.{◌≡◌, ◌+◌, ◌-◌, ◌≤◌, [], replicate, vec_capacity}
use Rattle.crossbeam_queue.specs.Passes.{view, IsPassOf}
use Rattle.tp_stream.specs.Queues.{feeder}
use Rattle.tp_stream.specs.Streams.{fresh_hand}
use Rattle.tp_board.specs.Views.{newcomer}
use Rattle.tp_stream.proofs.stream.deal_hands.Given as goal

abbrev pub invariant-loop-made : goal.invariant-loop-made
invariant-loop-made l = record {
  pass : IsPassOf l.queue l.pass × (view l.pass ≡ feeder l.packets l.members (l.members + 1 - l.made));
  token : (l.token.table_id ≡ l.tally.shared.table_id) × (l.token.me ≡ (newcomer l.packets (l.members + 1 - l.made), []));
  items : l.hands.items ≡ replicate l.made (fresh_hand l.queue.table.shared.table_id l.tally.shared.table_id l.packets l.members);
  room : l.members ≤ vec_capacity l.hands;
}
