use Rattle.std.proofs.Common.{◌≡◌, ◌+◌, ◌<◌, ℕ, List, [], length, map, All}
use Rattle.crossbeam_queue.specs.Passes.{view}
use Rattle.tp_board.specs.Ledgers.{join_of_all}
use Rattle.tp_stream.specs.Streams.{IsHandOf, seen_of, hand_seen, feeder_seen, Agrees}
use Rattle.tp_stream.proofs.stream.StreamQueue.gather.Given as goal

abbrev pub invariant-loop-next : goal.invariant-loop-next
invariant-loop-next l = record {
  pass : (l.pass.table_id ≡ l.self.queue) × (l.pass.me.1 ≡ []);
  token : (l.token.table_id ≡ l.self.tally) × (l.token.me.1 ≡ []);
  some_part : (0 < (view l.pass).parts) × (0 < l.token.me.0.parts);
  parts : ((view l.pass).parts + length l.rest.items ≡ length l.fn.rest.items + 1)
      × (l.token.me.0.parts + length l.rest.items ≡ length l.fn.rest.items + 1);
  sizes : ((view l.pass).packets ≡ length l.self.packets) × ((view l.pass).members ≡ l.self.members)
      × ((view l.pass).pushed ≡ l.fn.feeder.turn.pushed);
  seen : (numbers : List ℕ) × Agrees (seen_of (view l.pass) l.token.me.0 numbers)
      × (join_of_all (seen_of (view l.pass) l.token.me.0 numbers) (map hand_seen l.rest.items) ≡ join_of_all
      (feeder_seen l.fn.feeder) (map hand_seen l.fn.rest.items));
  others : All (IsHandOf l.self) l.rest.items;
}

abbrev pub decreases-loop-next : goal.decreases-loop-next
decreases-loop-next l = goal.left-loop-next l
