use Rattle.std.proofs.Common.{◌≡◌, ◌-◌, ◌≤◌, [], replicate, vec_capacity}
use Rattle.tp_board.specs.Views.{newcomer}
use Rattle.tp_board.specs.Boards.{seat_of}
use Rattle.tp_board.proofs.board.deal_seats.Given as goal

abbrev pub invariant-loop-made : goal.invariant-loop-made
invariant-loop-made l = record {
  own : l.token.table_id ≡ l.table.shared.table_id;
  me : l.token.me ≡ (newcomer l.packets (l.members - l.made), []);
  items : l.seats.items ≡ replicate l.made (seat_of l.table.shared.table_id (newcomer l.packets 1));
  room : l.members ≤ vec_capacity l.seats;
}
