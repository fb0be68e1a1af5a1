use Rattle.std.proofs.Common.{◌≡◌, ◌+◌, ◌<◌, [], length, All}
use Rattle.tp_board.specs.Boards.{IsSeatOf, views_of}
use Rattle.tp_board.specs.Ledgers.{join_of_all}
use Rattle.tp_board.proofs.board.Board.gather.Given as goal

abbrev pub invariant-loop-next : goal.invariant-loop-next
invariant-loop-next l = record {
  own : l.token.table_id ≡ l.self.table;
  home : l.token.me.1 ≡ [];
  some_part : 0 < l.token.me.0.parts;
  parts : l.token.me.0.parts + length l.rest.items ≡ length l.fn.rest.items + 1;
  view : join_of_all l.token.me.0 (views_of l.rest.items) ≡ join_of_all l.fn.first.view (views_of l.fn.rest.items);
  others : All (IsSeatOf l.self) l.rest.items;
}

abbrev pub decreases-loop-next : goal.decreases-loop-next
decreases-loop-next l = goal.left-loop-next l
