use Rattle.std.proofs.Common.{All}
use Rattle.std.specs.Arc.{arc_value}
use Rattle.tp_board.specs.Boards.{IsSeatOf}
use Rattle.bench_farm.proofs.board.post.posts_for.Given as goal

abbrev pub invariant-loop-own : goal.invariant-loop-own
invariant-loop-own l = All (IsSeatOf (arc_value l.shared)) l.seats.items
