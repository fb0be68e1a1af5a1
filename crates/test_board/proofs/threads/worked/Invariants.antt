use Rattle.tp_board.specs.Boards.{IsSeatOf}
use Rattle.test_board.proofs.threads.worked.Given as goal

abbrev pub invariant-loop : goal.invariant-loop
invariant-loop l = IsSeatOf l.board l.seat
