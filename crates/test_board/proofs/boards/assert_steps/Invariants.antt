use Rattle.tp_board.specs.Boards.{IsSeatOf}
use Rattle.test_board.proofs.boards.assert_steps.Given as goal

abbrev pub invariant-loop-place : goal.invariant-loop-place
invariant-loop-place g l = IsSeatOf l.board l.zero × IsSeatOf l.board l.one
