use Rattle.std.proofs.Common.{◌≡◌, None}
use Rattle.test_board.proofs.sources.abandoned.Given as goal

abbrev pub invariant-loop-count : goal.invariant-loop-count
invariant-loop-count g l = g.S.WorkSource.is_own l.source l.hand × ((g.S.WorkSource.progress l.hand).in_hand ≡ None)
