use Rattle.std.proofs.Common.{◌≡◌, None}
use Rattle.test_board.proofs.streams.threads.take_all.Given as goal

abbrev pub invariant-loop : goal.invariant-loop
invariant-loop g l = g.S.WorkSource.is_own l.source l.hand × ((g.S.WorkSource.progress l.hand).in_hand ≡ None)
