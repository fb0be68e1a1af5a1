use Rattle.std.proofs.Common.{◌≡◌, ◌+◌, length}
use Rattle.bench_farm.proofs.board.post.Post.finish_all.Given as goal

abbrev pub invariant-loop-finished : goal.invariant-loop-finished
invariant-loop-finished l = length l.self.seat.view.finished ≡ length l.fn.self.seat.view.finished + l.finished
