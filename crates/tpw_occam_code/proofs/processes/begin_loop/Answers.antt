use Rattle.std.proofs.lemmas.Result.{on_ok_weaker}
use Rattle.tpw_occam_code.proofs.StoredWords.{begins_loop}
use Rattle.tpw_occam_code.proofs.processes.begin_loop.Goals as goal

pub returns : goal.returns
returns c =
    on_ok_weaker c.emit-2.result (λ is.
    begins_loop c.args.code.now c.constant.new.self c.emit.new.self c.constant-2.new.self c.emit-2.new.self c.args.line c.args.x c.args.start c.args.count
    c.in_ok-constant.ensures c.in_ok-emit.ensures c.in_ok-constant-2.ensures is) c.emit-2.ensures
