use Rattle.std.proofs.lemmas.Result.{on_ok_weaker}
use Rattle.tpw_occam_code.proofs.StoredWords.{stores_constant}
use Rattle.tpw_occam_code.proofs.processes.clear.Goals as goal

pub returns : goal.returns
returns c =
    on_ok_weaker c.emit.result (λ is.
    stores_constant c.args.code.now c.constant.new.self c.emit.new.self c.args.line c.args.item c.args.word 0 c.in_ok-constant.ensures is) c.emit.ensures
