use Rattle.std.proofs.lemmas.Result.{on_ok_weaker}
use Rattle.tpw_occam_code.proofs.Receiving.{inputs}
use Rattle.tpw_occam_code.proofs.messages.input.Goals as goal

pub returns : goal.returns
returns c =
    on_ok_weaker c.instr.result (λ is.
    inputs c.args.code.now c.emit.new.self c.constant.new.self c.constant-2.new.self c.instr.new.self c.args.line c.args.item c.args.bytes
    c.in_ok-emit.ensures c.in_ok-constant.ensures c.in_ok-constant-2.ensures is) c.instr.ensures
