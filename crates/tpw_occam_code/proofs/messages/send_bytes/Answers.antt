use Rattle.std.proofs.Common.{subst}
use Rattle.std.proofs.lemmas.Result.{on_ok_weaker}
use Rattle.tpw_occam_symbolic.specs.Leading.{Makes, HasConstants}
use Rattle.tpw_occam_symbolic.specs.Symbolic.{push, number}
use Rattle.tpw_occam_code.proofs.Sending.{sends_bytes}
use Rattle.tpw_occam_code.proofs.messages.send_bytes.Goals as goal

-- src/messages.rt:41:1
pub returns : goal.returns
returns c =
    on_ok_weaker c.instr.result
    (sends_bytes c.args.code.now c.emit.new.self c.constant.new.self c.constant-2.new.self c.instr.new.self c.args.line c.args.channel c.args.item c.args.bytes
    c.in_ok-emit.ensures
    (subst (λ n. Makes c.emit.new.self c.constant.new.self HasConstants (push (number n))) c.address.ensures c.in_ok-constant.ensures)
    c.in_ok-constant-2.ensures) c.instr.ensures
