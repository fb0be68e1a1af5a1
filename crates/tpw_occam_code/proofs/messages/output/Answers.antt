use Rattle.std.proofs.Common.{sym, subst}
use Rattle.std.proofs.lemmas.Result.{on_ok_weaker}
use Rattle.tpw_occam_code.specs.Sending.{SendsMessage}
use Rattle.tpw_occam_code.proofs.Sending.{value_sent, array_sent}
use Rattle.tpw_occam_code.proofs.messages.output.Goals as goal

-- src/messages.rt:92:5
pub returns-in-Array-clause-sends : goal.returns-in-Array-clause-sends
returns-in-Array-clause-sends c =
    on_ok_weaker c.send_bytes.result (λ sends.
    subst (SendsMessage c.args.emitter.now c.args.code.now c.send_bytes.new.code c.args.channel) (sym c.in-Array.is)
    (array_sent c.args.emitter.now c.args.code.now c.send_bytes.new.code c.args.channel c.in-Array.a c.bytes.result c.bytes.ensures sends))
    c.send_bytes.ensures

-- src/messages.rt:92:5
pub returns-in_ok-item-in-Value-clause-sends : goal.returns-in_ok-item-in-Value-clause-sends
returns-in_ok-item-in-Value-clause-sends c =
    on_ok_weaker c.send_bytes-in-Value.result (λ sends.
    subst (SendsMessage c.args.emitter.now c.args.code.now c.send_bytes-in-Value.new.code c.args.channel) (sym c.in-Value.is)
    (value_sent c.args.emitter.now c.args.code.now c.keep_value.new.code c.send_bytes-in-Value.new.code c.args.channel c.in-Value.e c.in_ok-item-in-Value.item
    c.in_ok-item-in-Value.ensures.room c.in_ok-item-in-Value.ensures.keeps sends)) c.send_bytes-in-Value.ensures
