use Rattle.std.proofs.lemmas.Result.{on_ok_weaker}
use Rattle.tpw_occam_code.proofs.Receiving.{receives_variable, receives_array}
use Rattle.tpw_occam_code.proofs.messages.receive.Goals as goal

pub returns-in-Variable : goal.returns-in-Variable
returns-in-Variable c =
    on_ok_weaker c.input.result (λ inputs.
    rw c.in-Variable.is (receives_variable c.args.emitter.now c.args.code.now c.input.new.code c.in-Variable.x inputs)) c.input.ensures

pub returns-in-Array : goal.returns-in-Array
returns-in-Array c =
    on_ok_weaker c.input-in-Array.result (λ inputs.
    rw c.in-Array.is (receives_array c.args.emitter.now c.args.code.now c.input-in-Array.new.code c.in-Array.a c.bytes.result c.bytes.ensures inputs))
    c.input-in-Array.ensures
