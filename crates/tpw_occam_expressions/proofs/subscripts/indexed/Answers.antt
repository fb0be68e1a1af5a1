use Rattle.std.proofs.lemmas.Result.{on_ok_weaker}
use Rattle.tpw_occam_core.specs.declared.kind.Kind.TheVariants.{Word, Byte}
use Rattle.tpw_occam_expressions.proofs.Elements.{does_index}
use Rattle.tpw_occam_expressions.proofs.subscripts.indexed.Goals as goal

pub returns-in-Word : goal.returns-in-Word
returns-in-Word c = on_ok_weaker c.instr.result (λ is.
    rw c.in-Word.is (λ arrays i. does_index Word arrays c.args.code.now c.emit.new.self c.instr.new.self c.args.line c.args.array i c.in_ok-emit.ensures is)) c.instr.ensures

pub returns-in-Byte : goal.returns-in-Byte
returns-in-Byte c = on_ok_weaker c.instr-in-Byte.result (λ is.
    rw c.in-Byte.is (λ arrays i. does_index Byte arrays c.args.code.now c.emit.new.self c.instr-in-Byte.new.self c.args.line c.args.array i c.in_ok-emit.ensures is)) c.instr-in-Byte.ensures
