use Rattle.std.proofs.lemmas.Result.{on_ok_weaker}
use Rattle.tpw_occam_expressions.proofs.Elements.{does_load_word, does_load_byte}
use Rattle.tpw_occam_expressions.proofs.subscripts.load.Goals as goal

pub returns-in-Word : goal.returns-in-Word
returns-in-Word c = on_ok_weaker c.instr.result (λ is.
    rw c.in-Word.is (λ arrays a bytes i h. does_load_word arrays c.args.code.now c.instr.new.self c.args.line a bytes i is h)) c.instr.ensures

pub returns-in-Byte : goal.returns-in-Byte
returns-in-Byte c = on_ok_weaker c.instr-in-Byte.result (λ is.
    rw c.in-Byte.is (λ arrays a bytes i h. does_load_byte arrays c.args.code.now c.instr-in-Byte.new.self c.args.line a bytes i is h)) c.instr-in-Byte.ensures
