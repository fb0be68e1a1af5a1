use Rattle.std.proofs.Common.{refl}
use Rattle.std.proofs.lemmas.Result.{on_ok_weaker}
use Rattle.tpw_occam_expressions.proofs.Elements.{does_push_word, does_push_byte}
use Rattle.tpw_occam_expressions.proofs.subscripts.push_fixed.Goals as goal

pub returns-in-Word : goal.returns-in-Word
returns-in-Word c = on_ok_weaker c.emit.result (λ is.
    rw c.in-Word.is (λ arrays bytes long h whole.
    does_push_word arrays c.args.code.now c.emit.new.self c.args.line c.args.array bytes c.args.c is h)) c.emit.ensures

pub returns-in_ok-emit-in-Byte : goal.returns-in_ok-emit-in-Byte
returns-in_ok-emit-in-Byte c = on_ok_weaker c.instr.result (λ is.
    rw c.in-Byte.is (λ arrays bytes long h whole.
    does_push_byte arrays c.args.code.now c.emit-in-Byte.new.self c.instr.new.self c.args.line c.args.array bytes c.args.c
    c.in_ok-emit-in-Byte.ensures is long h (whole refl))) c.instr.ensures
