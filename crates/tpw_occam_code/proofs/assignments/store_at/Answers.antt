use Rattle.std.proofs.lemmas.Result.{on_ok_weaker}
use Rattle.tpw_occam_code.proofs.Storing.{does_store_word, does_store_byte}
use Rattle.tpw_occam_code.proofs.assignments.store_at.Goals as goal

pub returns-in-Word : goal.returns-in-Word
returns-in-Word c = on_ok_weaker c.instr.result (λ is.
    rw c.in-Word.is (λ arrays bytes a i word h. does_store_word arrays bytes c.args.code.now c.instr.new.self c.args.line a i word is h)) c.instr.ensures

pub returns-in-Byte : goal.returns-in-Byte
returns-in-Byte c = on_ok_weaker c.instr-in-Byte.result (λ is.
    rw c.in-Byte.is (λ arrays bytes a i word h. does_store_byte arrays bytes c.args.code.now c.instr-in-Byte.new.self c.args.line a i word is h)) c.instr-in-Byte.ensures
