use Rattle.std.proofs.lemmas.Result.{on_ok_weaker}
use Rattle.tpw_occam_expressions.proofs.Answering.{answers_check}
use Rattle.tpw_occam_expressions.proofs.subscripts.check.Goals as goal

pub returns : goal.returns
returns c = on_ok_weaker c.instr.result (λ is i.
    answers_check c.args.code.now c.constant.new.self c.instr.new.self c.args.line i c.args.size c.in_ok-constant.ensures is) c.instr.ensures
