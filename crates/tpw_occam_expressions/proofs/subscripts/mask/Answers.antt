use Rattle.std.proofs.Common.{refl}
use Rattle.std.proofs.lemmas.Result.{on_ok_weaker}
use Rattle.std.specs.Prelude.{bit_and}
use Rattle.tp_decode.specs.declared.instr.Instr.TheVariants.{BitAnd}
use Rattle.tpw_occam_core.specs.Arithmetic.{pure}
use Rattle.tpw_occam_expressions.proofs.Answering.{answers_constant}
use Rattle.tpw_occam_expressions.proofs.subscripts.mask.Goals as goal

pub returns : goal.returns
returns c = on_ok_weaker c.instr.result (λ is i.
    answers_constant c.args.code.now c.constant.new.self c.instr.new.self c.args.line BitAnd i c.args.bits (pure (bit_and i c.args.bits))
    c.in_ok-constant.ensures is refl) c.instr.ensures
