use Rattle.std.proofs.Common.{◌%◌, ap, Some}
use Rattle.std.proofs.lemmas.Result.{on_ok_weaker}
use Rattle.tp_decode.specs.declared.instr.Instr.TheVariants.{Rem}
use Rattle.tpw_occam_core.specs.Arithmetic.{pure}
use Rattle.tpw_occam_expressions.proofs.Answering.{answers_constant}
use Rattle.tpw_occam_expressions.proofs.Indexing.{remainder_answer}
use Rattle.tpw_occam_expressions.proofs.subscripts.remainder.Goals as goal

pub returns : goal.returns
returns c = on_ok_weaker c.instr.result (λ is i h positive small.
    answers_constant c.args.code.now c.constant.new.self c.instr.new.self c.args.line Rem i c.args.size (pure (i % c.args.size))
    c.in_ok-constant.ensures is (ap Some (remainder_answer i c.args.size h positive small))) c.instr.ensures
