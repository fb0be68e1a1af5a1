use Rattle.std.proofs.Common.{subst, arith}
use Rattle.std.proofs.lemmas.Result.{on_ok_weaker}
use Rattle.tpw_occam_core.specs.declared.process.Process.TheVariants as process
use Rattle.tpw_occam_code.specs.Executing.{Executes}
use Rattle.tpw_occam_code.proofs.Copying.{copies, copies_nothing}
use Rattle.tpw_occam_code.proofs.processes.copy.Goals as goal

pub returns-then-to-from : goal.returns-then-to-from
returns-then-to-from c =
    subst (λ from. Executes c.args.emitter.now c.args.code.now c.args.code.now (process.Copy c.args.to from)) c.if-to-from.true
    (copies_nothing c.args.emitter.now c.args.code.now c.args.to)

pub returns : goal.returns
returns c =
    on_ok_weaker c.move_words.result
    (copies c.args.emitter.now c.args.code.now c.move_words.new.code c.args.to c.args.from c.words-words.result
    (λ small. c.words-words.ensures (omega (arith, small)))) c.move_words.ensures
