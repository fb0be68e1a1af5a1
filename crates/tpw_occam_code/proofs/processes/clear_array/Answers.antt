use Rattle.std.proofs.Common.{arith}
use Rattle.std.proofs.lemmas.Result.{on_ok_weaker}
use Rattle.tpw_occam_code.proofs.Copying.{clears}
use Rattle.tpw_occam_code.proofs.processes.clear_array.Goals as goal

-- src/processes.rt:173:5
pub returns-then-words-le-FEW_WORDS : goal.returns-then-words-le-FEW_WORDS
returns-then-words-le-FEW_WORDS c =
    on_ok_weaker c.clear_words.result (λ clear.
    clears c.args.emitter.now c.args.code.now c.clear_words.new.code c.args.a c.words-words.result
    (λ small. c.words-words.ensures (omega (arith, small))) (λ few. clear)) c.clear_words.ensures

-- src/processes.rt:173:5
pub returns-else-words-le-FEW_WORDS : goal.returns-else-words-le-FEW_WORDS
returns-else-words-le-FEW_WORDS c =
    on_ok_weaker c.clear_by_moves.result
    (clears c.args.emitter.now c.args.code.now c.clear_by_moves.new.code c.args.a c.words-words.result
    (λ small. c.words-words.ensures (omega (arith, small)))) c.clear_by_moves.ensures
