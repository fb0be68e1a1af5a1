use Rattle.tpw_occam_code.proofs.Moving.{clears_nothing, clears_next}
use Rattle.tpw_occam_code.proofs.processes.clear_words.Goals as goal

-- src/processes.rt:44:5
pub loop-word-init : goal.loop-word-init
loop-word-init c = clears_nothing c.args.code.now c.args.a c.args.words

-- src/processes.rt:44:5
pub loop-word-preserved : goal.loop-word-preserved
loop-word-preserved c =
    clears_next c.args.code.now c.loop-word.code c.clear.new.code c.args.a c.args.words c.loop-word.word
    c.loop-word.invariant c.in_ok-clear.ensures
