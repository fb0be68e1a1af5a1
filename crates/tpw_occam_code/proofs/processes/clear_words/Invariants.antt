use Rattle.tpw_occam_code.specs.Moving.{ClearsWords}
use Rattle.tpw_occam_code.proofs.processes.clear_words.Given as goal

abbrev pub invariant-loop-word : goal.invariant-loop-word
invariant-loop-word l = ClearsWords l.fn.code l.code l.a l.words l.word
