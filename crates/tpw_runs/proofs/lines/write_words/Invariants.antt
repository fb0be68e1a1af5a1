use Rattle.std.proofs.Common.{◌≡◌, ◌++◌, length}
use Rattle.tpw_runs.specs.Lines.{words_text}
use Rattle.tpw_runs.proofs.lines.write_words.Given as goal

-- what is written and the words left are the words of all
abbrev pub invariant-loop-word : goal.invariant-loop-word
invariant-loop-word l = l.out.items ++ words_text l.rest ≡ l.fn.out.items ++ words_text l.bytes

abbrev pub decreases-loop-word : goal.decreases-loop-word
decreases-loop-word l = length l.rest
