use Rattle.std.proofs.Common.{◌≡◌, ◌++◌, take, drop}
use Rattle.tpw_text.specs.Words.{before_comment}
use Rattle.tpw_text.proofs.words.before_comment.Given as goal

-- no comment begins before the place
abbrev pub invariant-loop-at : goal.invariant-loop-at
invariant-loop-at l = before_comment l.text ≡ take l.at l.text ++ before_comment (drop l.at l.text)
