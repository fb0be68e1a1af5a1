use Rattle.std.proofs.Common.{ℕ, List, length, ◌++◌}
use Rattle.tpw_occam_terms.specs.Spelling.{Spells}
use Rattle.tpw_occam_terms.proofs.spelling.text_bytes.Given as goal

-- what spells the rest completes the text
abbrev pub invariant-loop-byte : goal.invariant-loop-byte
invariant-loop-byte l = (rest : List ℕ) → Spells l.left rest → Spells l.spelled (l.bytes.items ++ rest)

abbrev pub decreases-loop-byte : goal.decreases-loop-byte
decreases-loop-byte l = length l.left
