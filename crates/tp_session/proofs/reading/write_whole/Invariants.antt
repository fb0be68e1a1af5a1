use Rattle.std.proofs.Common.{◌≡◌, ◌++◌, ℕ, List, length}
use Rattle.std.specs.Io.KnownBytes.{Appends}
use Rattle.tp_session.proofs.reading.write_whole.Given as goal

-- what is written and what is left are the text
abbrev pub invariant-loop-rest : goal.invariant-loop-rest
invariant-loop-rest g l =
    (written : List ℕ) × (l.text ≡ written ++ l.rest) × Appends (g.W.Write.contents l.fn.writer) (g.W.Write.contents l.writer)
    written

abbrev pub decreases-loop-rest : goal.decreases-loop-rest
decreases-loop-rest g l = length l.rest
