use Rattle.std.proofs.Common.{All, take}
use Rattle.tpw_occam_symbolic.specs.Placing.{HoldsFirst}
use Rattle.tpw_occam_symbolic.proofs.initial.check_words.Given as goal

-- the items so far are there
abbrev pub invariant-loop-place : goal.invariant-loop-place
invariant-loop-place l = All (HoldsFirst l.worker 5 l.words) (take l.place-index l.placed)
