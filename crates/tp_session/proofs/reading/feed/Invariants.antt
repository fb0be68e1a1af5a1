use Rattle.std.proofs.Common.{◌≡◌, ◌++◌, ℕ, List, length}
use Rattle.tp_session.specs.Fitness.{HasMembers, AreAsMany}
use Rattle.tp_session.specs.Points.{AtEachPoint, GoesOn}
use Rattle.tp_session.proofs.reading.feed.Given as goal

-- the lines that the bytes so far end are answered, and all members are there
abbrev pub invariant-loop-line : goal.invariant-loop-line
invariant-loop-line g l = record {
  members : HasMembers l.service.links.items;
  as_many : AreAsMany l.fn.service.links.items l.service.links.items;
  front : List ℕ;
  parted : l.bytes ≡ front ++ l.rest;
  goes : AtEachPoint g.D.LinkDevice.state l.fn.partial l.fn.service (g.W.Write.contents l.fn.writer) (λ trace begun s.
      GoesOn g.D.LinkDevice.state trace begun l.partial l.service (g.W.Write.contents l.writer) (s.taken ++ front));
}

abbrev pub decreases-loop-line : goal.decreases-loop-line
decreases-loop-line g l = length l.rest
