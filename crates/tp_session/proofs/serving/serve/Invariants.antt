use Rattle.std.proofs.Common.{◌≡◌, length}
use Rattle.tp_session.specs.Served.{most_read}
use Rattle.tp_session.specs.Fitness.{AreFit, HasMembers, AreAsMany}
use Rattle.tp_session.proofs.ServeLemmas.{SoFar}
use Rattle.tp_session.proofs.serving.serve.Given as goal

-- what was taken of the input is answered, and all members are there
abbrev pub invariant-loop : goal.invariant-loop
invariant-loop g l = record {
  turns : (goal.iterator-loop g).can_next l.iterator' × (goal.iterator-loop g).is_finite l.iterator';
  room : length l.buffer ≡ most_read;
  members : HasMembers l.service.links.items;
  as_many : AreAsMany l.fn.farm.links.items l.service.links.items;
  so_far : AreFit g.D.LinkDevice.state l.fn.farm.links.items
      → SoFar g.D.LinkDevice.state l.fn.farm.trace (g.R.Read.remaining l.fn.reader)
      (g.R.Read.remaining l.reader) (g.W.Write.contents l.fn.writer) (g.W.Write.contents l.writer) l.partial l.service;
}
