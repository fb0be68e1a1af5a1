-- How many members there are.
use Rattle.std.proofs.Common.{List, arith}
use Rattle.tp_link.specs.declared.links.Links.{Links}
use Rattle.tp_session.specs.declared.farm.Farm.{Farm}
use Rattle.tp_session.specs.Fitness.{HasMembers, AreAsMany}

-- as many as before are 1 to 64
pub still_members : {D : Type 0} (before after : List (Links D)) → HasMembers before → AreAsMany before after → HasMembers after
still_members before after has same = record { least = omega (arith, same, has.least); most = omega (arith, same, has.most) }

-- and so are as many as a farm has
pub members_of : {D : Type 0} (farm : Farm D) (after : List (Links D)) → AreAsMany farm.links.items after → HasMembers after
members_of farm after same = record {
  least = omega (arith, same, farm.least, farm.links.ok.0);
  most = omega (arith, same, farm.most, farm.links.ok.0);
}
