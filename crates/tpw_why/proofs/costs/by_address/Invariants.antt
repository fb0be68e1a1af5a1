use Rattle.tpw_why.specs.ByAddress.{AreByAddress}
use Rattle.tpw_why.proofs.costs.by_address.Given as goal

abbrev pub invariant-loop-at : goal.invariant-loop-at
invariant-loop-at l = AreByAddress l.image.loops l.listing l.at l.all.items
