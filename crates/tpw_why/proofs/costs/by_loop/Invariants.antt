use Rattle.std.proofs.Common.{◌≡◌, map, take}
use Rattle.tpw_why.specs.ByAddress.{loop_cost}
use Rattle.tpw_why.proofs.costs.by_loop.Given as goal

abbrev pub invariant-loop-row : goal.invariant-loop-row
invariant-loop-row l = record {
  rows : l.row-items ≡ l.image.loops;
  all : l.all.items ≡ map (loop_cost l.image.loops l.listing) (take l.row-index l.image.loops);
}
