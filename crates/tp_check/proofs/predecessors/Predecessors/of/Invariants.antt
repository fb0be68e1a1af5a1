use Rattle.std.proofs.Common.{◌≡◌, length, drop}
use Rattle.std.specs.List.{flat_map}
use Rattle.tp_decode.specs.Cutting.{placed_from}
use Rattle.tp_check.specs.Passes.{edges_of}
use Rattle.tp_check.specs.Joining.{ArePredecessors}
use Rattle.tp_check.proofs.predecessors.Predecessors.of.Given as goal

abbrev pub invariant-loop-i : goal.invariant-loop-i
invariant-loop-i l = record {
  sized : length l.predecessors ≡ l.places;
  reports : ArePredecessors l.image l.listing (flat_map edges_of (drop l.i (placed_from 0 l.listing))) l.predecessors;
}
