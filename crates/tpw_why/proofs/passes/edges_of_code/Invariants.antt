use Rattle.std.proofs.Common.{◌≡◌, take}
use Rattle.std.specs.List.{flat_map}
use Rattle.tp_decode.specs.Cutting.{placed_from}
use Rattle.tp_check.specs.Passes.{edges_of}
use Rattle.tpw_why.proofs.passes.edges_of_code.Given as goal

abbrev pub invariant-loop-i : goal.invariant-loop-i
invariant-loop-i l = l.all.items ≡ flat_map edges_of (take l.i (placed_from 0 l.listing))
