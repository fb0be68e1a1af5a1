use Rattle.std.proofs.Common.{◌≡◌, take}
use Rattle.tp_state.proofs.planes.copied_planes.Given as goal

abbrev pub invariant-loop-bits : goal.invariant-loop-bits
invariant-loop-bits l = l.copy.items ≡ take l.bits-index l.planes.items
