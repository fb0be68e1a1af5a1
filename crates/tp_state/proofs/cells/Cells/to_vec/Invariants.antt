use Rattle.std.proofs.Common.{◌≡◌, take}
use Rattle.tp_state.proofs.cells.Cells.to_vec.Given as goal

abbrev pub invariant-loop-x : goal.invariant-loop-x
invariant-loop-x l = l.cells.items ≡ take l.x l.self
