use Rattle.std.proofs.Common.{take}
use Rattle.std.specs.List.{AllZip}
use Rattle.tpw_occam_placing.specs.Placing.{IsAssignment}
use Rattle.tpw_occam_placing.proofs.assignments.assignments.Given as goal

abbrev pub invariant-loop-a : goal.invariant-loop-a
invariant-loop-a l = AllZip (IsAssignment l.tables l.scope) (take l.a-index l.list) l.made.items
