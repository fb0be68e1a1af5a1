use Rattle.std.proofs.Common.{◌≡◌, ◌++◌, map, take}
use Rattle.tpw_occam_core.specs.declared.scope.Entry.TheVariants as entry
use Rattle.tpw_occam_core.proofs.environment.globals.Given as goal

abbrev pub invariant-loop-x : goal.invariant-loop-x
invariant-loop-x l = l.scope.items ≡ map entry.Variable (take l.x-index l.worker.global_variables.items)

abbrev pub invariant-loop-a : goal.invariant-loop-a
invariant-loop-a l =
    l.scope.items ≡ map entry.Variable l.worker.global_variables.items ++ map entry.Array (take l.a-index l.worker.global_arrays.items)
