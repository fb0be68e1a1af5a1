use Rattle.std.proofs.Common.{◌≡◌, Ok, take}
use Rattle.tp_check.specs.Tables.{table_of, HasPlacedStates}
use Rattle.tp_check.specs.Passes.{along_edges}
use Rattle.tp_check.specs.Rising.{Moves}
use Rattle.tpw_why.proofs.passes.pass.Given as goal

abbrev pub invariant-loop-instruction : goal.invariant-loop-instruction
invariant-loop-instruction l = record {
  placed : HasPlacedStates l.image (table_of l.table);
  arrives : along_edges l.image (take l.instruction-index l.asked) (table_of l.initial.table) ≡ Ok (table_of l.table);
  moves : Moves l.image l.is_changed l.initial.table l.table;
}
