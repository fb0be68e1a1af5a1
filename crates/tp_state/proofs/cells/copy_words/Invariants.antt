use Rattle.tp_state.specs.CellRules.{copied}
use Rattle.tp_state.specs.Planes.{seen, IsWhole}
use Rattle.tp_state.proofs.CellLemmas.{ChangesFrom}
use Rattle.tp_state.proofs.cells.copy_words.Given as goal

abbrev pub invariant-loop-i : goal.invariant-loop-i
invariant-loop-i l = record {
  whole : IsWhole l.values l.planes;
  changes : ChangesFrom (seen l.initial.values l.initial.planes) (seen l.values l.planes) copied l.x l.y l.i;
}
