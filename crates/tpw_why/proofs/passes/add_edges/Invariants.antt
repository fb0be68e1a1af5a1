use Rattle.std.proofs.Common.{◌≡◌, ◌++◌, take}
use Rattle.tp_check.specs.Passes.{edges_from}
use Rattle.tp_check.specs.Tables.{asked}
use Rattle.tpw_why.proofs.passes.add_edges.Given as goal

abbrev pub invariant-loop-edge : goal.invariant-loop-edge
invariant-loop-edge l = record {
  edges : l.edge-items ≡ asked l.place.instr;
  all : l.all.items ≡ l.initial.all.items ++ edges_from l.place (take l.edge-index (asked l.place.instr));
}
