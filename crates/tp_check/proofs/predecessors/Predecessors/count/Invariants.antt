use Rattle.std.proofs.Common.{◌≡◌, ◌++◌, List, length, drop}
use Rattle.tp_decode.specs.Cutting.{Cut}
use Rattle.tp_decode.specs.declared.placed.Placed.{Placed}
use Rattle.tp_flow.specs.declared.edge.Edge.{Edge}
use Rattle.tp_check.specs.Tables.{asked}
use Rattle.tp_check.specs.Passes.{edges_from, edges_of, edges_in}
use Rattle.tp_check.specs.Carried.{IsAmong}
use Rattle.tp_check.specs.Joining.{ArePredecessors}
use Rattle.tp_check.proofs.predecessors.Predecessors.count.Given as goal

abbrev pub invariant-loop-edge : goal.invariant-loop-edge
invariant-loop-edge l = record {
  edges : l.edges ≡ asked l.place.instr;
  sized : length l.self-inside.predecessors.items ≡ length l.initial.self-inside.predecessors.items;
  reports : (cuts : List Cut) (rest : List (Placed × Edge)) → ((e : Placed × Edge) → IsAmong (edges_of l.place) e → IsAmong (edges_in cuts) e)
      → ArePredecessors l.image cuts (edges_of l.place ++ rest) l.initial.self-inside.predecessors.items →
      ArePredecessors l.image cuts (edges_from l.place (drop l.edge-index (asked l.place.instr)) ++ rest)
      l.self-inside.predecessors.items;
}
