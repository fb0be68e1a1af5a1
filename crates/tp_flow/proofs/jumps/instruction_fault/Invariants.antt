use Rattle.std.proofs.Common.{◌≡◌, take, []}
use Rattle.std.specs.List.{filter_map}
use Rattle.tp_decode.specs.Cutting.{placed_from}
use Rattle.tp_flow.specs.FlowFaults.{fault_of}
use Rattle.tp_flow.specs.Stretches.{IsStretch}
use Rattle.tp_flow.proofs.jumps.instruction_fault.Given as goal

abbrev pub invariant-loop-i : goal.invariant-loop-i
invariant-loop-i l = record {
  passed : filter_map (fault_of l.image l.listing) (take l.i (placed_from 0 l.listing)) ≡ [];
  alike : IsStretch l.nest l.stretch.first l.stretch.last;
}
