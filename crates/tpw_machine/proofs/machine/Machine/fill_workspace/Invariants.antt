use Rattle.std.proofs.Common.{◌≡◌, take}
use Rattle.std.specs.Prelude.{flat_map}
use Rattle.std.specs.Int.{w32, to_le_bytes}
use Rattle.tp_step.specs.Memory.{nothing_defined, with_bytes}
use Rattle.tp_step.specs.State.{mem_start}
use Rattle.tp_step.specs.Runs.{first_words}
use Rattle.tpw_machine.specs.Meaning.{memory_of}
use Rattle.tpw_machine.proofs.machine.Machine.fill_workspace.Given as goal

abbrev pub invariant-loop-i : goal.invariant-loop-i
invariant-loop-i l = record {
  rest : l.self ≡ record l.fn.self { bytes = l.self.bytes; defined = l.self.defined };
  memory : memory_of l.self.defined l.self.bytes ≡ with_bytes nothing_defined mem_start (flat_map (to_le_bytes w32) (take l.i (first_words l.image)));
}
