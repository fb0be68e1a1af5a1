use Rattle.std.proofs.Common.{◌≡◌, length, take}
use Rattle.std.specs.Prelude.{flat_map}
use Rattle.std.specs.Int.{w32, to_le_bytes}
use Rattle.tp_step.specs.Memory.{nothing_defined, with_bytes}
use Rattle.tp_step.specs.State.{mem_start}
use Rattle.tp_step.specs.Runs.{first_words}
use Rattle.tp_machine.specs.Representation.{Holds}
use Rattle.tp_machine.proofs.start.fill.Given as goal

abbrev pub invariant-loop-i : goal.invariant-loop-i
invariant-loop-i l = record {
  held : Holds (with_bytes nothing_defined mem_start (flat_map (to_le_bytes w32) (take l.i (first_words l.image)))) l.workspace;
  long : length l.workspace ≡ 2048;
}
