use Rattle.std.proofs.Common.{◌≡◌}
use Rattle.tpw_occam_meaning.specs.States.{turns}
use Rattle.tpw_occam_scoped.specs.Meaning.{run}
use Rattle.tpw_occam_interpreter.specs.Memories.{state_of}
use Rattle.tpw_occam_interpreter.proofs.running.+run.Given as goal

abbrev pub decreases-run : goal.decreases-run
decreases-run g l = goal.size-run g l

abbrev pub invariant-loop-turn : goal.invariant-loop-turn
invariant-loop-turn g l = state_of l.memory ≡ turns (run l.body.value) l.cell l.start l.turn (state_of l.fn.memory)
