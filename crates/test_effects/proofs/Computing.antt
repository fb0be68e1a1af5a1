-- What a run computes with.
use Rattle.tp_decode.specs.Table.{operation, instruction}
use Rattle.tp_step.specs.Memory.{with_cells, with_bytes, undefined, bytes_at, word_at, with_word}
use Rattle.tp_step.specs.State.{load, store, descheduled}
use Rattle.tp_step.specs.Effects.{effect}
use Rattle.tp_step.specs.Steps.{step, steps}
use Rattle.tp_step.specs.Runs.{start, run_of}

unfoldable pub by_steps : Unit {0}
unfolding operation instruction with_cells with_bytes undefined bytes_at word_at with_word load store descheduled effect step steps start run_of
by_steps = tt
