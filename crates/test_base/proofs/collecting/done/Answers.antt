use Rattle.std.proofs.Common.{refl, false, []}
use Rattle.tp_step.specs.Runs.{RunsAlone}
use Rattle.test_base.specs.Workers.{increment, one, two}
use Rattle.test_base.proofs.Computing.{by_steps}
use Rattle.test_base.proofs.collecting.done.Goals as goal

runs : RunsAlone increment one record { result = two; error = false; steps = 16; trace = [] }
unfolding by_steps
runs = refl

pub new-requires-2 : goal.new-requires-2
new-requires-2 c = rw (c.requires, c.word.ensures, c.word-2.ensures, c.new.ensures) runs
