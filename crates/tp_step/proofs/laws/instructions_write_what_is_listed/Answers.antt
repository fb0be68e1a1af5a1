use Rattle.tp_step.proofs.WritesLemmas.{effect_written, step_written}
use Rattle.tp_step.proofs.laws.instructions_write_what_is_listed.Goals as goal

pub returns-clause-instruction : goal.returns-clause-instruction
returns-clause-instruction c = effect_written

pub returns-clause-step : goal.returns-clause-step
returns-clause-step c = step_written
