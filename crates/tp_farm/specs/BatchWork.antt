-- What all members of a batch work on.
use Rattle.std.specs.Prelude.{Bool}
use Rattle.tp_collect.specs.Collected.{JobValue}
use Rattle.tp_farm.specs.declared.job.Job.{Job}
use Rattle.tp_farm.specs.Jobs.{value_of_job}

-- what all members work on: the batch, and whether its gate is open for good
pub record BatchWork : Type 0 where
  pub batch : JobValue
  pub open_for_good : Bool

abbrev pub batch_work : {G : Type 0} → (G → Bool) → Job → G → BatchWork
batch_work open_for_good job gate = record {
  batch = value_of_job job;
  open_for_good = open_for_good gate;
}
