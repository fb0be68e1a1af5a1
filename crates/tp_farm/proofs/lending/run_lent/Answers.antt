use Rattle.std.proofs.Common.{length, sym, subst, ap, ◌∙◌}
use Rattle.tp_farm.specs.Jobs.{value_of_job}
use Rattle.tp_farm.specs.BatchWork.{batch_work}
use Rattle.tp_farm.specs.Refused.{job_fault}
use Rattle.tp_farm.specs.Batches.{IsBatchOver}
use Rattle.tp_farm.proofs.lending.run_lent.Goals as goal

pub returns-in-Ok-clause-batch : goal.returns-in-Ok-clause-batch
returns-in-Ok-clause-batch g c =
    subst (λ v. IsBatchOver g.D.LinkDevice.state (batch_work g.G.Gate.open_for_good c.args.job.now c.args.gate.now) v.items c.in-Ok.batch)
    c.replace-lent.ensures.value c.in-Ok.ensures.batch

pub returns-in-Err-clause-err : goal.returns-in-Err-clause-err
returns-in-Err-clause-err g c =
    c.in-Err.ensures.err (ap (λ v. job_fault (length v.items) (value_of_job c.args.job.now)) c.replace-lent.ensures.value ∙ c.requires)
