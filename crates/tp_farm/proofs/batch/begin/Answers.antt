use Rattle.std.proofs.Common.{map, length, replicate, sym, ap, ◌∙◌}
use Rattle.std.proofs.lemmas.List.{length-map}
use Rattle.tp_collect.specs.Collected.{job_of_parts}
use Rattle.tp_collect.specs.Collecting.{collection, vacant}
use Rattle.tp_farm.specs.Jobs.{value_of_job}
use Rattle.tp_farm.proofs.Beginning.{begun}
use Rattle.tp_farm.proofs.batch.begin.Goals as goal

pub returns-in-Ok-clause-begun : goal.returns-in-Ok-clause-begun
returns-in-Ok-clause-begun c = begun c.args.members (value_of_job c.args.job.now) (c.job_fault.ensures.whole c.in_default.is)
    (sym c.job_fault.ensures.fault ∙ c.in_default.is)

pub returns-in-Ok-clause-collector : goal.returns-in-Ok-clause-collector
returns-in-Ok-clause-collector c =
    let job = c.args.job.now in
    c.in-Ok.ensures
    ∙ ap (λ image. collection (job_of_parts job.batch image (map (λ p. p.items) job.packets.now))
    (replicate (length job.packets.now) vacant)) c.image.ensures
    ∙ ap (λ n. collection (value_of_job job) (replicate n vacant)) (sym (length-map job.packets.now (λ p. p.items)))
