use Rattle.std.proofs.Common.{◌≡◌, length, map, arith}
use Rattle.tp_outcome.specs.Devices.{devices_of}
use Rattle.tp_accept.proofs.NeverWrong.{never_goes_wrong_of}
use Rattle.tp_farm.specs.Jobs.{value_of_job}
use Rattle.tp_farm.proofs.Promising.{loses_long_traces}
use Rattle.tpw_runs.proofs.Begun.{job_begins}
use Rattle.tpw_runs.proofs.Results.{are_results, all_still, as_many_devices}
use Rattle.tpw_runs.proofs.batches.run_one.Goals as goal

pub run_lent-requires-after_bounds : goal.run_lent-requires-after_bounds
run_lent-requires-after_bounds g c κs within =
    job_begins (length c.args.links.now.items) c.args.job.now c.requires.ready.least c.requires.ready.most c.requires.few c.requires.whole

pub returns-in-Ok-clause-results : goal.returns-in-Ok-clause-results
returns-in-Ok-clause-results g c =
    let accepted = c.args.job.now.image.now in
    are_results (value_of_job c.args.job.now) accepted.budget _ c.in-Ok.ensures.batch.collected.count
    (loses_long_traces (value_of_job c.args.job.now) accepted.budget
    (never_goes_wrong_of accepted.image accepted.budget accepted.acceptable) (g.G.Gate.open_for_good c.args.gate.now) _ _ _
    c.in-Ok.ensures.batch c.requires.open c.requires.ready.take)

pub returns-in-Ok-clause-ready : goal.returns-in-Ok-clause-ready
returns-in-Ok-clause-ready g c =
    let state = g.D.LinkDevice.state in
    let many : length c.run_lent.new.links.items ≡ length c.args.links.now.items =
    as_many_devices (devices_of state) (devices_of state) c.args.links.now.items c.run_lent.new.links.items
    c.in-Ok.ensures.batch.settings in
    record {
      least = omega (arith, many, c.requires.ready.least);
      most = omega (arith, many, c.requires.ready.most);
      take = all_still c.args.job.now.image.now.image _ _ c.in-Ok.ensures.batch.settings c.requires.ready.take;
    }
