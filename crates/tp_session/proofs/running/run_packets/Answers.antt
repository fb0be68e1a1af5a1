use Rattle.std.proofs.Common.{map, refl, true}
use Rattle.tp_outcome.specs.Devices.{devices_of}
use Rattle.tp_accept.proofs.NeverWrong.{never_goes_wrong_of}
use Rattle.tp_farm.specs.Jobs.{value_of_job}
use Rattle.tp_farm.proofs.Promising.{loses_long_traces}
use Rattle.tp_session.proofs.RunLemmas.{short_messages, all_take, all_fit_still, as_many, outcomes}
use Rattle.tp_session.proofs.running.run_packets.Goals as goal

pub returns-in-Ok-clause-outcomes : goal.returns-in-Ok-clause-outcomes
returns-in-Ok-clause-outcomes g c fit =
    let state = g.D.LinkDevice.state in
    let accepted = c.args.job.now.image.now in
    let short = short_messages accepted.image accepted.budget accepted.acceptable in
    let take = all_take accepted.image (map (devices_of state) c.args.links.now.items) short.0 short.1 fit in
    outcomes (value_of_job c.args.job.now) accepted.budget _ c.in-Ok.ensures.batch.collected.count
    (loses_long_traces (value_of_job c.args.job.now) accepted.budget
    (never_goes_wrong_of accepted.image accepted.budget accepted.acceptable) true _ _ _ c.in-Ok.ensures.batch refl take)

pub returns-in-Ok-clause-members : goal.returns-in-Ok-clause-members
returns-in-Ok-clause-members g c =
    let state = g.D.LinkDevice.state in
    as_many (devices_of state) (devices_of state) c.args.links.now.items c.run_lent.new.links.items c.in-Ok.ensures.batch.settings

pub returns-in-Ok-clause-fit : goal.returns-in-Ok-clause-fit
returns-in-Ok-clause-fit g c fit = all_fit_still _ _ c.in-Ok.ensures.batch.settings fit
