use Rattle.std.proofs.Common.{map, All, sym, subst}
use Rattle.tp_outcome.specs.Devices.{devices_of}
use Rattle.tp_session.specs.Fitness.{AreFitOf}
use Rattle.tp_session.proofs.RunLemmas.{fit_taken, fit_left, fit_both}
use Rattle.tp_session.proofs.running.run_on_enough.Goals as goal

pub returns-clause-outcomes : goal.returns-clause-outcomes
returns-clause-outcomes g c fit =
    let f = devices_of g.D.LinkDevice.state in
    c.in_ok-collected.ensures.outcomes (subst (λ l. All AreFitOf (map f l)) (sym c.in_ok-resting.ensures.items)
    (fit_taken f c.members_for-enough.result c.args.links.now.items fit))

pub returns-clause-fit : goal.returns-clause-fit
returns-clause-fit g c fit =
    let f = devices_of g.D.LinkDevice.state in
    let all = c.args.links.now.items in
    let lent =
    c.in_ok-collected.ensures.fit (subst (λ l. All AreFitOf (map f l)) (sym c.in_ok-resting.ensures.items)
    (fit_taken f c.members_for-enough.result all fit)) in
    let resting =
    subst (λ l. All AreFitOf (map f l)) (sym c.in_ok-resting.ensures.tail) (fit_left f c.members_for-enough.result all fit) in
    subst (λ l. All AreFitOf (map f l)) (sym c.in_ok-append.ensures.items)
    (fit_both f c.run_packets.new.links.items c.in_ok-resting.resting.items lent resting)
