use Rattle.std.proofs.Common.{◌≡◌, subst}
use Rattle.std.specs.List.{AllZip}
use Rattle.tp_farm.specs.Working.{HasWorkedOn}
use Rattle.tp_farm.proofs.Joining.{joined_zip}
use Rattle.tp_farm.proofs.members.start_feed_and_join.Goals as goal

pub returns-clause-worked : goal.returns-clause-worked
returns-clause-worked g c =
    let hs = c.in_ok-started.started.handles in let rs = c.in_ok-returned.returned in
    let joined = c.in_ok-returned.ensures.joined in
    let R = HasWorkedOn g.D.LinkDevice.state g.G.Gate.open_for_good c.args.shared.now in
    subst (λ v. AllZip R v rs.items) (c.in_ok-started.ensures.before joined.0)
    (joined_zip (λ h. h.promise.before.value) _ R (λ h. h.promise.shared.now ≡ c.args.shared.now)
    (λ h r e k.
    subst (λ s. HasWorkedOn g.D.LinkDevice.state g.G.Gate.open_for_good s h.promise.before.value r)
    e k)
    hs.items rs.items c.in_ok-started.ensures.shared joined.1)
