use Rattle.std.proofs.Common.{refl, sym, ◌∙◌, subst}
use Rattle.tp_outcome.specs.Devices.{devices_of}
use Rattle.tpw_machine.specs.Meaning.{HasExchanged, state_of}
use Rattle.tpw_machine.proofs.ExchangeLemmas.{input_refused, input_received, input_other, input_outside, input_no_place, packet_is, is_packet_at}
use Rattle.tpw_machine.proofs.machine.Machine.input.Goals as goal
use Rattle.tpw_machine.proofs.machine.Machine.input.Goals.{then-not-is_packet-via-then-not-is_packet}
use Rattle.tpw_machine.proofs.machine.Machine.input.Goals.{then-not-is_packet-via-else-not-is_packet+then-not-in_workspace}
use Rattle.tpw_machine.proofs.machine.Machine.input.Goals.{then-not-is_packet-via-else-not-is_packet+else-not-in_workspace+then-not-may_deschedule}

pub returns-in-Err : goal.returns-in-Err
returns-in-Err g c = rw c.refused.ensures (λ before p h.
    let image = c.args.image.now in
    let m = c.args.self.now in
    let r = c.in-Some-Some-Some in
    let is = packet_is image r.channel r.n c.args.phase.now (sym c.is_packet.ensures.value ∙ c.if-not-is_packet.false) in
    let test = is_packet_at image m p r.channel r.n c.args.phase.now c.is_packet.result h.phase_is c.is_packet.ensures.value ∙ c.if-not-is_packet.false in
    let h' = subst (λ phase. HasExchanged image before phase p (devices_of g.D.LinkDevice.state c.args.links.now)) is.1 h in
    input_refused image m r.n r.channel r.target r.is-0 r.is-1 r.is-2
    (sym c.in_workspace.ensures.value ∙ c.if-not-in_workspace.false)
    (sym c.may_deschedule.ensures.value ∙ c.if-not-may_deschedule.false) before _ p h' is.0 test
    c.in-Err.code _ (c.is_packet.ensures.some c.if-not-is_packet.false) c.in-Err.ensures.answer c.in-Err.ensures.device)

pub returns-then-not-is_packet : goal.returns-then-not-is_packet
returns-then-not-is_packet g c =
    let image = c.args.image.now in
    let m = c.args.self.now in
    let r = c.in-Some-Some-Some in
    elim c.then-not-is_packet.branch [
      | then-not-is_packet-via-then-not-is_packet w ↦ (
        (λ p is. input_other image (state_of m p) r.n r.channel r.target
            r.is-0 r.is-1 r.is-2 (is_packet_at image m p r.channel r.n c.args.phase.now c.is_packet.result is
            c.is_packet.ensures.value ∙ w.if-not-is_packet.true)),
        refl,
      )
      | then-not-is_packet-via-else-not-is_packet+then-not-in_workspace w ↦ (
        (λ p is. input_outside image (state_of m p) r.n r.channel r.target r.is-0 r.is-1 r.is-2
            (sym w.in_workspace.ensures.value ∙ w.if-not-in_workspace.true)),
        refl,
      )
      | then-not-is_packet-via-else-not-is_packet+else-not-in_workspace+then-not-may_deschedule w ↦ (
        (λ p is. input_no_place image (state_of m p) r.n r.channel r.target r.is-0 r.is-1 r.is-2
            (sym w.may_deschedule.ensures.value ∙ w.if-not-may_deschedule.true)),
        refl,
      )
    ]

pub returns-in-Ok : goal.returns-in-Ok
returns-in-Ok g c = λ before p h.
    let image = c.args.image.now in
    let m = c.args.self.now in
    let r = c.in-Some-Some-Some in
    let is = packet_is image r.channel r.n c.args.phase.now (sym c.is_packet.ensures.value ∙ c.if-not-is_packet.false) in
    let test = is_packet_at image m p r.channel r.n c.args.phase.now c.is_packet.result h.phase_is c.is_packet.ensures.value ∙ c.if-not-is_packet.false in
    let h' = subst (λ phase. HasExchanged image before phase p (devices_of g.D.LinkDevice.state c.args.links.now)) is.1 h in
    input_received image m r.n r.channel r.target r.is-0 r.is-1 r.is-2
    (sym c.in_workspace.ensures.value ∙ c.if-not-in_workspace.false)
    (sym c.may_deschedule.ensures.value ∙ c.if-not-may_deschedule.false) before _ p h' is.0 test
    _ c.receive.new.self c.lose_below.new.self c.in-Ok.ensures.answer c.in-Ok.ensures.device c.in-Ok.ensures.rest c.in-Ok.ensures.memory c.lose_below.ensures.rest c.lose_below.ensures.memory
