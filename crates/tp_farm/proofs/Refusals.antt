-- Why a run has no result.
use Rattle.std.proofs.Common.{◌≡◌, ℕ, ◌+◌, ◌-◌, ◌*◌, ◌<◌, ◌≤◌, ◌⊎◌, inl, inr, Bool, true, false, if◌then◌else◌, List, ◌++◌}
use Rattle.std.proofs.Common.{length, take, Some, Result, Ok, Err, IfErr, refl, sym, ap, ◌∙◌, subst, arith, length-append}
use Rattle.std.proofs.Common.{length-drop}
use Rattle.std.proofs.lemmas.Bool.{cases_eq}
use Rattle.std.proofs.lemmas.Bool.Decides.{nat_tests}
use Rattle.std.proofs.lemmas.List.{take_all}
use Rattle.tp_link.specs.Device.{DeviceState, Answer, plain_send, plain_receive, MayAnswer}
use Rattle.tp_link.specs.declared.device.DeviceFault.{DeviceFault}
use Rattle.tp_link.specs.declared.device.DeviceFault.TheVariants.{Closed, Full, Short, Failed}
use Rattle.tp_link.specs.declared.links.Link.{Link}
use Rattle.tp_link.specs.declared.links.Link.TheVariants.{Source, Sink, Trace}
use Rattle.tp_link.specs.declared.links.LinkFault.{LinkFault}
use Rattle.tp_image.specs.Image.{ImageValue}
use Rattle.tp_step.specs.State.{State}
use Rattle.tp_step.specs.Steps.{step, steps, Reaches}
use Rattle.tp_step.specs.Runs.{start, HasExchanged}
use Rattle.tp_step.proofs.StepLemmas.{steps_add, ends_in}
use Rattle.tp_step.proofs.SentLemmas.{reached_exchanged}
use Rattle.tp_outcome.specs.declared.outcome.Outcome.{Outcome}
use Rattle.tp_outcome.specs.Devices.{Devices, packet_of}
use Rattle.tp_outcome.specs.Answers.{start_of, HasCome, Refused, Answered}
use Rattle.tp_outcome.proofs.DeviceLemmas.{packet_held}
use Rattle.tp_collect.specs.DoneValue.{most_trace}
use Rattle.tp_farm.specs.Settings.{SameSettings}
use Rattle.tp_farm.specs.Losses.{HasCause, MayLose, TracesMore}
use Rattle.tp_farm.specs.Stages.{IsReady, HasTraced}
use Rattle.tp_farm.specs.Handled.{HasReason}

-- ---- what follows of a device that refuses

same_Err : (e f : DeviceFault) → ◌≡◌ {A = Answer} (Err e) (Err f) → e ≡ f
same_Err e f is = cc

err_of : {X : Type 0} (o b : Bool) (code e f : DeviceFault)
    → ◌≡◌ {A = Answer} (Err code) (if o then (if b then Ok tt else Err e) else Err f) → (code ≡ f → o ≡ false → X)
    → (code ≡ e → b ≡ false → X) → X
err_of true true code e f is closed lacks = cc
err_of true false code e f is closed lacks = lacks (same_Err code e is) refl
err_of false b code e f is closed lacks = closed (same_Err code f is) refl

module _ (d : DeviceState) (P : Type 0) where
  send_cause : (bytes : List ℕ) (code : DeviceFault) → MayAnswer d (plain_send d bytes) (Err code)
      → (d.room < length d.held + length bytes → P) → HasCause d P code
  send_cause bytes Failed may room = may.can_fail refl
  send_cause bytes Closed may room = err_of d.opened _ Closed Full Closed (may.plainly refl) (λ e o. o) (λ e b. cc)
  send_cause bytes Full may room =
      err_of d.opened _ Full Full Closed (may.plainly refl) (λ e o. cc) (λ e b. room (grind (arith, nat_tests, b)))
  send_cause bytes Short may room = err_of d.opened _ Short Full Closed (may.plainly refl) (λ e o. cc) (λ e b. cc)

  receive_cause : (n : ℕ) (code : DeviceFault) → MayAnswer d (plain_receive d n) (Err code) → n ≤ length d.held
      → HasCause d P code
  receive_cause n Failed may enough = may.can_fail refl
  receive_cause n Closed may enough = err_of d.opened _ Closed Short Closed (may.plainly refl) (λ e o. o) (λ e b. cc)
  receive_cause n Full may enough = err_of d.opened _ Full Short Closed (may.plainly refl) (λ e o. cc) (λ e b. cc)
  receive_cause n Short may enough =
      err_of d.opened _ Short Short Closed (may.plainly refl) (λ e o. cc) (λ e b. absurd (grind (arith, nat_tests, b, enough)))

-- the same cause, of the device as it was
pub same_cause : (d e : DeviceState) (P Q : Type 0) → d.fallible ≡ e.fallible → d.opened ≡ e.opened → (P → Q)
    → (code : DeviceFault) → HasCause e P code → HasCause d Q code
same_cause d e P Q a o f Failed h = a ∙ h
same_cause d e P Q a o f Closed h = o ∙ h
same_cause d e P Q a o f Full h = f h
same_cause d e P Q a o f Short h = h

-- ---- a run

whole_packet : (packet : List ℕ) (n : ℕ) → length packet ≡ n → take n packet ≡ packet
whole_packet packet n long = take_all n packet (omega (arith, long))

pub ready_packet : (image : ImageValue) (packet : List ℕ) (now : Devices) → IsReady packet now → length packet ≡ 4 * image.packet
    → packet_of image now.source ≡ packet
ready_packet image packet now ready long =
    let enough : 4 * image.packet ≤ length now.source.held = omega (arith, ap length ready.source, long) in
    packet_held image now.source enough ∙ ap (take (4 * image.packet)) ready.source ∙ whole_packet packet (4 * image.packet) long

module _ (image : ImageValue) (budget : ℕ) (packet : List ℕ) (before : Devices) (ready : IsReady packet before)
    (long : length packet ≡ 4 * image.packet) where
  come_to : (n : ℕ) (s : State) (now : Devices) → HasCome image (start_of image before) before n s now
      → steps image n (start image packet) ≡ Some s
  come_to n s now come =
      subst (λ p. steps image n (start image p) ≡ Some s) (ready_packet image packet before ready long) come.leads

  -- the state after one more step
  next_reached : (n : ℕ) (s t : State) (now : Devices) → HasCome image (start_of image before) before n s now
      → step image s ≡ Some t → Reaches image (start image packet) t
  unfolding steps
  next_reached n s t now come made = record {
    count = n + 1;
    leads = steps_add image n 1 (start image packet) ∙ rw (come_to n s now come, made) refl;
  }

  -- what is to come of a packet is no more than the source holds
  source_enough : (n : ℕ) (s : State) (now : Devices) → HasCome image (start_of image before) before n s now
      → length s.to_come ≤ length now.source.held
  source_enough n s now come = by_phase (cases_eq s.phase 0)
    where
      e : HasExchanged image packet s.phase s.to_come s.sent
      e = reached_exchanged image packet s (record { count = n; leads = come_to n s now come })

      held : length now.source.held ≡ length packet - (4 * image.packet - length s.to_come)
      held =
          ap (λ d. length d.held) come.devices.source.becomes ∙ length-drop (4 * image.packet - length s.to_come)
          before.source.held ∙ ap (λ xs. length xs - (4 * image.packet - length s.to_come)) ready.source

      by_phase : (s.phase ≡ 0) ⊎ (s.phase ≡ 0 → ⊥) → length s.to_come ≤ length now.source.held
      by_phase (inl first) = omega (arith, held, long, ap length (e.all first))
      by_phase (inr later) = omega (arith, held, long, ap length (e.rest later), length-drop (4 * image.packet) packet)

  -- a result that was sent is whole
  result_whole : (t : State) (s_sent bytes : List ℕ) → Reaches image (start image packet) t → t.sent ≡ s_sent ++ bytes
      → 0 < length bytes → length t.sent ≡ 4 * image.result
  result_whole t s_sent bytes way is some = by_phase (cases_eq t.phase 2)
    where
      e : HasExchanged image packet t.phase t.to_come t.sent
      e = reached_exchanged image packet t way

      by_phase : (t.phase ≡ 2) ⊎ (t.phase ≡ 2 → ⊥) → length t.sent ≡ 4 * image.result
      by_phase (inl after) = e.result after
      by_phase (inr other) = absurd (omega (arith, ap length (e.nothing other), ap length is, length-append s_sent bytes, some))

  refused_reason : (which : Link) (code : DeviceFault) (after : Devices)
      → Refused image (start_of image before) budget before after which code → MayLose image packet before which code
  refused_reason Source code after r =
      let d = r.come.devices.source in let receive = r.refused.0 in
      let enough = source_enough r.count r.state r.now r.come in
      same_cause before.source r.now.source _ _ (sym (ap (λ x. x.fallible) d.becomes)) (sym (ap (λ x. x.opened) d.becomes))
      (λ lacks. lacks) code
      (receive_cause r.now.source (before.source.room < 4 * image.packet) _ code receive.may (omega (arith, enough)))
  refused_reason Sink code after r =
      let d = r.come.devices.sink in let send = r.refused.0 in
      let held = ap (λ x. length x.held) d.becomes in
      let room = ap (λ x. x.room) d.becomes in
      let whole =
      result_whole r.next r.state.sent send.bytes (next_reached r.count r.state r.next r.now r.come r.step) send.sends
      send.some in
      same_cause before.sink r.now.sink _ _ (sym (ap (λ x. x.fallible) d.becomes)) (sym (ap (λ x. x.opened) d.becomes))
      (λ lacks. lacks) code
      (send_cause r.now.sink (before.sink.room < 4 * image.result) send.bytes code send.may λ lacks.
      omega (
        arith,
        lacks,
        held,
        room,
        whole,
        ap length send.sends,
        length-append r.state.sent send.bytes,
        length-append before.sink.held r.state.sent,
        ap length ready.sink,
      ))
  refused_reason Trace code after r =
      let d = r.come.devices.trace in let send = r.refused.0 in
      let held = ap (λ x. length x.held) d.becomes in
      let room = ap (λ x. x.room) d.becomes in
      let way = next_reached r.count r.state r.next r.now r.come r.step in
      same_cause before.trace r.now.trace _ _ (sym (ap (λ x. x.fallible) d.becomes)) (sym (ap (λ x. x.opened) d.becomes))
      (λ lacks. lacks) code
      (send_cause r.now.trace (TracesMore image packet before.trace.room) send.bytes code send.may λ lacks.
      record {
        state = r.next;
        way = way;
        more = omega (
          arith,
          lacks,
          held,
          room,
          ap length send.sends,
          length-append r.state.traced send.bytes,
          length-append before.trace.held r.state.traced,
          ap length ready.trace,
        );
      })

  pub run_reason : (after : Devices) (answer : Result Outcome LinkFault) → Answered image budget before after answer
      → IfErr answer (HasReason image packet before)
  run_reason after (Ok outcome) h = tt
  run_reason after (Err f) h = refused_reason f.link f.code after h

-- ---- a trace that is too long

pub long_trace : (image : ImageValue) (packet traced : List ℕ) (room : ℕ) → HasTraced image packet traced
    → most_trace < length traced → TracesMore image packet room
long_trace image packet traced room h more =
    let x = ends_in image packet h.run h.alone in
    record {
      state = x.0;
      way = record { count = h.run.steps; leads = x.1.leads };
      more = omega (arith, more, ap length h.is, ap (λ r. length r.trace) x.1.gives);
    }

-- ---- the same reason, of the devices as they were

pub lose_before : (image : ImageValue) (packet : List ℕ) (before now : Devices) (which : Link) (code : DeviceFault)
    → SameSettings before now → MayLose image packet now which code → MayLose image packet before which code
lose_before image packet before now Source code same h =
    same_cause before.source now.source _ _ (sym same.source.fallible) (sym same.source.opened)
    (λ lacks. subst (λ room. room < 4 * image.packet) same.source.room lacks) code h
lose_before image packet before now Sink code same h =
    same_cause before.sink now.sink _ _ (sym same.sink.fallible) (sym same.sink.opened)
    (λ lacks. subst (λ room. room < 4 * image.result) same.sink.room lacks) code h
lose_before image packet before now Trace code same h =
    same_cause before.trace now.trace _ _ (sym same.trace.fallible) (sym same.trace.opened)
    (λ lacks. subst (TracesMore image packet) same.trace.room lacks) code h

pub same_reason : (image : ImageValue) (packet : List ℕ) (before now : Devices) (f : LinkFault) → SameSettings before now
    → HasReason image packet now f → HasReason image packet before f
same_reason image packet before now f same h = lose_before image packet before now f.link f.code same h
