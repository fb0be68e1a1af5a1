-- The effects of in and out, and what they leave the devices.
use Rattle.std.proofs.Common.{◌≡◌, ℕ, ◌-◌, ◌*◌, ◌<◌, ◌≤◌, Bool, true, false, ◌&&◌, nat_le, nat_eq, List, ◌++◌, length, take, drop, Some, None, Ok, Err, refl, sym, ap, ◌∙◌, arith, subst}
use Rattle.std.proofs.lemmas.Bool.Decides.{nat_tests}
use Rattle.tp_decode.specs.declared.instr.Instr.TheVariants.{Input, Output}
use Rattle.tp_link.specs.declared.device.DeviceFault.{DeviceFault}
use Rattle.tp_link.specs.Device.{DeviceState, after_send, after_receive, plain_send, plain_receive, MayAnswerSend, MayAnswerReceive}
use Rattle.tp_image.specs.Image.{ImageValue}
use Rattle.tp_step.specs.Maybe.{◌>>◌, only_if}
use Rattle.tp_step.specs.Memory.{Memory, undefined, with_bytes, bytes_at}
use Rattle.tp_step.specs.State.{State, in_workspace, descheduled}
use Rattle.tp_step.specs.Effects.{effect, link0_input, link0_output, is_packet, is_result, is_trace, sent_on}
use Rattle.tpw_machine.specs.declared.phase.Phase.{Phase}
use Rattle.tpw_machine.specs.declared.machine.Machine.{Machine}
use Rattle.tpw_machine.specs.declared.phase.Phase.TheVariants.{BeforePacket, BeforeResult, AfterResult, Stopped}
use Rattle.tp_outcome.specs.Devices.{Devices}
use Rattle.tp_outcome.specs.Answers.{RefusedReceive, RefusedSend}
use Rattle.tpw_machine.specs.Phases.{phase_number}
use Rattle.tpw_machine.specs.Meaning.{Messages, HasExchanged, memory_of, state_of}
use Rattle.tp_outcome.proofs.DeviceLemmas.{took_more}
use Rattle.tp_outcome.proofs.Receiving as receiving

module _ (image : ImageValue) (s : State) (n channel target : ℕ) (a_is : s.areg ≡ Some n) (b_is : s.breg ≡ Some channel) (c_is : s.creg ≡ Some target) where
  -- in, where it is the packet's and its places are in the workspace
  pub input_made : is_packet image channel n s ≡ true → n ≤ length s.to_come → in_workspace image target n ≡ true → in_workspace image (s.wptr - 20) 20 ≡ true
      → effect image Input s ≡ Some (record s {
        areg = None;
        breg = None;
        creg = None;
        memory = undefined (with_bytes s.memory target (take n s.to_come)) (s.wptr - 20) 20;
        phase = 1;
        to_come =
            drop n s.to_come;
      })
  unfolding effect descheduled
  input_made packet enough inside place =
      let le : nat_le n (length s.to_come) ≡ true = grind (arith, nat_tests) in
      rw (a_is, b_is, c_is, packet, le, inside, place)

  -- and where not
  pub input_other : is_packet image channel n s ≡ false → effect image Input s ≡ None
  unfolding effect
  input_other packet = rw (a_is, b_is, c_is, packet)

  pub input_outside : in_workspace image target n ≡ false → effect image Input s ≡ None
  unfolding effect descheduled
  input_outside outside = rw (a_is, b_is, c_is) (by_test (is_packet image channel n s && nat_le n (length s.to_come)) outside)
    where
      by_test : (b : Bool) → in_workspace image target n ≡ false →
          (only_if b >> (only_if (in_workspace image target n) >> descheduled image
          (record s { memory = with_bytes s.memory target (take n s.to_come); to_come = drop n s.to_come; phase = 1 }))) ≡
          None
      by_test true e = rw e
      by_test false e = refl

  pub input_no_place : in_workspace image (s.wptr - 20) 20 ≡ false → effect image Input s ≡ None
  unfolding effect descheduled
  input_no_place outside = rw (a_is, b_is, c_is) (by_test (is_packet image channel n s && nat_le n (length s.to_come)) (in_workspace image target n) outside)
    where
      by_test : (b c : Bool) → in_workspace image (s.wptr - 20) 20 ≡ false →
          (only_if b >> (only_if c >> descheduled image (record s
          { memory = with_bytes s.memory target (take n s.to_come); to_come = drop n s.to_come; phase = 1 }))) ≡ None
      by_test true true e = rw e
      by_test true false e = refl
      by_test false c e = refl

-- out, where its message is defined
pub output_sends : (image : ImageValue) (s t : State) (n channel source : ℕ) (message : List ℕ) → s.areg ≡ Some n →
    s.breg ≡ Some channel → s.creg ≡ Some source → in_workspace image source n ≡ true → descheduled image s ≡ Some t →
    bytes_at t.memory source n ≡ Some message → effect image Output s ≡ sent_on image channel message t
unfolding effect descheduled
output_sends image s t n channel source message a_is b_is c_is inside place read = rw (a_is, b_is, c_is, inside, place, read)

-- ---- the devices

module _ (image : ImageValue) (before now : Devices) (p : Messages) (h : HasExchanged image before BeforePacket p now) where
  pub to_come_length : length p.to_come ≡ 4 * image.packet
  to_come_length = receiving.to_come_length image before.source now.source p.to_come (h.to_come refl) h.source

  -- the packet that was received is what was to come
  pub packet_came : plain_receive now.source (4 * image.packet) ≡ Ok tt → take (4 * image.packet) p.to_come ≡ take (4 * image.packet) now.source.held
  packet_came can = receiving.packet_came image before.source now.source p.to_come (h.to_come refl) h.source can

  -- what stands after the packet
  pub standing_received : (source : DeviceState) → plain_receive now.source (4 * image.packet) ≡ Ok tt → source ≡ after_receive now.source (4 * image.packet) (Ok tt)
      → HasExchanged image before BeforeResult (record p { phase = BeforeResult; to_come = drop (4 * image.packet) p.to_come }) (record now { source = source })
  standing_received source can is = record {
    phase_is = refl;
    to_come = λ e. cc;
    source = receiving.gave_packet image before.source now.source p.to_come (h.to_come refl) h.source source can is;
    sink = h.sink;
    trace = h.trace;
  }

  pub refused_receive : (left : List ℕ) (code : DeviceFault) (source : DeviceState) → left ≡ drop (4 * image.packet) p.to_come → 0 < 4 * image.packet
      → MayAnswerReceive now.source (4 * image.packet) (Err code) → source ≡ after_receive now.source (4 * image.packet) (Err code) → RefusedReceive p.to_come left code now.source source
  refused_receive = receiving.refused_receive image before.source now.source p.to_come (h.to_come refl) h.source

-- what stands after the result, and after a trace message
pub standing_sent : (image : ImageValue) (before now : Devices) (p : Messages) (message : List ℕ) (sink : DeviceState) →
    HasExchanged image before BeforeResult p now → plain_send now.sink message ≡ Ok tt →
    sink ≡ after_send now.sink message (Ok tt)
    → HasExchanged image before AfterResult (record p { phase = AfterResult; sent = p.sent ++ message }) (record now { sink = sink })
standing_sent image before now p message sink h can is = record {
  phase_is = refl;
  to_come = λ e. cc;
  source = h.source;
  sink = took_more before.sink now.sink sink p.sent message h.sink can is;
  trace = h.trace;
}

pub standing_traced : (image : ImageValue) (before now : Devices) (phase : Phase) (p : Messages) (message : List ℕ)
    (trace : DeviceState) → HasExchanged image before phase p now → plain_send now.trace message ≡ Ok tt →
    trace ≡ after_send now.trace message (Ok tt)
    → HasExchanged image before phase (record p { traced = p.traced ++ message }) (record now { trace = trace })
standing_traced image before now phase p message trace h can is = record {
  phase_is = h.phase_is;
  to_come = h.to_come;
  source = h.source;
  sink = h.sink;
  trace = took_more before.trace now.trace trace p.traced message h.trace can is;
}

-- ---- phases

no_and : (a b : Bool) → (a && b) ≡ true → (a ≡ true) × (b ≡ true)
no_and true true e = (refl, refl)
no_and true false e = cc
no_and false b e = cc

first_phase : (phase : Phase) → nat_eq (phase_number phase) 0 ≡ true → phase ≡ BeforePacket
first_phase BeforePacket e = refl
first_phase BeforeResult e = cc
first_phase AfterResult e = cc
first_phase Stopped e = cc

second_phase : (phase : Phase) → nat_eq (phase_number phase) 1 ≡ true → phase ≡ BeforeResult
second_phase BeforePacket e = cc
second_phase BeforeResult e = refl
second_phase AfterResult e = cc
second_phase Stopped e = cc

-- what the tests of a packet and of a result say
pub packet_is : (image : ImageValue) (channel n : ℕ) (phase : Phase) →
    (nat_eq channel link0_input && nat_eq n (4 * image.packet) && nat_eq (phase_number phase) 0) ≡ true →
    (n ≡ 4 * image.packet) × (phase ≡ BeforePacket)
packet_is image channel n phase e =
    let h = no_and (nat_eq channel link0_input && nat_eq n (4 * image.packet)) (nat_eq (phase_number phase) 0) e in
    let k = no_and (nat_eq channel link0_input) (nat_eq n (4 * image.packet)) h.0 in
    (grind (arith, nat_tests, k.1), first_phase phase h.1)

pub result_is : (image : ImageValue) (channel n : ℕ) (phase : Phase) →
    (nat_eq channel link0_output && nat_eq n (4 * image.result) && nat_eq (phase_number phase) 1) ≡ true →
    (n ≡ 4 * image.result) × (phase ≡ BeforeResult)
result_is image channel n phase e =
    let h = no_and (nat_eq channel link0_output && nat_eq n (4 * image.result)) (nat_eq (phase_number phase) 1) e in
    let k = no_and (nat_eq channel link0_output) (nat_eq n (4 * image.result)) h.0 in
    (grind (arith, nat_tests, k.1), second_phase phase h.1)

pub is_packet_at : (image : ImageValue) (m : Machine) (p : Messages) (channel n : ℕ) (phase : Phase) (b : Bool) →
    p.phase ≡ phase → b ≡ (nat_eq channel link0_input && nat_eq n (4 * image.packet) && nat_eq (phase_number phase) 0) →
    is_packet image channel n (state_of m p) ≡ b
is_packet_at image m p channel n phase b is e = rw is (sym e)

pub is_result_at : (image : ImageValue) (m : Machine) (p : Messages) (channel n : ℕ) (phase : Phase) (b : Bool) →
    p.phase ≡ phase → b ≡ (nat_eq channel link0_output && nat_eq n (4 * image.result) && nat_eq (phase_number phase) 1) →
    is_result image channel n (state_of m p) ≡ b
is_result_at image m p channel n phase b is e = rw is (sym e)

-- ---- in, on a machine

module _ (image : ImageValue) (m : Machine) (n channel target : ℕ) (a_is : m.areg ≡ Some n)
    (b_is : m.breg ≡ Some channel) (c_is : m.creg ≡ Some target) (inside : in_workspace image target n ≡ true)
    (place : in_workspace image (m.wptr - 20) 20 ≡ true) (before now : Devices) (p : Messages)
    (h : HasExchanged image before BeforePacket p now) (n_is : n ≡ 4 * image.packet)
    (test : is_packet image channel n (state_of m p) ≡ true) where
  after_input : Messages
  after_input = record p { phase = BeforeResult; to_come = drop n p.to_come }

  input_leads : effect image Input (state_of m p) ≡ Some
      (record (state_of m p) {
        areg = None;
        breg = None;
        creg = None;
        memory = undefined (with_bytes (memory_of m.defined m.bytes) target (take n p.to_come)) (m.wptr - 20) 20;
        phase = 1;
        to_come = drop n p.to_come;
      })
  input_leads =
      let long = to_come_length image before now p h in
      input_made image (state_of m p) n channel target a_is b_is c_is test (omega arith) inside place

  pub input_refused : (code : DeviceFault) (source : DeviceState) → 0 < n → MayAnswerReceive now.source n (Err code) → source ≡ after_receive now.source n (Err code)
      → (t : State) × (effect image Input (state_of m p) ≡ Some t) × (RefusedReceive p.to_come t.to_come code now.source source × (record now { source = source } ≡ record now { source = source }))
  input_refused code source some may is = (
    _,
    input_leads,
    (
      refused_receive image before now p h _ code source (ap (λ k. drop k p.to_come) n_is)
          (omega arith) (subst (λ k. MayAnswerReceive now.source k (Err code)) n_is may)
          (subst (λ k. source ≡ after_receive now.source k (Err code)) n_is is),
      refl,
    ),
  )

  pub input_received : (source : DeviceState) (m1 m2 : Machine) → MayAnswerReceive now.source n (Ok tt) → source ≡ after_receive now.source n (Ok tt)
      → m1 ≡ record m { bytes = m1.bytes; defined = m1.defined }
      → memory_of m1.defined m1.bytes ≡ with_bytes (memory_of m.defined m.bytes) target (take n now.source.held)
      → m2 ≡ record m1 { areg = None; breg = None; creg = None; defined = m2.defined }
      → memory_of m2.defined m2.bytes ≡ undefined (memory_of m1.defined m1.bytes) (m1.wptr - 20) 20
      → (q : Messages) × (effect image Input (state_of m p) ≡ Some (state_of m2 q)) × HasExchanged image before BeforeResult q (record now { source = source })
  unfolding after_input
  input_received source m1 m2 may is same1 memory1 same2 memory2 =
      let can : plain_receive now.source n ≡ Ok tt = sym (may.plainly refl) in
      let can' = subst (λ k. plain_receive now.source k ≡ Ok tt) n_is can in
      let is' = subst (λ k. source ≡ after_receive now.source k (Ok tt)) n_is is in
      let came : take n p.to_come ≡ take n now.source.held = subst (λ k. take k p.to_come ≡ take k now.source.held) (sym n_is) (packet_came image before now p h can') in
      let wptr : m1.wptr ≡ m.wptr = ap (λ x. x.wptr) same1 in
      let memory : memory_of m2.defined m2.bytes ≡ undefined (with_bytes (memory_of m.defined m.bytes) target (take n p.to_come)) (m.wptr - 20) 20 =
      memory2 ∙ ap (λ memory. undefined memory (m1.wptr - 20) 20) memory1 ∙ rw (wptr, came) refl in
      let same : m2 ≡ record m { areg = None; breg = None; creg = None; bytes = m1.bytes; defined = m2.defined } =
      let lost : Machine → Machine = λ x. record x { areg = None; breg = None; creg = None; defined = m2.defined } in
      same2 ∙ ap lost same1 in
      let lands : state_of m2 after_input ≡ record (state_of m p) {
        areg = None;
        breg = None;
        creg = None;
        memory = undefined
            (with_bytes (memory_of m.defined m.bytes) target (take n p.to_come)) (m.wptr - 20) 20;
        phase = 1;
        to_come =
            drop n p.to_come;
      } =
      let over : Memory → State = λ x. record (state_of m2 after_input) { memory = x } in
      ap over memory ∙ rw (same, h.phase_is) refl in (
        after_input,
        input_leads ∙ ap Some (sym lands),
        subst
            (λ k. HasExchanged image before BeforeResult (record p { phase = BeforeResult; to_come = drop k p.to_come })
            (record now { source = source })) (sym n_is) (standing_received image before now p h source can' is'),
      )

-- ---- out, on a machine

module _ (image : ImageValue) (s t : State) (n channel source : ℕ) (message : List ℕ) (leads : effect image Output s ≡ sent_on image channel message t) (long : length message ≡ n) where
  pub output_result : is_result image channel n t ≡ true → effect image Output s ≡ Some (record t { phase = 2; sent = t.sent ++ message })
  output_result test = leads ∙ rw (long, test) refl

  pub output_trace : is_result image channel n t ≡ false → is_trace channel n ≡ true → effect image Output s ≡ Some (record t { traced = t.traced ++ message })
  output_trace test trace = leads ∙ rw (long, test, trace) refl

  pub output_other : is_result image channel n t ≡ false → is_trace channel n ≡ false → effect image Output s ≡ None
  output_other test trace = leads ∙ rw (long, test, trace) refl

module _ (image : ImageValue) (m m1 : Machine) (n channel source : ℕ) (message : List ℕ) (a_is : m.areg ≡ Some n)
    (b_is : m.breg ≡ Some channel) (c_is : m.creg ≡ Some source) (inside : in_workspace image source n ≡ true)
    (place : (p : Messages) → descheduled image (state_of m p) ≡ Some (state_of m1 p))
    (read : bytes_at (memory_of m1.defined m1.bytes) source n ≡ Some message) (long : length message ≡ n) where
  output_leads : (p : Messages) → effect image Output (state_of m p) ≡ sent_on image channel message (state_of m1 p)
  output_leads p = output_sends image (state_of m p) (state_of m1 p) n channel source message a_is b_is c_is inside (place p) read

  module _ (before now : Devices) (phase : Phase) (p : Messages) (h : HasExchanged image before phase p now) (some : 0 < n) where
    some_bytes : 0 < length message
    some_bytes = omega arith

    module _ (test : (nat_eq channel link0_output && nat_eq n (4 * image.result) && nat_eq (phase_number phase) 1) ≡ true) where
      pub result_sent : (sink : DeviceState) → MayAnswerSend now.sink message (Ok tt) → sink ≡ after_send now.sink message (Ok tt)
          → (q : Messages) × (effect image Output (state_of m p) ≡ Some (state_of m1 q)) × HasExchanged image before AfterResult q (record now { sink = sink })
      result_sent sink may is =
          let second = (result_is image channel n phase test).1 in
          let h' = subst (λ phase. HasExchanged image before phase p now) second h in
          let here : is_result image channel n (state_of m1 p) ≡ true = is_result_at image m1 p channel n phase true h.phase_is (sym test) in (
            record p { phase = AfterResult; sent = p.sent ++ message },
            output_result image (state_of m p) (state_of m1 p) n channel source message (output_leads p) long here ∙
                rw h'.phase_is refl,
            standing_sent image before now p message sink h' (sym (may.plainly refl)) is,
          )

      pub result_refused : (code : DeviceFault) (sink : DeviceState) → MayAnswerSend now.sink message (Err code) → sink ≡ after_send now.sink message (Err code)
          → (t : State) × (effect image Output (state_of m p) ≡ Some t) × (RefusedSend p.sent t.sent code now.sink sink × (record now { sink = sink } ≡ record now { sink = sink }))
      result_refused code sink may is =
          let here : is_result image channel n (state_of m1 p) ≡ true = is_result_at image m1 p channel n phase true h.phase_is (sym test) in (
            _,
            output_result image (state_of m p) (state_of m1 p) n channel source message (output_leads p) long here,
            (record { bytes = message; some = some_bytes; sends = refl; may = may; becomes = is }, refl),
          )

    module _ (test : (nat_eq channel link0_output && nat_eq n (4 * image.result) && nat_eq (phase_number phase) 1) ≡ false) (is_it : is_trace channel n ≡ true) where
      pub trace_sent : (trace : DeviceState) → MayAnswerSend now.trace message (Ok tt) → trace ≡ after_send now.trace message (Ok tt)
          → (q : Messages) × (effect image Output (state_of m p) ≡ Some (state_of m1 q)) × HasExchanged image before phase q (record now { trace = trace })
      trace_sent trace may is =
          let here : is_result image channel n (state_of m1 p) ≡ false = is_result_at image m1 p channel n phase false h.phase_is (sym test) in (
            record p { traced = p.traced ++ message },
            output_trace image (state_of m p) (state_of m1 p) n channel source
                message (output_leads p) long here is_it,
            standing_traced image before now phase p message trace h
                (sym (may.plainly refl)) is,
          )

      pub trace_refused : (code : DeviceFault) (trace : DeviceState) → MayAnswerSend now.trace message (Err code) → trace ≡ after_send now.trace message (Err code)
          → (t : State) × (effect image Output (state_of m p) ≡ Some t) × (RefusedSend p.traced t.traced code now.trace trace × (record now { trace = trace } ≡ record now { trace = trace }))
      trace_refused code trace may is =
          let here : is_result image channel n (state_of m1 p) ≡ false = is_result_at image m1 p channel n phase false h.phase_is (sym test) in (
            _,
            output_trace image (state_of m p) (state_of m1 p) n channel source message (output_leads p) long here
                is_it,
            (record { bytes = message; some = some_bytes; sends = refl; may = may; becomes = is }, refl),
          )
