-- Runs on a machine, step after step, and how they end.
use Rattle.std.proofs.Common.{◌≡◌, ℕ, ◌+◌, ◌-◌, ◌*◌, ◌<◌, ◌≤◌, List, [], length, Result, Ok, Err, refl, sym, ap, ◌∙◌, arith, subst}
use Rattle.tp_link.specs.declared.links.LinkFault.{LinkFault}
use Rattle.tp_image.specs.Image.{ImageValue}
use Rattle.tp_step.specs.State.{State}
use Rattle.tp_step.specs.Steps.{step, steps}
use Rattle.tp_step.specs.Runs.{start}
use Rattle.tp_step.proofs.StepLemmas.{steps_add}
use Rattle.tp_words.specs.Words.{low_word}
use Rattle.tpw_machine.specs.declared.machine.Machine.{Machine}
use Rattle.tp_outcome.specs.declared.outcome.Outcome.{Outcome}
use Rattle.tpw_machine.specs.declared.fault.RunFault.{RunFault}
use Rattle.tpw_machine.specs.declared.fault.RunFault.TheVariants as fault
use Rattle.tpw_machine.specs.declared.phase.Phase.{Phase}
use Rattle.tpw_machine.specs.declared.phase.Phase.TheVariants.{BeforePacket, Stopped}
use Rattle.tpw_machine.specs.declared.turn.Turn.TheVariants as turn
use Rattle.tp_outcome.specs.Devices.{Devices, Gave, packet_of}
use Rattle.tp_outcome.specs.Answers.{HasCome}
use Rattle.tpw_machine.specs.Answers.{AnsweredFrom, Answered}
use Rattle.tpw_machine.specs.Phases.{is_stopped}
use Rattle.tpw_machine.specs.Meaning.{state_of, Turned}
use Rattle.tpw_machine.specs.Resuming.{nothing_sent, HasReached, HasReachedBy, Resumed, LeavesMachine}
use Rattle.tp_outcome.proofs.DeviceLemmas.{packet_length, gave_none, took_none}
use Rattle.tpw_machine.proofs.TurnLemmas.{not_stopped}

-- where it stands at first, with nothing sent
pub begins : (image : ImageValue) (before : Devices) (m : Machine) (phase : Phase) → HasReached image (state_of m (nothing_sent image phase before.source)) before 0 m phase before
unfolding steps
begins image before m phase =
    let packet = packet_of image before.source in
    let none : 4 * image.packet - length packet ≡ 0 = let long = packet_length image before.source in omega arith in
    record {
      messages = nothing_sent image phase before.source;
      leads = refl;
      standing = record {
        phase_is = refl;
        to_come = λ first. refl;
        source = subst (λ k. Gave before.source k before.source) (sym none) (gave_none before.source);
        sink = took_none before.sink;
        trace = took_none before.trace;
      };
    }

module _ (image : ImageValue) (first : State) (before : Devices) where
  pub goes_on : (n : ℕ) (m m' : Machine) (phase later : Phase) (now after : Devices) →
      HasReached image first before n m phase now → Turned image (step image) (state_of m) (state_of m') phase later now
      after turn.Made → HasReached image first before (n + 1) m' later after
  unfolding steps
  goes_on n m m' phase later now after h turned =
      let r = turned before h.messages h.standing in
      record {
        messages = r.0;
        leads = steps_add image n 1 first ∙ rw (h.leads, r.1) refl;
        standing = r.2;
      }

  has_come : (n : ℕ) (m : Machine) (phase : Phase) (now : Devices) → (h : HasReached image first before n m phase now) → HasCome image first before n (state_of m h.messages) now
  has_come n m phase now h = record {
    leads = h.leads;
    devices = record { source = h.standing.source; sink = h.standing.sink; trace = h.standing.trace };
  }

  pub has_ended_here : (limit : ℕ) (now : Devices) (n : ℕ) (m : Machine) (phase : Phase) → phase ≡ Stopped → n ≤ limit →
      HasReached image first before n m phase now → Resumed image first limit before now m phase
      (Ok (record { error = m.error; steps = n }))
  has_ended_here limit now n m phase last within h = (
    record {
      state = state_of m h.messages;
      within = within;
      come = has_come n m phase now h;
      ended = rw (h.standing.phase_is, last) refl;
      error = refl;
    },
    h,
  )

  pub is_stuck_here : (limit : ℕ) (now after : Devices) (n : ℕ) (m m' : Machine) (phase later : Phase) (address : ℕ) →
      (phase ≡ Stopped → ⊥) → n < limit → HasReached image first before n m phase now →
      Turned image (step image) (state_of m) (state_of m') phase later now after turn.Stuck → address ≡ low_word m.iptr →
      Resumed image first limit before after m' later (Err (fault.Stuck address))
  is_stuck_here limit now after n m m' phase later address going within h turned place = (
    record {
      count = n;
      state = state_of m h.messages;
      within = within;
      come = subst (λ d. HasCome image first before n (state_of m h.messages) d) (sym turned.1) (has_come n m phase now h);
      stuck = record { running = ap is_stopped h.standing.phase_is ∙ not_stopped phase going; no_step = turned.0 h.messages h.standing.phase_is };
      place = place;
    },
    tt,
  )

  pub is_refused_here : (limit : ℕ) (now after : Devices) (n : ℕ) (m m' : Machine) (phase later : Phase) (f : LinkFault)
      → n < limit → HasReached image first before n m phase now →
      Turned image (step image) (state_of m) (state_of m') phase later now after (turn.Refused f) →
      Resumed image first limit before after m' later (Err (fault.Link f))
  is_refused_here limit now after n m m' phase later f within h turned =
      let r = turned before h.messages h.standing in (
        record {
          count = n;
          state = state_of m h.messages;
          now = now;
          next = r.0;
          within = within;
          come = has_come n m phase now h;
          step = r.1;
          refused = r.2;
        },
        tt,
      )

  is_out_of_steps : (limit : ℕ) (now : Devices) (m : Machine) (phase : Phase) → (phase ≡ Stopped → ⊥) →
      HasReached image first before limit m phase now → Resumed image first limit before now m phase (Err fault.Limit)
  is_out_of_steps limit now m phase going h = (
    record {
      state = state_of m h.messages;
      come = has_come limit m phase now h;
      going = rw (h.standing.phase_is, not_stopped phase going) refl;
    },
    h,
  )

  -- the same, where as many steps as the limit were made
  pub has_ended_last : (limit : ℕ) (now : Devices) (n : ℕ) (m : Machine) (phase : Phase) → n ≡ limit → phase ≡ Stopped →
      HasReached image first before n m phase now → Resumed image first limit before now m phase
      (Ok (record { error = m.error; steps = limit }))
  has_ended_last limit now n m phase all last h = has_ended_here limit now limit m phase last (omega arith) (subst (λ k. HasReached image first before k m phase now) all h)

  pub is_out_last : (limit : ℕ) (now : Devices) (n : ℕ) (m : Machine) (phase : Phase) → n ≡ limit →
      (phase ≡ Stopped → ⊥) → HasReached image first before n m phase now →
      Resumed image first limit before now m phase (Err fault.Limit)
  is_out_last limit now n m phase all going h = is_out_of_steps limit now m phase going (subst (λ k. HasReached image first before k m phase now) all h)

-- a run that goes on from an image's start is the run of the packet that the source holds
pub from_the_start : (image : ImageValue) (limit : ℕ) (before after : Devices) (m m' : Machine) (later : Phase)
    (answer : Result Outcome RunFault) → ((packet : List ℕ) →
    state_of m (record { phase = BeforePacket; to_come = packet; sent = []; traced = [] }) ≡ start image packet) →
    Resumed image (state_of m (nothing_sent image BeforePacket before.source)) limit before after m' later answer →
    Answered image limit before after answer
from_the_start image limit before after m m' later answer starts resumed =
    subst (λ first. AnsweredFrom image first limit before after answer) (starts (packet_of image before.source)) resumed.0

pub left_standing : (image : ImageValue) (limit : ℕ) (before after : Devices) (m m' : Machine) (later : Phase)
    (answer : Result Outcome RunFault) → ((packet : List ℕ) →
    state_of m (record { phase = BeforePacket; to_come = packet; sent = []; traced = [] }) ≡ start image packet) →
    Resumed image (state_of m (nothing_sent image BeforePacket before.source)) limit before after m' later answer →
    LeavesMachine image limit before after m' answer
left_standing image limit before after m m' later answer starts resumed =
    (later, subst (λ first. HasReachedBy image first limit before after m' later answer) (starts (packet_of image before.source)) resumed.1)
