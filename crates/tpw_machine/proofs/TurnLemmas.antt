-- Turns: those that touch no device, and a turn that makes what another makes from a state on the way.
use Rattle.std.proofs.Common.{◌≡◌, true, false, Option, Some, refl, ap, subst, ◌∙◌, ◌⊎◌, inl, inr}
use Rattle.tp_decode.specs.declared.instr.Instr.{Instr}
use Rattle.tp_decode.specs.declared.instr.Instr.TheVariants.{Input, Output, Stopp}
use Rattle.tp_image.specs.Image.{ImageValue}
use Rattle.tp_link.specs.declared.device.DeviceFault.{DeviceFault}
use Rattle.tp_link.specs.declared.links.Link.{Link}
use Rattle.tp_link.specs.declared.links.Link.TheVariants.{Source, Sink, Trace}
use Rattle.tp_step.specs.State.{State}
use Rattle.tp_step.specs.Effects.{effect}
use Rattle.tpw_machine.specs.declared.machine.Machine.{Machine}
use Rattle.tpw_machine.specs.declared.phase.Phase.{Phase}
use Rattle.tpw_machine.specs.declared.phase.Phase.TheVariants.{BeforePacket, BeforeResult, AfterResult, Stopped}
use Rattle.tpw_machine.specs.declared.turn.Turn.{Turn}
use Rattle.tpw_machine.specs.declared.turn.Turn.TheVariants as turn
use Rattle.tp_outcome.specs.Devices.{Devices}
use Rattle.tp_outcome.specs.Answers.{RefusedReceive, RefusedSend, RefusedAt}
use Rattle.tp_outcome.specs.Quiet.{is_quiet}
use Rattle.tpw_machine.specs.Phases.{phase_number, is_stopped}
use Rattle.tpw_machine.specs.Meaning.{Messages, state_of, Made, Turned, HasExchanged}

pub quiet_rest : (i : Instr) → (i ≡ Input → ⊥) → (i ≡ Output → ⊥) → (i ≡ Stopp → ⊥) → is_quiet i ≡ true
quiet_rest Input a b c = absurd (a refl)
quiet_rest Output a b c = absurd (b refl)
quiet_rest Stopp a b c = absurd (c refl)
quiet_rest _ a b c = refl

pub made_quietly : (image : ImageValue) (f : State → Option State) (old new : Messages → State) (phase : Phase)
    (now : Devices) → Made f old new true → Turned image f old new phase phase now now turn.Made
made_quietly image f old new phase now made = λ before p h. (p, made p, h)

pub stuck_quietly : (image : ImageValue) (f : State → Option State) (old new : Messages → State) (phase : Phase)
    (now : Devices) → Made f old new false → Turned image f old new phase phase now now turn.Stuck
stuck_quietly image f old new phase now made = ((λ p is. made p), refl)

refused_alike : (link : Link) (code : DeviceFault) (s s' t : State) (now after : Devices) → s.to_come ≡ s'.to_come →
    s.sent ≡ s'.sent → s.traced ≡ s'.traced → RefusedAt link code s t now after → RefusedAt link code s' t now after
refused_alike Source code s s' t now after a b c r = (subst (λ x. RefusedReceive x t.to_come code now.source after.source) a r.0, r.1)
refused_alike Sink code s s' t now after a b c r = (subst (λ x. RefusedSend x t.sent code now.sink after.sink) b r.0, r.1)
refused_alike Trace code s s' t now after a b c r = (subst (λ x. RefusedSend x t.traced code now.trace after.trace) c r.0, r.1)

pub turned_alike : (image : ImageValue) (f g : State → Option State) (old mid new : Messages → State) (phase later : Phase) (now after : Devices) (t : Turn)
    → ((p : Messages) → p.phase ≡ phase → f (old p) ≡ g (mid p)) →
    ((p : Messages) → ((mid p).to_come ≡ (old p).to_come) × ((mid p).sent ≡ (old p).sent) ×
    ((mid p).traced ≡ (old p).traced)) → Turned image g mid new phase later now after t →
    Turned image f old new phase later now after t
turned_alike image f g old mid new phase later now after turn.Made same kept turned = λ before p h. let r = turned before p h in (r.0, same p h.phase_is ∙ r.1, r.2)
turned_alike image f g old mid new phase later now after turn.Stuck same kept turned = ((λ p is. same p is ∙ turned.0 p is), turned.1)
turned_alike image f g old mid new phase later now after (turn.Refused fault) same kept turned = λ before p h. let r =
    turned before p h in (
      r.0,
      same p h.phase_is ∙ r.1,
      let k = kept p in
          refused_alike fault.link fault.code (mid p) (old p) r.0 now after k.0 k.1 k.2 r.2,
    )

pub not_stopped : (phase : Phase) → (phase ≡ Stopped → ⊥) → is_stopped phase ≡ false
not_stopped BeforePacket other = refl
not_stopped BeforeResult other = refl
not_stopped AfterResult other = refl
not_stopped Stopped other = absurd (other refl)

pub stopp_made : (image : ImageValue) (m : Machine) (before now : Devices) (phase : Phase) (p : Messages) → phase_number phase ≡ 2 → HasExchanged image before phase p now
    → (q : Messages) × (effect image Stopp (state_of m p) ≡ Some (state_of m q)) × HasExchanged image before Stopped q now
unfolding effect
stopp_made image m before now phase p last h =
    (record p { phase = Stopped }, rw (h.phase_is, last) refl, record { phase_is = refl; to_come = λ e. cc; source = h.source; sink = h.sink; trace = h.trace })

pub last_phase : (phase : Phase) → (phase ≡ AfterResult) ⊎ (phase ≡ Stopped) → phase_number phase ≡ 2
last_phase phase (inl e) = ap phase_number e
last_phase phase (inr e) = ap phase_number e
