-- A machine that goes along the bytes of an instruction.
use Rattle.std.proofs.Common.{◌≡◌, ℕ, ◌+◌, ◌<◌, ◌≤◌, Bool, true, false, not, ◌||◌, if◌then◌else◌, pos, ◌+ℤ◌, Option, Some, None, refl, sym, ap, ◌∙◌, arith, subst}
use Rattle.std.proofs.Math.IntN.{+ℤ_assoc, +ℤ_idr}
use Rattle.std.specs.Option.{option_map_or}
use Rattle.std.proofs.lemmas.Option.{same_Some}
use Rattle.tp_decode.specs.Spelling.{digit_of, is_prefix, is_pfix, is_nfix}
use Rattle.tp_image.specs.Image.{ImageValue}
use Rattle.tp_link.specs.declared.links.LinkFault.{LinkFault}
use Rattle.tp_step.specs.Maybe.{◌>>=◌, ◌>>◌, only_if}
use Rattle.tp_step.specs.State.{State}
use Rattle.tp_step.specs.Steps.{step, steps, code_byte, executed}
use Rattle.tp_step.proofs.StepLemmas.{steps_add}
use Rattle.tp_outcome.specs.Devices.{Devices}
use Rattle.tp_outcome.specs.Answers.{HasCome}
use Rattle.tpw_machine.specs.declared.machine.Machine.{Machine}
use Rattle.tpw_machine.specs.declared.phase.Phase.{Phase}
use Rattle.tpw_machine.specs.declared.phase.Phase.TheVariants.{Stopped}
use Rattle.tpw_machine.specs.declared.turn.Turn.TheVariants as turn
use Rattle.tpw_machine.specs.Phases.{is_stopped}
use Rattle.tpw_machine.specs.Meaning.{Messages, state_of, HasExchanged, Turned}
use Rattle.tpw_machine.proofs.RunLemmas.{begins}
use Rattle.tpw_machine.proofs.TurnLemmas.{not_stopped}
use Rattle.tpw_step.specs.Stepping.{has_prefix, ArePrefixes, Advances}

-- a prefix's step goes on by a byte, and does not stop
pub prefix_keeps : (image : ImageValue) (s t : State) → has_prefix image.code s.iptr ≡ true → step image s ≡ Some t → (t.iptr ≡ s.iptr +ℤ pos 1) × (t.stopped ≡ s.stopped)
unfolding step
prefix_keeps image s t is e = go (not s.stopped) (code_byte image.code s.iptr) is e
  where
    by_test : (p q : Bool) (a b : ℕ) (other : Option State) → (p || q) ≡ true
        → (if p then Some (record s { iptr = s.iptr +ℤ pos 1; oreg = a }) else if q then Some (record s { iptr = s.iptr +ℤ pos 1; oreg = b }) else other) ≡ Some t
        → (t.iptr ≡ s.iptr +ℤ pos 1) × (t.stopped ≡ s.stopped)
    by_test true q a b other is e = let same = same_Some _ _ e in (ap (λ (u : State). u.iptr) (sym same), ap (λ (u : State). u.stopped) (sym same))
    by_test false true a b other is e = let same = same_Some _ _ e in (ap (λ (u : State). u.iptr) (sym same), ap (λ (u : State). u.stopped) (sym same))
    by_test false false a b other is e = cc

    go : (r : Bool) (o : Option ℕ) → option_map_or is_prefix o false ≡ true
        → (only_if r >> (o >>= (λ byte. executed image byte (s.oreg + digit_of byte) (record s { iptr = s.iptr +ℤ pos 1 })))) ≡ Some t
        → (t.iptr ≡ s.iptr +ℤ pos 1) × (t.stopped ≡ s.stopped)
    go false o is e = cc
    go true None is e = cc
    go true (Some byte) is e = by_test (is_pfix byte) (is_nfix byte) _ _ _ is e

module _ (image : ImageValue) (prefixes : ℕ) (first : Machine) (phase : Phase) (now : Devices) where
  -- i bytes of the instruction have led to this machine, in this phase and over these devices
  pub record Along (i : ℕ) (m : Machine) (later : Phase) (after : Devices) : Type 0 where
    pub goes : (before : Devices) (p : Messages) → HasExchanged image before phase p now
        → (q : Messages) × (steps image i (state_of first p) ≡ Some (state_of m q)) × HasExchanged image before later q after
    pub place : i ≤ prefixes → m.iptr ≡ first.iptr +ℤ pos i
    pub running : i ≤ prefixes → is_stopped later ≡ false

  pub along_first : (phase ≡ Stopped → ⊥) → Along 0 first phase now
  unfolding steps
  along_first going = record {
    goes = λ before p h. (p, refl, h);
    place = λ some. sym (+ℤ_idr first.iptr);
    running = λ some. not_stopped phase going;
  }

  pub along_more : (are : ArePrefixes image.code first.iptr prefixes) (i : ℕ) (m n : Machine) (later last : Phase) (after left : Devices)
      → Along i m later after → Turned image (step image) (state_of m) (state_of n) later last after left turn.Made → Along (i + 1) n last left
  unfolding steps
  along_more are i m n later last after left h turned =
      let b = begins image now first phase in
      let r = h.goes now b.messages b.standing in
      let t = turned now r.0 r.2 in
      let keeps : (i < prefixes) → (n.iptr ≡ m.iptr +ℤ pos 1) × (is_stopped (t.0).phase ≡ is_stopped (r.0).phase) =
      λ lt. prefix_keeps image (state_of m r.0) (state_of n t.0)
      (ap (λ at. has_prefix image.code at) (h.place (omega (arith, lt))) ∙ are.each i lt) t.1 in
      record {
        goes = λ before p stands.
            let x = h.goes before p stands in
            let y = turned before x.0 x.2 in
            (y.0, steps_add image i 1 (state_of first p) ∙ rw (x.1, y.1) refl, y.2);
        place = λ lt.
            let on = (keeps (omega (arith, lt))).0 in
            let at = h.place (omega (arith, lt)) in
            on ∙ (ap (λ z. z +ℤ pos 1) at ∙ +ℤ_assoc first.iptr (pos i) (pos 1));
        running = λ lt. sym (ap is_stopped t.2.phase_is) ∙ ((keeps (omega (arith, lt))).1 ∙ (ap is_stopped r.2.phase_is ∙ h.running (omega (arith, lt))));
      }

  pub is_made : (are : ArePrefixes image.code first.iptr prefixes) (i : ℕ) (m : Machine) (later : Phase) (after : Devices) → i ≡ prefixes + 1
      → Along i m later after → Advances image (state_of first) (state_of m) phase later now after (Some turn.Made)
  is_made are i m later after all h = λ before p stands.
      let x = h.goes before p stands in
      (x.0, record { prefixes = prefixes; are = are; leads = ap (λ k. steps image k (state_of first p)) (omega (arith, all)) ∙ x.1 }, x.2)

  come : (i : ℕ) (m : Machine) (later : Phase) (before after : Devices) (p q : Messages) → steps image i (state_of first p) ≡ Some (state_of m q)
      → HasExchanged image before later q after → HasCome image (state_of first p) before i (state_of m q) after
  come i m later before after p q leads h = record {
    leads = leads;
    devices = record { source = h.source; sink = h.sink; trace = h.trace };
  }

  pub is_stuck : (are : ArePrefixes image.code first.iptr prefixes) (i : ℕ) (m n : Machine) (later last : Phase) (after left : Devices) → i ≤ prefixes
      → Along i m later after → Turned image (step image) (state_of m) (state_of n) later last after left turn.Stuck
      → Advances image (state_of first) (state_of n) phase last now left (Some turn.Stuck)
  is_stuck are i m n later last after left within h turned = λ before p stands.
      let x = h.goes before p stands in
      record {
        count = i;
        within = record { prefixes = prefixes; are = are; within = within };
        state = state_of m x.0;
        come = subst (λ d. HasCome image (state_of first p) before i (state_of m x.0) d) (sym turned.1) (come i m later before after p x.0 x.1 x.2);
        stuck = record { running = ap is_stopped x.2.phase_is ∙ h.running within; no_step = turned.0 x.0 x.2.phase_is };
      }

  pub is_refused : (are : ArePrefixes image.code first.iptr prefixes) (i : ℕ) (m n : Machine) (later last : Phase) (after left : Devices) (fault : LinkFault) → i ≤ prefixes
      → Along i m later after → Turned image (step image) (state_of m) (state_of n) later last after left (turn.Refused fault)
      → Advances image (state_of first) (state_of n) phase last now left (Some (turn.Refused fault))
  is_refused are i m n later last after left fault within h turned = λ before p stands.
      let x = h.goes before p stands in
      let y = turned before x.0 x.2 in
      record {
        count = i;
        within = record { prefixes = prefixes; are = are; within = within };
        state = state_of m x.0;
        next = y.0;
        now = after;
        come = come i m later before after p x.0 x.1 x.2;
        step = y.1;
        refused = y.2;
      }
