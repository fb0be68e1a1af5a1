-- Jumps, messages and the ends of turns carry over.
use Rattle.std.proofs.Common.{◌≡◌, ℕ, ◌+◌, ◌-◌, ◌*◌, ◌%◌, ◌^◌, ◌<◌, ◌≤◌, Bool, true, false, ◌&&◌, nat_le, nat_eq}
use Rattle.std.proofs.Common.{if◌then◌else◌, pos, List, ◌++◌, length, take, drop, Option, Some, None, refl, ap, sym, subst, ◌∙◌, arith}
use Rattle.std.specs.Prelude.{◌+ℤ◌, ◌-ℤ◌}
use Rattle.std.proofs.lemmas.Bool.Decides.{nat_tests}
use Rattle.std.proofs.lemmas.Int.{ints}
use Rattle.std.proofs.lemmas.List.{length-take-le}
use Rattle.tp_words.specs.Words.{low_word}
use Rattle.tp_decode.specs.declared.instr.Instr.TheVariants.{Jump, Cj, Ldc, Stopp, Input, Output}
use Rattle.tp_image.specs.Image.{ImageValue}
use Rattle.tp_step.specs.Maybe.{◌>>◌, only_if}
use Rattle.tp_step.specs.Memory.{undefined, with_bytes as with_bytes_at, bytes_at as bytes_from}
use Rattle.tp_step.specs.State.{State, in_workspace, descheduled, no_registers, push as push_in, pop as pop_in}
use Rattle.tp_step.specs.Effects.{effect as effect_in, go, is_packet, sent_on as sent_in, link0_output, link1_output, link0_input, most_trace_message}
use Rattle.tpw_asm.specs.Layout.{distance as distance_between}
use Rattle.tpw_occam_symbolic.specs.declared.code.Step.TheVariants.{JumpTo, CjTo, Distance}
use Rattle.tpw_occam_symbolic.specs.Blocks.{Blocks, with_bytes, bytes_at}
use Rattle.tpw_occam_symbolic.specs.Symbolic.{Machine, distance, number_in, address_in, effect, performed, push, pop, at_place, with_blocks, has_bytes, sent_on}
use Rattle.tpw_occam_symbolic.specs.MatchStates.{Site, address_of, LiesIn, Agrees, MatchStates}
use Rattle.tpw_occam_symbolic.proofs.Simulation.{Carries, both_carry, none_carries, none_carried, bind_machine, when_machine, bind_state, when_state, with_registers, with_memory, with_place, agrees_bytes, agrees_undefined}
use Rattle.tpw_occam_symbolic.proofs.SimulationNumbers.{number_held}
use Rattle.tpw_occam_symbolic.proofs.SimulationMemory.{address_held, descheduled_state, room_of, bytes_there}

pub with_streams : (site : Site) (m : Machine) (s : State) (x y z x' y' z' : List ℕ) (phase : ℕ) → MatchStates site m s
    → x' ≡ x → y' ≡ y → z' ≡ z
    → MatchStates site (record m { to_come = x; sent = y; traced = z }) (record s { to_come = x'; sent = y'; traced = z'; phase = phase })
with_streams site m s x y z x' y' z' phase is a b c = record {
  code = is.code;
  sizes = is.sizes;
  place = is.place;
  oreg = is.oreg;
  wptr = is.wptr;
  areg = is.areg;
  breg = is.breg;
  creg = is.creg;
  memory = is.memory;
  error = is.error;
  stopped = is.stopped;
  to_come = a;
  sent = b;
  traced = c;
}

with_stopped : (site : Site) (m : Machine) (s : State) → MatchStates site m s
    → MatchStates site (record m { stopped = true }) (record s { stopped = true })
with_stopped site m s is = record {
  code = is.code;
  sizes = is.sizes;
  place = is.place;
  oreg = is.oreg;
  wptr = is.wptr;
  areg = is.areg;
  breg = is.breg;
  creg = is.creg;
  memory = is.memory;
  error = is.error;
  stopped = refl;
  to_come = is.to_come;
  sent = is.sent;
  traced = is.traced;
}

descheduled_last : (site : Site) (o : Option Machine) (image : ImageValue) (s : State)
    → Carries site o (Some (no_registers (record s { memory = undefined s.memory (s.wptr - 20) 20 })))
    → Carries site o (descheduled image s)
unfolding descheduled
descheduled_last site o image s there = by_test (in_workspace image (s.wptr - 20) 20)
  where
    by_test : (b : Bool) → Carries site o (only_if b >> Some (no_registers (record s { memory = undefined s.memory (s.wptr - 20) 20 })))
    by_test false = none_carries site o
    by_test true = there

ahead_is : (a b : ℕ) → a ≤ b → pos a +ℤ pos (b - a) ≡ pos b
ahead_is a b h = ap pos (omega (arith, h))

pub back_is : (a f : ℕ) → f ≤ a → pos a +ℤ (pos 0 -ℤ pos (a - f)) ≡ pos f
back_is a f h = grind (arith, ints, h)

module _ (image : ImageValue) (site : Site) (lies : LiesIn image site) where
  -- what a place to deschedule leaves carries as much
  pub rested : (m : Machine) (s : State) (a n : ℕ) → MatchStates site m s → MatchStates site m (no_registers (record s { memory = undefined s.memory a n }))
  rested m s a n is =
      with_registers site m (record s { memory = undefined s.memory a n }) m.areg m.breg m.creg None None None
      (with_memory site m s m.blocks (undefined s.memory a n) is (agrees_undefined image site lies m.blocks s.memory a n is.memory))
      tt tt tt

  gone : (m : Machine) (s : State) (to bytes : ℕ) → MatchStates site m s → address_of site m.place ≤ address_of site to
      → bytes ≡ address_of site to - address_of site m.place → MatchStates site (at_place to m) (go (pos bytes) s)
  gone m s to bytes is forward long =
      with_place site m s to (s.iptr +ℤ pos bytes) is
      (ap (λ z. z +ℤ pos bytes) is.place ∙ ap (λ n. pos (address_of site m.place) +ℤ pos n) long ∙ ahead_is _ _ forward)

module _ (image : ImageValue) (site : Site) (lies : LiesIn image site) (m : Machine) (s : State) (is : MatchStates site m s) where
  -- ---- jumps

  pub jump_carries : (place to : ℕ) → m.place ≡ place + 1 → address_of site (place + 1) ≤ address_of site to
      → Carries site (performed (JumpTo to) m) (effect_in image (Jump (pos (distance_between site.addresses (place + 1) to))) s)
  unfolding performed effect_in
  jump_carries place to behind forward =
      let rest = no_registers (record s { memory = undefined s.memory (s.wptr - 20) 20 }) in
      let bytes = distance_between site.addresses (place + 1) to in
      descheduled_state site _ image s _
      (both_carry site (at_place to m) (go (pos bytes) rest)
      (gone image site lies m rest to bytes (rested image site lies m s (s.wptr - 20) 20 is)
      (subst (λ p. address_of site p ≤ address_of site to) (sym behind) forward)
      (ap (λ p. address_of site to - address_of site p) (sym behind))))

  pub cj_carries : (place to : ℕ) → m.place ≡ place + 1 → address_of site (place + 1) ≤ address_of site to
      → Carries site (performed (CjTo to) m) (effect_in image (Cj (pos (distance_between site.addresses (place + 1) to))) s)
  unfolding performed effect_in
  cj_carries place to behind forward =
      bind_machine site (number_in m.areg) _ _ λ a is_a.
      bind_state site _ s.areg _ λ a' is_a'.
      let same : a' ≡ a = number_held site m.areg s.areg a a' is.areg is_a is_a' in
      subst (λ x. Carries site (Some (if nat_eq a 0 then at_place to m else pop m)) (Some (if nat_eq x 0 then go (pos bytes) s else pop_in s))) (sym same)
      (by_test (nat_eq a 0))
    where
      bytes : ℕ
      bytes = distance_between site.addresses (place + 1) to

      by_test : (b : Bool) → Carries site (Some (if b then at_place to m else pop m)) (Some (if b then go (pos bytes) s else pop_in s))
      by_test true =
          both_carry site (at_place to m) (go (pos bytes) s)
          (gone image site lies m s to bytes is (subst (λ p. address_of site p ≤ address_of site to) (sym behind) forward)
          (ap (λ p. address_of site to - address_of site p) (sym behind)))
      by_test false =
          both_carry site (pop m) (pop_in s) (with_registers site m s m.breg m.creg m.creg s.breg s.creg None is is.breg is.creg tt)

  pub distance_carries : (from to : ℕ) → address_of site from ≤ address_of site to
      → Carries site (performed (Distance from to) m) (effect_in image (Ldc (pos (distance_between site.addresses from to))) s)
  unfolding performed effect_in
  distance_carries from to forward =
      let bytes = distance_between site.addresses from to in
      let small : address_of site to - address_of site from < 2 ^ 32 = omega (arith, lies.small to) in
      let same : low_word (pos bytes) ≡ address_of site to - address_of site from = omega (arith, small) in
      both_carry site (push (distance from to) m) (push_in (low_word (pos bytes)) s)
      (with_registers site m s (distance from to) m.areg m.breg (Some (low_word (pos bytes))) s.areg s.breg is (same, forward) is.areg is.breg)

  pub stopp_carries : Carries site (effect Stopp m) (effect_in image Stopp s)
  unfolding effect effect_in
  stopp_carries =
      when_state site _ (nat_eq s.phase 2) _ λ last.
      both_carry site (record m { stopped = true }) (record s { stopped = true }) (with_stopped site m s is)

  -- ---- messages

  pub input_carries : Carries site (effect Input m) (effect_in image Input s)
  unfolding effect effect_in
  input_carries =
      bind_machine site (number_in m.areg) _ _ λ n is_n.
      bind_machine site (number_in m.breg) _ _ λ channel is_channel.
      bind_machine site (address_in m.creg) _ _ λ target is_target.
      when_machine site (nat_eq channel link0_input) _ _ λ link.
      when_machine site (nat_le n (length m.to_come)) _ _ λ enough.
      when_machine site (has_bytes m target.0 target.1 n) _ _ λ has.
      bind_state site _ s.areg _ λ n' is_n'.
      bind_state site _ s.breg _ λ channel' is_channel'.
      bind_state site _ s.creg _ λ target' is_target'.
      when_state site _ (is_packet image channel' n' s && nat_le n' (length s.to_come)) _ λ may.
      when_state site _ (in_workspace image target' n') _ λ inside.
      let count : n' ≡ n = number_held site m.areg s.areg n n' is.areg is_n is_n' in
      let to = address_held site m.creg s.creg target target' is.creg is_target is_target' in
      let most : n ≤ length m.to_come = grind (arith, nat_tests, enough) in
      let long : length (take n m.to_come) ≡ n = length-take-le n m.to_come most in
      let packet : take n' s.to_come ≡ take n m.to_come = ap (λ k. take k s.to_come) count ∙ ap (take n) is.to_come in
      let rest : drop n' s.to_come ≡ drop n m.to_come = ap (λ k. drop k s.to_come) count ∙ ap (drop n) is.to_come in
      let blocks : List ℕ → Blocks = λ bytes. with_bytes target.0 target.1 bytes m.blocks in
      let memory = with_bytes_at s.memory target' (take n' s.to_come) in
      let received = record s { memory = memory; to_come = drop n' s.to_come; phase = 1 } in
      let after = with_blocks (blocks (take n m.to_come)) (record m { to_come = drop n m.to_come }) in
      descheduled_last site _ image received
      (both_carry site after (no_registers (record received { memory = undefined received.memory (received.wptr - 20) 20 }))
      (rested image site lies after received (received.wptr - 20) 20
      (with_streams site (with_blocks (blocks (take n m.to_come)) m) (record s { memory = memory }) (drop n m.to_come) m.sent m.traced (drop n' s.to_come) s.sent s.traced 1
      (with_memory site m s (blocks (take n m.to_come)) memory is
      (subst (λ bytes. Agrees site (blocks (take n m.to_come)) (with_bytes_at s.memory target' bytes)) (sym packet)
      (agrees_bytes image site lies m.blocks s.memory target.0 target.1 target' (take n m.to_come) is.memory to
      (omega (arith, long, room_of site m target.0 target.1 n is.sizes has)))))
      rest is.sent is.traced)))

  apart_links : (channel : ℕ) → nat_eq channel link0_output ≡ true → nat_eq channel link1_output ≡ false
  apart_links channel e = grind (arith, nat_tests)

  sent_carries : (t : State) → MatchStates site m t → (channel : ℕ) (message message' : List ℕ) → message' ≡ message
      → Carries site (sent_on channel message m) (sent_in image channel message' t)
  sent_carries t is' channel message message' same =
      by_test (nat_eq channel link0_output) (nat_eq channel link1_output)
      (nat_eq (length message') (4 * image.result)) (nat_eq t.phase 1)
      (nat_eq (length message' % 4) 0) (nat_le 4 (length message')) (nat_le (length message') most_trace_message) (apart_links channel)
    where
      out : Carries site (Some (record m { sent = m.sent ++ message })) (Some (record t { phase = 2; sent = t.sent ++ message' }))
      out =
          both_carry site (record m { sent = m.sent ++ message }) (record t { phase = 2; sent = t.sent ++ message' })
          (with_streams site m t m.to_come (m.sent ++ message) m.traced t.to_come (t.sent ++ message') t.traced 2 is'
          is'.to_come (ap (λ b. b ++ message') is'.sent ∙ ap (λ b. m.sent ++ b) same) is'.traced)

      trace : Carries site (Some (record m { traced = m.traced ++ message })) (Some (record t { traced = t.traced ++ message' }))
      trace =
          both_carry site (record m { traced = m.traced ++ message }) (record t { traced = t.traced ++ message' })
          (with_streams site m t m.to_come m.sent (m.traced ++ message) t.to_come t.sent (t.traced ++ message') t.phase is'
          is'.to_come is'.sent (ap (λ b. b ++ message') is'.traced ∙ ap (λ b. m.traced ++ b) same))

      by_sent : (x : Bool) → Carries site (Some (record m { sent = m.sent ++ message }))
          (if x then Some (record t { phase = 2; sent = t.sent ++ message' }) else None)
      by_sent true = out
      by_sent false = none_carries site _

      by_traced : (y : Bool) → Carries site (Some (record m { traced = m.traced ++ message }))
          (if y then Some (record t { traced = t.traced ++ message' }) else None)
      by_traced true = trace
      by_traced false = none_carries site _

      by_test : (p q x x' y y' y'' : Bool) → (p ≡ true → q ≡ false)
          → Carries site (if p then Some (record m { sent = m.sent ++ message }) else if q then Some (record m { traced = m.traced ++ message }) else None)
          (if p && x && x' then Some (record t { phase = 2; sent = t.sent ++ message' }) else if q && y && y' && y'' then Some (record t { traced = t.traced ++ message' }) else None)
      by_test true true x x' y y' y'' off = absurd (let e = off refl in cc)
      by_test true false x x' y y' y'' off = by_sent (x && x')
      by_test false true x x' y y' y'' off = by_traced (y && y' && y'')
      by_test false false x x' y y' y'' off = none_carried site _

  pub output_carries : Carries site (effect Output m) (effect_in image Output s)
  unfolding effect effect_in
  output_carries =
      bind_machine site (number_in m.areg) _ _ λ n is_n.
      bind_machine site (number_in m.breg) _ _ λ channel is_channel.
      bind_machine site (address_in m.creg) _ _ λ source is_source.
      when_machine site (has_bytes m source.0 source.1 n) _ _ λ has.
      bind_state site _ s.areg _ λ n' is_n'.
      bind_state site _ s.breg _ λ channel' is_channel'.
      bind_state site _ s.creg _ λ source' is_source'.
      when_state site _ (in_workspace image source' n') _ λ inside.
      let rest = no_registers (record s { memory = undefined s.memory (s.wptr - 20) 20 }) in
      let after = rested image site lies m s (s.wptr - 20) 20 is in
      descheduled_state site _ image s _
      (bind_state site _ (bytes_from rest.memory source' n') _ λ message found.
      let count : n' ≡ n = number_held site m.areg s.areg n n' is.areg is_n is_n' in
      let link : channel' ≡ channel = number_held site m.breg s.breg channel channel' is.breg is_channel is_channel' in
      let from = address_held site m.creg s.creg source source' is.creg is_source is_source' in
      let same : message ≡ bytes_at m.blocks source.0 source.1 n =
      bytes_there image site lies m rest after source.0 source.1 n source' message (room_of site m source.0 source.1 n is.sizes has) from
      (ap (bytes_from rest.memory source') (sym count) ∙ found) in
      subst (λ c. Carries site (sent_on channel (bytes_at m.blocks source.0 source.1 n) m) (sent_in image c message rest)) (sym link)
      (sent_carries rest after channel (bytes_at m.blocks source.0 source.1 n) message same))
