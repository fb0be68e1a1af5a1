-- The end of a turn carries over.
use Rattle.std.proofs.Common.{◌≡◌, ℕ, ◌+◌, ◌-◌, ◌%◌, ◌^◌, ◌<◌, ◌≤◌, Bool, true, false, nat_le, nat_eq, w32}
use Rattle.std.proofs.Common.{if◌then◌else◌, pos, Option, Some, None, refl, ap, sym, subst, ◌∙◌, arith}
use Rattle.std.specs.Prelude.{◌+ℤ◌, ◌-ℤ◌, int_lt}
use Rattle.std.proofs.lemmas.Bool.Decides.{nat_tests}
use Rattle.std.proofs.lemmas.Int.{to_z_pos}
use Rattle.std.proofs.lemmas.Option.{same_Some}
use Rattle.tp_words.specs.Words.{signed, low_word}
use Rattle.tp_decode.specs.declared.instr.Instr.TheVariants.{Lend}
use Rattle.tp_image.specs.Image.{ImageValue}
use Rattle.tp_step.specs.Maybe.{◌>>=◌}
use Rattle.tp_words.specs.Numbers.{words_on}
use Rattle.tp_step.specs.Memory.{undefined, with_word as with_word_at}
use Rattle.tp_step.specs.State.{State, load, store, descheduled, no_registers}
use Rattle.tp_step.specs.Effects.{effect as effect_in, go, turn_ended as turn_ended_in}
use Rattle.tpw_occam_symbolic.specs.declared.items.Item.{Item}
use Rattle.tpw_occam_symbolic.specs.Blocks.{word_at, with_word}
use Rattle.tpw_occam_symbolic.specs.Symbolic.{Machine, Contents, number, address, distance, address_in, distance_to, effect, at_place, with_blocks, has_bytes, turn_ended}
use Rattle.tpw_occam_symbolic.specs.MatchStates.{Site, address_of, base_of, LiesIn, IsHeld, MatchStates}
use Rattle.tpw_occam_symbolic.proofs.Simulation.{Carries, both_carry, bind_machine, when_machine, bind_state, with_memory, with_place, agrees_undefined}
use Rattle.tpw_occam_symbolic.proofs.SimulationMemory.{address_held, descheduled_state, store_state, word_there, word_stored, words_further}
use Rattle.tpw_occam_symbolic.proofs.SimulationControl.{rested, back_is}

-- a register in which the distance to a place is
distance_held : (site : Site) (c : Contents) (o : Option ℕ) (place from word : ℕ) → IsHeld site c o → distance_to place c ≡ Some from
    → o ≡ Some word → (word ≡ address_of site place - address_of site from) × (address_of site from ≤ address_of site place)
distance_held site (distance from' to) (Some v) place from word held is found = by_test (nat_eq to place) refl is
  where
    by_test : (b : Bool) → nat_eq to place ≡ b → (if b then Some from' else None) ≡ Some from
        → (word ≡ address_of site place - address_of site from) × (address_of site from ≤ address_of site place)
    by_test false e is' = absurd cc
    by_test true e is' =
        let same : to ≡ place = grind (arith, nat_tests, e) in
        let same' : from' ≡ from = same_Some _ _ is' in (
          sym (same_Some _ _ found) ∙ held.0 ∙ ap (λ p. address_of site p - address_of site from') same ∙ ap (λ p. address_of site place - address_of site p) same',
          subst (λ p. address_of site p ≤ address_of site place) same' (subst (λ p. address_of site from' ≤ address_of site p) same held.1),
        )
distance_held site (distance from' to) None place from word held is found = absurd cc
distance_held site (number n) o place from word held is found = absurd cc
distance_held site (address item at) o place from word held is found = absurd cc

fewer : (x y size : ℕ) → x ≤ y → nat_le y size ≡ true → nat_le x size ≡ true
fewer x y size h e = grind (arith, nat_tests, h, e)

module _ (image : ImageValue) (site : Site) (lies : LiesIn image site) where
  -- control goes back
  gone_back : (m : Machine) (s : State) (back word : ℕ) → MatchStates site m s → address_of site back ≤ address_of site m.place
      → word ≡ address_of site m.place - address_of site back
      → MatchStates site (at_place back m) (go (pos 0 -ℤ signed word) s)
  gone_back m s back word is before long =
      let small : word < 2 ^ 31 = omega (arith, long, lies.small m.place) in
      with_place site m s back (s.iptr +ℤ (pos 0 -ℤ signed word)) is
      (ap (λ z. z +ℤ (pos 0 -ℤ signed word)) is.place
      ∙ ap (λ z. pos (address_of site m.place) +ℤ (pos 0 -ℤ z)) (to_z_pos w32 word small)
      ∙ ap (λ n. pos (address_of site m.place) +ℤ (pos 0 -ℤ pos n)) long
      ∙ back_is (address_of site m.place) (address_of site back) before)

  turn_carries : (m : Machine) (s : State) → MatchStates site m s → (block : Item) (at block' index left back word : ℕ)
      → has_bytes m block at 4 ≡ true → block' ≡ (base_of site block + at) % 2 ^ 32
      → address_of site back ≤ address_of site m.place → word ≡ address_of site m.place - address_of site back
      → Carries site (Some (turn_ended block at index left back m)) (turn_ended_in image block' index left (signed word) s)
  turn_carries m s is block at block' index left back word has there before long = by_test (int_lt (pos 0) (signed left))
    where
      next : ℕ
      next = low_word (signed index +ℤ pos 1)

      by_test : (more : Bool)
          → Carries site (Some (if more then at_place back (with_blocks (with_word block at next m.blocks) m) else m))
          (if more then
          (store image block' next s >>= λ t. descheduled image t >>= λ u. Some (go (pos 0 -ℤ signed word) u))
          else (descheduled image s >>= λ t. Some (record t { memory = undefined t.memory block' 8 })))
      by_test true =
          let m1 = with_blocks (with_word block at next m.blocks) m in
          let s1 = record s { memory = with_word_at s.memory block' next } in
          let s2 = no_registers (record s1 { memory = undefined s1.memory (s1.wptr - 20) 20 }) in
          store_state site _ image block' next s _
          (descheduled_state site _ image s1 _
          (both_carry site (at_place back m1) (go (pos 0 -ℤ signed word) s2)
          (gone_back m1 s2 back word
          (rested image site lies m1 s1 (s1.wptr - 20) 20 (word_stored image site lies m s is block at block' next next has there refl)) before long)))
      by_test false =
          let s1 = no_registers (record s { memory = undefined s.memory (s.wptr - 20) 20 }) in
          let is1 = rested image site lies m s (s.wptr - 20) 20 is in
          descheduled_state site _ image s _
          (both_carry site m (record s1 { memory = undefined s1.memory block' 8 })
          (with_memory site m s1 m.blocks (undefined s1.memory block' 8) is1
          (agrees_undefined image site lies m.blocks s1.memory block' 8 is1.memory)))

  pub lend_carries : (m : Machine) (s : State) → MatchStates site m s → Carries site (effect Lend m) (effect_in image Lend s)
  unfolding effect effect_in
  lend_carries m s is =
      bind_machine site (address_in m.breg) _ _ λ block is_block.
      when_machine site (has_bytes m block.0 block.1 8) _ _ λ has.
      bind_machine site (distance_to m.place m.areg) _ _ λ back is_back.
      bind_state site _ s.areg _ λ back' is_back'.
      bind_state site _ s.breg _ λ block' is_block'.
      bind_state site _ (load image s block') _ λ index' is_index.
      bind_state site _ (load image s (words_on block' (pos 1))) _ λ count' is_count.
      let there = address_held site m.breg s.breg block block' is.breg is_block is_block' in
      let there' : words_on block' (pos 1) ≡ (base_of site block.0 + (block.1 + 4)) % 2 ^ 32 = words_further block' (base_of site block.0) block.1 1 there in
      let far = distance_held site m.areg s.areg m.place back back' is.areg is_back is_back' in
      let has_index = fewer (block.1 + 4) (block.1 + 8) (m.sizes block.0) (omega arith) has in
      let has_count = fewer (block.1 + 4 + 4) (block.1 + 8) (m.sizes block.0) (omega arith) has in
      let index = word_at m.blocks block.0 block.1 in
      let count = word_at m.blocks block.0 (block.1 + 4) in
      let same_index : index' ≡ index = word_there image site lies m s is block.0 block.1 block' index' has_index there is_index in
      let same_count : count' ≡ count = word_there image site lies m s is block.0 (block.1 + 4) _ count' has_count there' is_count in
      let left : ℕ → ℕ = λ c. low_word (signed c -ℤ pos 1) in
      let m1 = with_blocks (with_word block.0 (block.1 + 4) (left count) m.blocks) m in
      let s1 = record s { memory = with_word_at s.memory (words_on block' (pos 1)) (left count') } in
      store_state site _ image (words_on block' (pos 1)) (left count') s _
      (subst (λ i. Carries site (Some (turn_ended block.0 block.1 index (left count) back m1)) (turn_ended_in image block' i (left count') (signed back') s1)) (sym same_index)
      (subst (λ c. Carries site (Some (turn_ended block.0 block.1 index (left count) back m1)) (turn_ended_in image block' index c (signed back') s1)) (sym (ap left same_count))
      (turn_carries m1 s1 (word_stored image site lies m s is block.0 (block.1 + 4) (words_on block' (pos 1)) (left count) (left count') has_count there' (ap left same_count))
      block.0 block.1 block' index (left count) back back' has_index there far.1 far.0)))
