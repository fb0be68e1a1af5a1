-- Jumps, messages, stopp: j, cj, in, out, stopp. (Prefixes belong to the instruction that they spell.)
use Rattle.std.proofs.Common.{◌≡◌, ℕ, ◌+◌, ◌*◌, Bool, true, false, ◌&&◌, ◌==◌, ◌/◌, nat_le, if◌then◌else◌, ℤ, pos, int_le, replicate, length, Result, Ok, Err, refl, sym, ap, ◌∙◌, arith}
use Rattle.std.specs.Prelude.{All, IfOk}
use Rattle.std.proofs.lemmas.Int.{ints}
use Rattle.std.proofs.lemmas.Bool.{and_parts}
use Rattle.std.proofs.lemmas.List.{length-replicate}
use Rattle.tp_decode.specs.declared.instr.Instr.TheVariants.{Jump, Cj, Input, Output, Stopp}
use Rattle.tp_image.specs.Image.{ImageValue}
use Rattle.tp_flow.specs.declared.edge.Edge.{Edge}
use Rattle.tp_flow.specs.declared.edge.Edge.TheVariants.{Next, Taken, Back, Out}
use Rattle.tp_step.specs.Effects.{link0_output, link1_output, link0_input}
use Rattle.tp_state.specs.declared.state.State.{State}
use Rattle.tp_state.specs.declared.fault.StateCode.{StateCode}
use Rattle.tp_state.specs.declared.fault.StateCode.TheVariants.{S3, S4, S5, S7, S8, S9}
use Rattle.tp_state.specs.Answer.{◌>>=◌, ◌>>◌, unless}
use Rattle.tp_state.specs.Kinds.{exactly, is_exactly}
use Rattle.tp_state.specs.CellRules.{cells_from, with_cells, are_free, are_defined}
use Rattle.tp_state.specs.Order.{IsBelow}
use Rattle.tp_state.specs.Rules.{rule, set_areg, suspended, descheduled, message_in, words_to_send, phase_after, channel, is_one_length, count_of, is_trace_length}
use Rattle.tp_state.proofs.OrderLemmas.{kind_below-self}
use Rattle.tp_state.specs.Sound.{IsSoundCell, IsSound, IsSoundKind}
use Rattle.std.proofs.lemmas.List.Elements.{All-replicate}
use Rattle.tp_state.proofs.CellLemmas.{length-with_cells}
use Rattle.tp_state.specs.declared.cell.Cell.TheVariants as cell
use Rattle.tp_rule_laws.proofs.Follows.{Follows, bind, tested}
use Rattle.tp_rule_laws.proofs.Ranges.{IsWithin}
use Rattle.tp_rule_laws.proofs.Asked.{exactly_one}
use Rattle.tp_rule_laws.proofs.Cells.{replaced_below, below_themselves}
use Rattle.tp_rule_laws.proofs.States.{cells_of, new_cells, in_phase, popped, replaced, free_from, defined_from, way_given, gives_way}
use Rattle.tp_rule_laws.proofs.Ordered.{one_is, equal_ends, Goes, AreOrdered, KeepsOrder, also_known_a, also_known_b}
use Rattle.tp_rule_laws.proofs.Ordered.{also_known_c, also_number_a, also_number_b, number_a_then, one_word_c_then}
use Rattle.tp_rule_laws.proofs.Ordered.{also_number, message_then, same_then, exactly_a, exactly_b}
use Rattle.tp_rule_laws.proofs.SoundStates.{words_with, cells_sound, phase_sound, tested_sound, way_sound, message_room}
use Rattle.tp_rule_laws.proofs.SoundStates.{HasSoundState, KeepsSound, sets, range_of_words, any_sound, also_sound}
use Rattle.tp_rule_laws.proofs.SoundStates.{way_then, pop_one}

-- ---- the order

module _ {image : ImageValue} {s t : State} (pair : AreOrdered image s t) where
  -- a packet comes
  packet : (x : ℕ) → Goes (message_in image x image.packet >>
      (unless S5 (are_free (cells_from s.cells x image.packet)) >> descheduled
      (record s { cells = with_cells s.cells x (replicate image.packet cell.Any); phase = 1 })))
      (message_in image x image.packet >> (unless S5 (are_free (cells_from t.cells x image.packet)) >> descheduled
      (record t { cells = with_cells t.cells x (replicate image.packet cell.Any); phase = 1 })))
  packet x = message_then pair x image.packet _ _ (tested IsBelow S5 _ _ _ _ (free_from s t pair.below x image.packet) λ _.
      gives_way _ _ (in_phase _ _ (new_cells s t pair.below _ _ (replaced_below x s.cells t.cells _ _ (cells_of s t pair.below) (below_themselves (replicate image.packet cell.Any)))) 1))

  sends : (phase : ℕ) → Goes (descheduled s >>= λ u. Ok (record u { phase = phase })) (descheduled t >>= λ u. Ok (record u { phase = phase }))
  sends phase = bind IsBelow IsBelow (descheduled s) (descheduled t) _ _ (gives_way s t pair.below) λ u v below. in_phase u v below phase

  -- ---- messages

  two_channels : channel link1_output ≡ channel link0_output → ⊥
  two_channels e = omega (arith, ints)

  -- the channel that is sent on, and how many words
  abbrev IsSent : ℕ → ℕ → Type 0
  IsSent n m = (n ≡ m) × (is_exactly (channel link1_output) s.b ≡ is_exactly (channel link1_output) t.b)

  words_sent : (a b : ℤ × ℤ) → IsWithin a b → Follows IsSent (words_to_send image s.b a) (words_to_send image t.b b)
  unfolding words_to_send
  words_sent a b w = by_test (is_exactly (channel link0_output) t.b) refl (is_exactly (channel link1_output) t.b) refl
    where
      by_length : (e : StateCode) (p : ℤ × ℤ → Bool) (f : ℤ × ℤ → Result ℕ StateCode) →
          ((a b : ℤ × ℤ) → a ≡ b → Follows IsSent (f a) (f b)) → (is_one_length b && p b ≡ true → a ≡ b) →
          Follows IsSent (unless e (is_one_length a && p a) >> f a) (unless e (is_one_length b && p b) >> f b)
      by_length e p f go one = tested IsSent e (is_one_length a && p a) (is_one_length b && p b) (f a) (f b) (λ yes. rw (one yes) yes) (λ yes. go a b (one yes))

      one : (p : ℤ × ℤ → Bool) → is_one_length b && p b ≡ true → a ≡ b
      one p e = one_is a b w (equal_ends b (int_le (pos 0) b.0) ((and_parts (is_one_length b) (p b) e).0))

      by_test : (p : Bool) → is_exactly (channel link0_output) t.b ≡ p → (q : Bool) → is_exactly (channel link1_output) t.b ≡ q
          → Follows IsSent (if is_exactly (channel link0_output) s.b then
          (unless S7 (is_one_length a && (count_of a.0 == 4 * image.result)) >> Ok image.result) else if is_exactly
          (channel link1_output) s.b then (unless S7 (is_one_length a && is_trace_length (count_of a.0)) >> Ok
          (count_of a.0 / 4)) else Err S8)
          (if p then (unless S7 (is_one_length b && (count_of b.0 == 4 * image.result)) >> Ok image.result) else if q
          then (unless S7 (is_one_length b && is_trace_length (count_of b.0)) >> Ok (count_of b.0 / 4)) else Err S8)
      by_test true e true f = absurd (two_channels (exactly_one _ _ t.b f e))
      by_test true e false f =
          let on_first = exactly_b pair (channel link0_output) e in
          rw on_first (by_length S7 (λ c. count_of c.0 == 4 * image.result) (λ c. Ok image.result) (λ c d same_range. (refl, no_trace on_first ∙ sym f)) (one (λ c. count_of c.0 == 4 * image.result)))
        where
          no_trace : is_exactly (channel link0_output) s.b ≡ true → is_exactly (channel link1_output) s.b ≡ false
          no_trace e = by_answer (is_exactly (channel link1_output) s.b) refl
            where
              by_answer : (r : Bool) → is_exactly (channel link1_output) s.b ≡ r → r ≡ false
              by_answer true g = absurd (two_channels (exactly_one _ _ s.b g e))
              by_answer false g = refl
      by_test false e true f =
          let on_second = exactly_b pair (channel link1_output) f in
          rw (no_result on_second, on_second) (by_length S7 (λ c. is_trace_length (count_of c.0))
          (λ c. Ok (count_of c.0 / 4)) (λ c d same_range. (ap (λ u. count_of u.0 / 4) same_range, on_second ∙ sym f))
          (one (λ c. is_trace_length (count_of c.0))))
        where
          no_result : is_exactly (channel link1_output) s.b ≡ true → is_exactly (channel link0_output) s.b ≡ false
          no_result e = by_answer (is_exactly (channel link0_output) s.b) refl
            where
              by_answer : (r : Bool) → is_exactly (channel link0_output) s.b ≡ r → r ≡ false
              by_answer true g = absurd (two_channels (exactly_one _ _ s.b e g))
              by_answer false g = refl
      by_test false e false f = tt

  same_phase : is_exactly (channel link1_output) s.b ≡ is_exactly (channel link1_output) t.b → phase_after s.b s.phase ≡ phase_after t.b t.phase
  unfolding phase_after
  same_phase e = rw (e, pair.below.phase) refl

  sending : (x n m : ℕ) → n ≡ m → is_exactly (channel link1_output) s.b ≡ is_exactly (channel link1_output) t.b
      → Goes (phase_after s.b s.phase >>= λ phase. message_in image x n >> (unless S4 (are_defined (cells_from (suspended s).cells x n)) >> (descheduled s >>= λ u. Ok (record u { phase = phase }))))
      (phase_after t.b t.phase >>= λ phase. message_in image x m >> (unless S4 (are_defined (cells_from (suspended t).cells x m)) >> (descheduled t >>= λ u. Ok (record u { phase = phase }))))
  sending x n m many channels =
      rw (many, same_phase channels)
      (same_then pair (phase_after t.b t.phase) _ _ λ phase. message_then pair x m _ _
      (tested IsBelow S4 (are_defined (cells_from (suspended s).cells x m)) (are_defined (cells_from (suspended t).cells x m)) _ _ (defined_from _ _ (way_given s t pair.below) x m) λ _. sends phase))

module _ {image : ImageValue} {s t : State} (pair : AreOrdered image s t) (at next : ℕ) (edge : Edge) where
  pub jump_follows : (n : ℤ) → KeepsOrder image s t at next edge (Jump n)
  unfolding rule
  jump_follows n = gives_way s t pair.below

  pub cj_follows : (n : ℤ) → KeepsOrder image s t at next edge (Cj n)
  unfolding rule
  cj_follows n = by_edge edge
    where
      by_edge : (edge : Edge) → KeepsOrder image s t at next edge (Cj n)
      by_edge Taken = also_number pair _ _ (replaced s t pair.below _ _ (kind_below-self (exactly (pos 0))))
      by_edge Next = also_number pair _ _ (popped s t pair.below)
      by_edge Back = also_number pair _ _ (popped s t pair.below)
      by_edge Out = also_number pair _ _ (popped s t pair.below)

  pub input_follows : KeepsOrder image s t at next edge Input
  unfolding rule
  input_follows =
      also_known_a pair _ _ (also_known_b pair _ _ (also_known_c pair _ _ (also_number_a pair _ _ (also_number_b pair _ _ (one_word_c_then pair _ _ λ x.
      tested IsBelow S8 _ _ _ _ (exactly_b pair (channel link0_input)) λ _.
      tested IsBelow S7 _ _ _ _ (exactly_a pair (pos (4 * image.packet))) λ _.
      tested IsBelow S9 (s.phase == 0) (t.phase == 0) _ _ (λ e. rw pair.below.phase e) λ _.
      packet pair x)))))

  pub output_follows : KeepsOrder image s t at next edge Output
  unfolding rule
  output_follows =
      also_known_a pair _ _ (also_known_b pair _ _ (also_known_c pair _ _ (number_a_then pair _ _ λ a b in_a. also_number_b pair _ _ (one_word_c_then pair _ _ λ x.
      bind IsBelow (IsSent pair) _ _ _ _ (words_sent pair a b in_a) λ n m sent. sending pair x n m sent.0 sent.1))))

  pub stopp_follows : KeepsOrder image s t at next edge Stopp
  unfolding rule
  stopp_follows = tested IsBelow S9 (s.phase == 2) (t.phase == 2) (Ok s) (Ok t) (λ e. rw pair.below.phase e) (λ _. pair.below)

-- ---- sound states

zero_ends : IsSoundKind (exactly (pos 0))
zero_ends = range_of_words (pos 0) (pos 0) (omega (arith, ints)) (omega (arith, ints)) (omega (arith, ints))

module _ (image : ImageValue) where
  packet_comes : (t : State) (x : ℕ) → IsSound image t →
      IfOk (message_in image x image.packet >> (unless S5 (are_free (cells_from t.cells x image.packet)) >> descheduled
      (record t { cells = with_cells t.cells x (replicate image.packet cell.Any); phase = 1 }))) (IsSound image)
  unfolding message_in
  packet_comes t x h =
      tested_sound image S3 (nat_le (x + image.packet) image.workspace) _ λ room.
      tested_sound image S5 (are_free (cells_from t.cells x image.packet)) _ λ free.
      way_sound image _ (phase_sound image _ 1 (cells_sound image t _ h (long room) words))
    where
      long : nat_le (x + image.packet) image.workspace ≡ true → length (with_cells t.cells x (replicate image.packet cell.Any)) ≡ length t.cells
      long room = length-with_cells t.cells x (replicate image.packet cell.Any) (let fits = message_room image t x image.packet h room in omega (arith, length-replicate image.packet cell.Any, fits))

      words : All (IsSoundCell image.loops) (with_cells t.cells x (replicate image.packet cell.Any))
      words = words_with image.loops t.cells h.words x _ (All-replicate (IsSoundCell image.loops) image.packet cell.Any tt)

module _ {image : ImageValue} {t : State} (h : HasSoundState image t) where
  zero_set : IsSound image (set_areg (exactly (pos 0)) t)
  zero_set = sets h _ zero_ends

  sends_sound : (phase : ℕ) → IfOk (descheduled t >>= λ u. Ok (record u { phase = phase })) (IsSound image)
  sends_sound phase = way_then h _ λ u g. phase_sound image u phase g

module _ {image : ImageValue} {t : State} (h : HasSoundState image t) (at next : ℕ) (edge : Edge) where
  pub jump_sound : (n : ℤ) → KeepsSound image t at next edge (Jump n)
  unfolding rule
  jump_sound n = way_sound image t h.sound

  pub cj_sound : (n : ℤ) → KeepsSound image t at next edge (Cj n)
  unfolding rule
  cj_sound n = by_edge edge
    where
      by_edge : (edge : Edge) → KeepsSound image t at next edge (Cj n)
      by_edge Taken = search (also_sound h, zero_set h) depth 14
      by_edge Next = search (also_sound h, pop_one h) depth 14
      by_edge Back = search (also_sound h, pop_one h) depth 14
      by_edge Out = search (also_sound h, pop_one h) depth 14

  pub input_sound : KeepsSound image t at next edge Input
  unfolding rule
  input_sound = search (any_sound h, also_sound h, (λ (x : ℕ). packet_comes image t x h.sound)) depth 14

  pub output_sound : KeepsSound image t at next edge Output
  unfolding rule
  output_sound = search (any_sound h, also_sound h, sends_sound h) depth 16

  pub stopp_sound : KeepsSound image t at next edge Stopp
  unfolding rule
  stopp_sound = search (also_sound h, h.sound) depth 14
