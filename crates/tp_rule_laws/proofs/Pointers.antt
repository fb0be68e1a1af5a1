-- Pointers and bytes: ldnl, stnl, ldnlp, wsub, bsub, lb, sb.
use Rattle.std.proofs.Common.{◌≡◌, ℕ, ◌+◌, ◌-◌, ◌*◌, ◌≤◌, Bool, true, false, ◌&&◌, ◌==◌, nat_le, if◌then◌else◌, IsTrue, ℤ, pos, Result, Ok, refl, sym, ◌∙◌, arith}
use Rattle.std.specs.Prelude.{IfOk}
use Rattle.tp_state.proofs.StretchLemmas.{all_within}
use Rattle.std.proofs.lemmas.Int.{ints}
use Rattle.std.proofs.lemmas.Bool.Decides.{nat_tests, Decides-eqb}
use Rattle.tp_decode.specs.declared.instr.Instr.TheVariants.{Ldnl, Ldnlp, Stnl, Lb, Bsub, Wsub, Sb}
use Rattle.tp_image.specs.Image.{ImageValue}
use Rattle.tp_flow.specs.declared.edge.Edge.{Edge}
use Rattle.tp_state.specs.declared.kind.Kind.{Kind}
use Rattle.tp_state.specs.declared.state.State.{State}
use Rattle.tp_state.specs.declared.fault.StateCode.{StateCode}
use Rattle.tp_state.specs.Answer.{◌>>=◌}
use Rattle.tp_state.specs.Kinds.{full, known, number, pointer, byte_pointer}
use Rattle.tp_state.specs.CellRules.{cell_at, are_free, is_defined, are_defined, read}
use Rattle.tp_state.specs.Order.{IsBelow}
use Rattle.tp_state.specs.Rules.{rule, between, words_of_bytes, set_areg, replace_pair, with_word, with_blurred, pop_two}
use Rattle.tp_state.proofs.OrderLemmas.{kind_below-self}
use Rattle.tp_state.specs.Sound.{IsSound, IsSoundKind}
use Rattle.tp_state.specs.declared.kind.Kind.TheVariants as kind
use Rattle.tp_rule_laws.proofs.Follows.{Follows, bind}
use Rattle.tp_rule_laws.proofs.Ranges.{full_self, fits_full}
use Rattle.tp_rule_laws.proofs.Asked.{IsNarrower, AreWithin, IsPart, bytes_on_follow, words_further_follow}
use Rattle.tp_rule_laws.proofs.Cells.{defined_goes}
use Rattle.tp_rule_laws.proofs.States.{popped_two, replaced, given, stored, blurs, one_of_them}
use Rattle.tp_rule_laws.proofs.Ordered.{read_word, number_at, KindsBelow, AreOrdered, KeepsOrder, also_known_a}
use Rattle.tp_rule_laws.proofs.Ordered.{also_known_b, also_number_b, known_b_then, number_b_then, pointer_a_then}
use Rattle.tp_rule_laws.proofs.Ordered.{byte_pointer_a_then, words_then, words_at, read_at, long_t, part_of}
use Rattle.tp_rule_laws.proofs.Ordered.{unless_defined, unless_free}
use Rattle.tp_rule_laws.proofs.SoundStates.{with_fact, number_has, IsUp, pointer_has, byte_pointer_has, ArePlaces}
use Rattle.tp_rule_laws.proofs.SoundStates.{words_further_has, popped_two_sound, blurs_sound, one_or_more}
use Rattle.tp_rule_laws.proofs.SoundStates.{HasSoundState, KeepsSound, sets, gives, reads, range_of_words, any_sound}
use Rattle.tp_rule_laws.proofs.SoundStates.{also_sound, sound_b_then, sound_words_then, bytes_then}
use Rattle.tp_rule_laws.proofs.ArithmeticSound.{IsOne, full_range}

-- ---- the order

words_part : (p q : ℕ × ℕ) → IsPart p q → IsPart (words_of_bytes p) (words_of_bytes q)
words_part p q part = let l = part.low in let o = part.ordered in let hi = part.high in record { low = omega arith; ordered = omega arith; high = omega arith }

nats_below : (w v : ℕ × ℕ) → v.0 ≤ w.0 → w.1 ≤ v.1 → IsTrue (nat_le v.0 w.0 && nat_le w.1 v.1)
nats_below w v l hi = grind (arith, nat_tests)

module _ {image : ImageValue} {s t : State} (pair : AreOrdered image s t) where
  -- of several words, any value; of one of them, what is known of it
  defined_at : (w v : ℕ × ℕ) → AreWithin image.workspace w v → are_defined (between t.cells v) ≡ true → is_defined (cell_at s.cells w.0) ≡ true
  unfolding between
  defined_at w v is e =
      let l = is.low in let o = is.ordered in let hi = is.high in let inside = is.inside in
      defined_goes (cell_at s.cells w.0) (cell_at t.cells w.0) (pair.below.cells w.0) (all_within is_defined t.cells v.0 (v.1 + 1 - v.0) w.0 e l (omega arith) (omega (arith, (long_t pair))))

  one_in_one : (w v : ℕ × ℕ) → AreWithin image.workspace w v → (v.0 == v.1) ≡ true → ((w.0 == w.1) ≡ true) × (w.0 ≡ v.0)
  one_in_one w v is e =
      let same : v.0 ≡ v.1 = (Decides-eqb v.0 v.1).0 e in
      let l = is.low in let o = is.ordered in let hi = is.high in
      (grind (arith, nat_tests), omega arith)

  reads_one : (w v : ℕ × ℕ) → AreWithin image.workspace w v → are_defined (between t.cells v) ≡ true →
      Follows KindsBelow (if w.0 == w.1 then read image.loops (cell_at s.cells w.0) else Ok full)
      (if v.0 == v.1 then read image.loops (cell_at t.cells v.0) else Ok full)
  reads_one w v is e = by_test (v.0 == v.1) refl (w.0 == w.1) refl
    where
      by_test : (p : Bool) → (v.0 == v.1) ≡ p → (q : Bool) → (w.0 == w.1) ≡ q →
          Follows KindsBelow (if q then read image.loops (cell_at s.cells w.0) else Ok full)
          (if p then read image.loops (cell_at t.cells v.0) else Ok full)
      by_test true f true g = rw ((one_in_one w v is f).1) (read_at pair v.0)
      by_test true f false g = let yes = (one_in_one w v is f).0 in let no : true ≡ false = sym yes ∙ g in absurd cc
      by_test false f true e' = read_word image.workspace image.loops pair.rows pair.good (cell_at s.cells w.0)
          (number_at image.loops s.cells pair.sound.words w.0) (defined_at w v is e) λ low high reads r. rw reads
          (fits_full low high r.least r.greatest)
      by_test false f false g = full_self

  puts : (w v : ℕ × ℕ) (k l : Kind) → AreWithin image.workspace w v → IsNarrower k l →
      are_free (between t.cells v) ≡ true → IsBelow (if w.0 == w.1 then with_word w.0 k s else with_blurred w s)
      (if v.0 == v.1 then with_word v.0 l t else with_blurred v t)
  puts w v k l is n free = by_test (v.0 == v.1) refl (w.0 == w.1) refl
    where
      by_test : (p : Bool) → (v.0 == v.1) ≡ p → (q : Bool) → (w.0 == w.1) ≡ q → IsBelow (if q then with_word w.0 k s else with_blurred w s) (if p then with_word v.0 l t else with_blurred v t)
      by_test true f true g = rw ((one_in_one w v is f).1) (stored s t pair.below v.0 k l n n.also)
      by_test true f false g = let yes = (one_in_one w v is f).0 in let no : true ≡ false = sym yes ∙ g in absurd cc
      by_test false f true g = one_of_them s t pair.below w v (part_of pair image.workspace w v is) k n.there free
      by_test false f false g = blurs s t pair.below w v (part_of pair image.workspace w v is)

module _ {image : ImageValue} {s t : State} (pair : AreOrdered image s t) (at next : ℕ) (edge : Edge) where
  pub ldnl_follows : (n : ℤ) → KeepsOrder image s t at next edge (Ldnl n)
  unfolding rule
  ldnl_follows n =
      also_known_a pair _ _ (pointer_a_then pair _ _ λ p q part. words_at pair p q n _ _ part λ w v is.
      unless_defined pair w v _ _ (part_of pair image.workspace w v is) λ e.
      bind IsBelow KindsBelow _ _ _ _ (reads_one pair w v is e) λ k l below. replaced s t pair.below k l below)

  pub stnl_follows : (n : ℤ) → KeepsOrder image s t at next edge (Stnl n)
  unfolding rule
  stnl_follows n =
      also_known_a pair _ _ (known_b_then pair _ _ λ k l is. pointer_a_then pair _ _ λ p q part. words_at pair p q n _ _ part λ w v at.
      unless_free pair w v _ _ (part_of pair image.workspace w v at) λ free.
      popped_two _ _ (puts pair w v k l at is free))

  pub ldnlp_follows : (n : ℤ) → KeepsOrder image s t at next edge (Ldnlp n)
  unfolding rule
  ldnlp_follows n = bind IsBelow KindsBelow _ _ _ _ (words_further_follow image n s.a t.a pair.below.a pair.sound.a) λ k l below. replaced s t pair.below k l below

  pub wsub_follows : KeepsOrder image s t at next edge Wsub
  unfolding rule
  wsub_follows =
      also_known_a pair _ _ (also_known_b pair _ _ (pointer_a_then pair _ _ λ p q part. number_b_then pair _ _ λ b d in_b.
      words_then pair p q b d _ _ part in_b.low in_b.ordered in_b.high λ w v is.
      given s t pair.below (kind.Ptr w.0 w.1) (kind.Ptr v.0 v.1) (nats_below w v is.low is.high)))

  pub bsub_follows : KeepsOrder image s t at next edge Bsub
  unfolding rule
  bsub_follows =
      also_known_a pair _ _ (also_known_b pair _ _ (byte_pointer_a_then pair _ _ λ p q part. number_b_then pair _ _ λ b d in_b.
      bind IsBelow (AreWithin (4 * image.workspace)) _ _ _ _ (bytes_on_follow image p q b d part in_b.low in_b.ordered in_b.high) λ w v is.
      given s t pair.below (kind.BytePtr w.0 w.1) (kind.BytePtr v.0 v.1) (nats_below w v is.low is.high)))

  pub lb_follows : KeepsOrder image s t at next edge Lb
  unfolding rule
  lb_follows =
      also_known_a pair _ _ (byte_pointer_a_then pair _ _ λ p q part.
      unless_defined pair (words_of_bytes p) (words_of_bytes q) _ _ (words_part p q part) λ e.
      replaced s t pair.below _ _ (kind_below-self (kind.Int (pos 0) (pos 255))))

  pub sb_follows : KeepsOrder image s t at next edge Sb
  unfolding rule
  sb_follows =
      also_known_a pair _ _ (also_known_b pair _ _ (byte_pointer_a_then pair _ _ λ p q part. also_number_b pair _ _
      (unless_free pair (words_of_bytes p) (words_of_bytes q) _ _ (words_part p q part) λ free.
      popped_two _ _ (blurs s t pair.below (words_of_bytes p) (words_of_bytes q) (words_part p q part)))))

-- ---- sound states

byte_ends : IsSoundKind (kind.Int (pos 0) (pos 255))
byte_ends = range_of_words (pos 0) (pos 255) (omega (arith, ints)) (omega (arith, ints)) (omega (arith, ints))

module _ {image : ImageValue} {t : State} (h : HasSoundState image t) where
  reads_one_sound : (w : ℕ × ℕ) → IfOk (if w.0 == w.1 then read image.loops (cell_at t.cells w.0) else Ok full) IsSoundKind
  reads_one_sound w = by_test (w.0 == w.1)
    where
      by_test : (p : Bool) → IfOk (if p then read image.loops (cell_at t.cells w.0) else Ok full) IsSoundKind
      by_test true = reads h w.0
      by_test false = full_range

  read_one_then : (w : ℕ × ℕ) (f : Kind → Result State StateCode) →
      ((k : Kind) → IsSoundKind k → IfOk (f k) (IsSound image)) →
      IfOk ((if w.0 == w.1 then read image.loops (cell_at t.cells w.0) else Ok full) >>= f) (IsSound image)
  read_one_then w f go = with_fact (IsSound image) IsSoundKind _ f (reads_one_sound w) go

  puts_sound : (w : ℕ × ℕ) (k : Kind) → IsSoundKind k → IsSound image (pop_two (if w.0 == w.1 then with_word w.0 k t else with_blurred w t))
  puts_sound w k ends = popped_two_sound image _ (one_or_more image t w k h.sound ends)

  puts_byte : (w : ℕ × ℕ) → IsSound image (pop_two (with_blurred w t))
  puts_byte w = popped_two_sound image _ (blurs_sound image t w h.sound)

  pointed : (w : ℕ × ℕ) → ArePlaces w → IsSound image (replace_pair (kind.Ptr w.0 w.1) t)
  pointed w are = gives h _ are

  byte_pointed : (w : ℕ × ℕ) → ArePlaces w → IsSound image (replace_pair (kind.BytePtr w.0 w.1) t)
  byte_pointed w are = gives h _ are

  byte_set : IsSound image (set_areg (kind.Int (pos 0) (pos 255)) t)
  byte_set = sets h _ byte_ends

module _ {image : ImageValue} {t : State} (h : HasSoundState image t) (at next : ℕ) (edge : Edge) where
  pub ldnl_sound : (n : ℤ) → KeepsSound image t at next edge (Ldnl n)
  unfolding rule
  ldnl_sound n = search (any_sound h, also_sound h, read_one_then h, sets h) depth 14

  pub stnl_sound : (n : ℤ) → KeepsSound image t at next edge (Stnl n)
  unfolding rule
  stnl_sound n = search (sound_b_then h, any_sound h, also_sound h, puts_sound h) depth 14

  pub ldnlp_sound : (n : ℤ) → KeepsSound image t at next edge (Ldnlp n)
  unfolding rule
  ldnlp_sound n = with_fact (IsSound image) IsSoundKind _ _ (words_further_has image h.small n t.a h.sound.a) λ k ends. sets h k ends

  pub wsub_sound : KeepsSound image t at next edge Wsub
  unfolding rule
  wsub_sound = also_sound h (known t.a) _ (also_sound h (known t.b) _
      (with_fact (IsSound image) IsUp (pointer t.a) _ (pointer_has t.a h.sound.a) λ p up. with_fact (IsSound image) IsOne
      (number t.b) _ (number_has t.b h.sound.b) λ n is. sound_words_then h p n _ up is.ordered λ w are. pointed h w are))

  pub bsub_sound : KeepsSound image t at next edge Bsub
  unfolding rule
  bsub_sound = also_sound h (known t.a) _ (also_sound h (known t.b) _
      (with_fact (IsSound image) IsUp (byte_pointer t.a) _ (byte_pointer_has t.a h.sound.a) λ p up. with_fact
      (IsSound image) IsOne (number t.b) _ (number_has t.b h.sound.b) λ n is. bytes_then h p n _ up is.ordered λ w are.
      byte_pointed h w are))

  pub lb_sound : KeepsSound image t at next edge Lb
  unfolding rule
  lb_sound = search (any_sound h, also_sound h, byte_set h) depth 14

  pub sb_sound : KeepsSound image t at next edge Sb
  unfolding rule
  sb_sound = search (any_sound h, also_sound h, puts_byte h) depth 14
