-- Constants, locals, Wptr: ldc, mint, ldl, stl, ldlp, ajw, rev, seterr.
use Rattle.std.proofs.Common.{◌≡◌, ℕ, ◌<◌, ◌≤◌, Bool, true, false, ◌&&◌, nat_le, if◌then◌else◌, ℤ, pos, negsuc, ◌+ℤ◌, Ok, Err, refl, arith, nat_lt, ◌^◌, FitsSigned, w32}
use Rattle.std.specs.Prelude.{IfOk}
use Rattle.std.proofs.lemmas.Int.{ints}
use Rattle.std.proofs.lemmas.Bool.Decides.{nat_tests}
use Rattle.tp_decode.specs.declared.instr.Instr.TheVariants.{Ldlp, Ldc, Ldl, Ajw, Stl, Rev, Seterr, Mint}
use Rattle.tp_image.specs.Image.{ImageValue}
use Rattle.tp_flow.specs.declared.edge.Edge.{Edge}
use Rattle.tp_words.specs.Numbers.{least_integer}
use Rattle.tp_state.specs.declared.kind.Kind.{Kind}
use Rattle.tp_state.specs.declared.state.State.{State}
use Rattle.tp_state.specs.declared.fault.StateCode.TheVariants.{S6}
use Rattle.tp_state.specs.Kinds.{exactly}
use Rattle.tp_state.specs.Order.{IsBelow}
use Rattle.tp_state.specs.Rules.{rule, local, frame_at, with_word, pop}
use Rattle.tp_state.proofs.OrderLemmas.{kind_below-self}
use Rattle.tp_state.specs.Sound.{IsRange, IsSound, IsSoundKind, LoadsWord}
use Rattle.tp_state.specs.declared.kind.Kind.TheVariants as kind
use Rattle.tp_rule_laws.proofs.Follows.{bind}
use Rattle.tp_rule_laws.proofs.States.{registers, in_frame, pushed, popped, stored}
use Rattle.tp_rule_laws.proofs.Ordered.{KindsBelow, AreOrdered, KeepsOrder, known_a_then, known_b_then, local_then, read_at, unless_free_at, same_then}
use Rattle.tp_rule_laws.proofs.SoundStates.{with_fact, known_has, local_place, registers_sound, popped_sound}
use Rattle.tp_rule_laws.proofs.SoundStates.{stored_sound, HasSoundState, KeepsSound, pushes, range_of_words, any_sound}
use Rattle.tp_rule_laws.proofs.SoundStates.{also_sound, read_then, sound_a_then}

-- ---- the order

module _ {image : ImageValue} {s t : State} (pair : AreOrdered image s t) (at next : ℕ) (edge : Edge) where
  pub ldc_follows : (n : ℤ) → KeepsOrder image s t at next edge (Ldc n)
  unfolding rule
  ldc_follows n = pushed s t pair.below (exactly n) (exactly n) (kind_below-self (exactly n))

  pub mint_follows : KeepsOrder image s t at next edge Mint
  unfolding rule
  mint_follows = pushed s t pair.below _ _ (kind_below-self (exactly least_integer))

  pub ldl_follows : (n : ℤ) → KeepsOrder image s t at next edge (Ldl n)
  unfolding rule
  ldl_follows n = local_then pair n _ _ λ x. bind IsBelow KindsBelow _ _ _ _ (read_at pair x) λ k l below. pushed s t pair.below k l below

  pub stl_follows : (n : ℤ) → KeepsOrder image s t at next edge (Stl n)
  unfolding rule
  stl_follows n = known_a_then pair _ _ λ k l is. local_then pair n _ _ λ x. unless_free_at pair x _ _ (popped _ _ (stored s t pair.below x k l is is.also))

  pub ldlp_follows : (n : ℤ) → KeepsOrder image s t at next edge (Ldlp n)
  unfolding rule
  ldlp_follows n = local_then pair n _ _ λ x. pushed s t pair.below (kind.Ptr x x) (kind.Ptr x x) (kind_below-self (kind.Ptr x x))

  pub ajw_follows : (n : ℤ) → KeepsOrder image s t at next edge (Ajw n)
  unfolding rule
  ajw_follows n = rw pair.below.wptr (same_then pair (frame_at image (pos t.wptr +ℤ n)) _ _ λ x. in_frame s t pair.below x)

  pub rev_follows : KeepsOrder image s t at next edge Rev
  unfolding rule
  rev_follows = known_a_then pair _ _ λ k l in_a. known_b_then pair _ _ λ k' l' in_b. registers s t pair.below k' k s.c l' l t.c in_b.below in_a.below pair.below.c

  pub seterr_follows : KeepsOrder image s t at next edge Seterr
  unfolding rule
  seterr_follows = pair.below

-- ---- sound states

loaded : (n : ℤ) → FitsSigned w32 n → IsRange n n
loaded n fits = range_of_words n n (grind (arith, ints)) (omega (arith, ints)) (grind (arith, ints))

least_ends : IsSoundKind (exactly least_integer)
least_ends = range_of_words least_integer least_integer (omega (arith, ints)) (omega (arith, ints)) (omega (arith, ints))

module _ (image : ImageValue) where
  framed : (z : ℤ) → IfOk (frame_at image z) (λ x. (5 ≤ x) × (x < image.workspace))
  unfolding frame_at
  framed (pos x) = by_test (nat_le 5 x) refl (nat_lt x image.workspace) refl
    where
      by_test : (p : Bool) → nat_le 5 x ≡ p → (q : Bool) → nat_lt x image.workspace ≡ q → IfOk (if p && q then Ok x else Err S6) (λ x. (5 ≤ x) × (x < image.workspace))
      by_test true e true f = (grind (arith, nat_tests), grind (arith, nat_tests))
      by_test true e false f = tt
      by_test false e q f = tt
  framed (negsuc x) = tt

module _ {image : ImageValue} {t : State} (h : HasSoundState image t) where
  moves_frame : (x : ℕ) → (5 ≤ x) × (x < image.workspace) → IsSound image (record t { wptr = x })
  moves_frame x frame = record {
    placed = record { roomy = frame.0; inside = frame.1; sized = h.sound.placed.sized };
    a = h.sound.a;
    b = h.sound.b;
    c = h.sound.c;
    words = h.sound.words;
  }

  puts_one : (x : ℕ) (k : Kind) → IsSoundKind k → IsSound image (pop (with_word x k t))
  puts_one x k ends = popped_sound image _ (stored_sound image t x k h.sound ends)

module _ {image : ImageValue} {t : State} (h : HasSoundState image t) (at next : ℕ) (edge : Edge) where
  pub ldc_sound : (n : ℤ) → LoadsWord (Ldc n) → KeepsSound image t at next edge (Ldc n)
  unfolding rule
  ldc_sound n loads = pushes h (exactly n) (loaded n loads)

  pub mint_sound : KeepsSound image t at next edge Mint
  unfolding rule
  mint_sound = pushes h _ least_ends

  pub ldl_sound : (n : ℤ) → KeepsSound image t at next edge (Ldl n)
  unfolding rule
  ldl_sound n = search (any_sound h, read_then h, pushes h) depth 14

  pub stl_sound : (n : ℤ) → KeepsSound image t at next edge (Stl n)
  unfolding rule
  stl_sound n = search (sound_a_then h, any_sound h, also_sound h, puts_one h) depth 14

  pub ldlp_sound : (n : ℤ) → KeepsSound image t at next edge (Ldlp n)
  unfolding rule
  ldlp_sound n = with_fact (IsSound image) (λ x. x < 2 ^ 32) (local image t n) _ (local_place image h.small t n) λ x lt. pushes h (kind.Ptr x x) (record { ordered = omega arith; greatest = lt })

  pub ajw_sound : (n : ℤ) → KeepsSound image t at next edge (Ajw n)
  unfolding rule
  ajw_sound n = with_fact (IsSound image) (λ x. (5 ≤ x) × (x < image.workspace)) _ _ (framed image _) λ x frame. moves_frame h x frame

  pub rev_sound : KeepsSound image t at next edge Rev
  unfolding rule
  rev_sound = with_fact (IsSound image) IsSoundKind _ _ (known_has t.a h.sound.a) λ a a_ends. with_fact (IsSound image)
      IsSoundKind _ _ (known_has t.b h.sound.b) λ b b_ends. registers_sound image t b a t.c h.sound b_ends a_ends
      h.sound.c

  pub seterr_sound : KeepsSound image t at next edge Seterr
  unfolding rule
  seterr_sound = h.sound
