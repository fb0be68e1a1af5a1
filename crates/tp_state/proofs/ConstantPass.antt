-- What constants, locals, Wptr, rev and seterr make of a state that fits.
use Rattle.std.proofs.Common.{◌≡◌, ℕ, ◌<◌, ◌≤◌, Bool, true, false, ◌&&◌, nat_le, nat_lt, if◌then◌else◌, ℤ, pos, negsuc, ◌+ℤ◌, slice_set, Some, None, Ok, Err, refl, ap, ◌∙◌, subst, arith}
use Rattle.std.proofs.lemmas.Bool.Decides.{nat_tests}
use Rattle.tp_words.specs.Words.{low_word}
use Rattle.tp_decode.specs.declared.instr.Instr.TheVariants.{Ldc, Ldlp, Ldl, Stl, Ajw, Rev, Seterr, Mint}
use Rattle.tp_image.specs.Image.{ImageValue}
use Rattle.tp_flow.specs.declared.edge.Edge.{Edge}
use Rattle.tp_step.specs.Memory.{word_at, with_word}
use Rattle.tp_words.specs.Numbers.{overflows, words_on, least_integer}
use Rattle.tp_step.specs.State.{State as Machine, load, store, local as machine_local, push as machine_push, pop as machine_pop}
use Rattle.tp_step.specs.Effects.{effect}
use Rattle.tp_state.specs.declared.kind.Kind.TheVariants as kind
use Rattle.tp_state.specs.declared.state.State.{State}
use Rattle.tp_state.specs.declared.fault.StateCode.TheVariants.{S5, S6}
use Rattle.tp_state.specs.Kinds.{exactly, known}
use Rattle.tp_state.specs.CellRules.{cell_at, is_free, read, written}
use Rattle.tp_state.specs.Rules.{rule, local, frame_at}
use Rattle.tp_state.specs.Fits.{KindFits, FitsAmong, word_address}
use Rattle.tp_state.proofs.Passing.{through, held, same_Ok}
use Rattle.tp_state.proofs.WordLemmas.{low_word_lt, signed_low_word, words_on_is}
use Rattle.tp_state.proofs.KindLemmas.{exactly_fits, pointer_fits, known_is, read_fits, written_fits, written_free}
use Rattle.tp_state.proofs.WordsChange.{word_taken}
use Rattle.tp_state.proofs.ByteLemmas.{word_small}
use Rattle.tp_state.proofs.LoadLemmas.{load_there, store_there, stored_there, local_is}
use Rattle.tp_state.proofs.Makes.{Makes, one_there, both_there, registers_made, words_made}

-- a place for Wptr has room below it
frame_is : (image : ImageValue) (z : ℤ) (x : ℕ) → frame_at image z ≡ Ok x → (z ≡ pos x) × (5 ≤ x) × (x < image.workspace)
unfolding frame_at
frame_is image (pos y) x e = by_test (nat_le 5 y && nat_lt y image.workspace) refl e
  where
    by_test : (b : Bool) → (nat_le 5 y && nat_lt y image.workspace) ≡ b → (if b then Ok y else Err S6) ≡ Ok x → (pos y ≡ pos x) × (5 ≤ x) × (x < image.workspace)
    by_test true holds e = let same : y ≡ x = same_Ok _ _ e in (ap pos same, grind (arith, nat_tests), grind (arith, nat_tests))
    by_test false holds e = cc
frame_is image (negsuc y) x e = cc

constant_fits : (image : ImageValue) (n : ℤ) → overflows n ≡ false → KindFits image (exactly n) (Some (low_word n))
constant_fits image n small = exactly_fits image n (low_word n) (low_word_lt n) (signed_low_word n small)

module _ (image : ImageValue) (small : image.workspace ≤ 512) (around : ℕ → Bool) (next : ℕ) (t : State) (s : Machine) (f : FitsAmong image around next t s) (at : ℕ) (e : Edge) (t' : State) where
  pub ldc_makes : (n : ℤ) → overflows n ≡ false → rule image at next (Ldc n) e t ≡ Ok t' → Makes image around None next (Ldc n) t' s
  unfolding rule effect
  ldc_makes n no_overflow ok =
      registers_made image around next t s f (Ldc n) t' (exactly n) t.a t.b (Some (low_word n)) s.areg s.breg s.error refl ok (constant_fits image n no_overflow) f.registers.a f.registers.b

  pub mint_makes : rule image at next Mint e t ≡ Ok t' → Makes image around None next Mint t' s
  unfolding rule effect
  mint_makes ok =
      registers_made image around next t s f Mint t' (exactly least_integer) t.a t.b (Some (low_word least_integer))
      s.areg s.breg s.error refl ok (constant_fits image least_integer refl) f.registers.a f.registers.b

  pub ldlp_makes : (n : ℤ) → rule image at next (Ldlp n) e t ≡ Ok t' → Makes image around None next (Ldlp n) t' s
  unfolding rule effect
  ldlp_makes n ok =
      through (local image t n) _ t' ok λ x x_is ok.
      local_is image around next t s n x small f x_is λ address lt.
      registers_made image around next t s f (Ldlp n) t' (kind.Ptr x x) t.a t.b (Some (machine_local s n)) s.areg s.breg s.error refl ok
      (rw address (pointer_fits image x x x (omega arith) (omega arith) lt)) f.registers.a f.registers.b

  pub ldl_makes : (n : ℤ) → rule image at next (Ldl n) e t ≡ Ok t' → Makes image around None next (Ldl n) t' s
  unfolding rule effect
  ldl_makes n ok =
      through (local image t n) _ t' ok λ x x_is ok.
      through (read image.loops (cell_at t.cells x)) _ t' ok λ k k_is ok.
      local_is image around next t s n x small f x_is λ address lt.
      read_fits image (cell_at t.cells x) k (word_at s.memory (word_address x)) k_is (f.words.word x lt) λ v v_is fits.
      registers_made image around next t s f (Ldl n) t' k t.a t.b (Some v) s.areg s.breg s.error
      (one_there (λ w. machine_push w s) (load image s (machine_local s n)) v (load_there image s (machine_local s n) x v address lt v_is)) ok fits f.registers.a f.registers.b

  pub stl_makes : (n : ℤ) → rule image at next (Stl n) e t ≡ Ok t' → Makes image around None next (Stl n) t' s
  unfolding rule effect
  stl_makes n ok =
      through (known t.a) _ t' ok λ k k_is ok.
      through (local image t n) _ t' ok λ x x_is ok.
      held S5 (is_free (cell_at t.cells x)) _ t' ok λ free ok.
      local_is image around next t s n x small f x_is λ address lt.
      known_is image t.a k s.areg small k_is f.registers.a λ v v_is word same.
      let fits : KindFits image k (Some v) = subst (λ u. KindFits image u (Some v)) same (subst (KindFits image t.a) v_is f.registers.a) in
      words_made image around next t s f (Stl n) t' (slice_set t.cells x (written k)) (with_word s.memory (word_address x) v) t.b t.c kind.Undef s.breg s.creg None
      (stored_there machine_pop (λ a. store image (machine_local s n) a s) s.areg v
      (record s { memory = with_word s.memory (word_address x) v }) v_is
      (store_there image s (machine_local s n) x v address lt)) ok
      (word_taken image.loops image.workspace t.cells s.memory x (written k) v word (omega (arith, f.words.sized)) free (written_free k) (written_fits image k v word fits))
      (word_small s.memory (word_address x) v f.bytes.memory) f.registers.b f.registers.c tt

  pub ajw_makes : (n : ℤ) → rule image at next (Ajw n) e t ≡ Ok t' → Makes image around None next (Ajw n) t' s
  unfolding rule effect
  ajw_makes n ok =
      through (frame_at image (pos t.wptr +ℤ n)) _ t' ok λ x x_is ok.
      let frame = frame_is image (pos t.wptr +ℤ n) x x_is in
      let inside = f.place.inside in
      let roomy = frame.1 in
      let lt = frame.2 in
      let wptr : machine_local s n ≡ word_address x = ap (λ a. words_on a n) f.place.wptr ∙ words_on_is t.wptr x n (omega arith) (omega arith) frame.0 in
      record {
        end = record s { wptr = machine_local s n };
        made = refl;
        fits = subst (λ u. FitsAmong image around next u (record s { wptr = machine_local s n })) (same_Ok _ _ ok) record {
          place = record { running = f.place.running; iptr = f.place.iptr; oreg = f.place.oreg; wptr = wptr; roomy = roomy; inside = lt };
          phase = f.phase;
          registers = record { a = f.registers.a; b = f.registers.b; c = f.registers.c };
          words = f.words;
          bytes = record { memory = f.bytes.memory; packet = f.bytes.packet };
          packet = f.packet;
          loops = f.loops;
        };
        turns = λ l row is row_is. refl;
      }

  pub rev_makes : rule image at next Rev e t ≡ Ok t' → Makes image around None next Rev t' s
  unfolding rule effect
  rev_makes ok =
      through (known t.a) _ t' ok λ a a_is ok.
      through (known t.b) _ t' ok λ b b_is ok.
      known_is image t.a a s.areg small a_is f.registers.a λ x x_is x_word x_same.
      known_is image t.b b s.breg small b_is f.registers.b λ y y_is y_word y_same.
      registers_made image around next t s f Rev t' b a t.c (Some y) (Some x) s.creg s.error
      (both_there (λ b a. record s { areg = Some b; breg = Some a }) s.areg s.breg x y x_is y_is) ok
      (subst (λ u. KindFits image u (Some y)) y_same (subst (KindFits image t.b) y_is f.registers.b))
      (subst (λ u. KindFits image u (Some x)) x_same (subst (KindFits image t.a) x_is f.registers.a)) f.registers.c

  pub seterr_makes : rule image at next Seterr e t ≡ Ok t' → Makes image around None next Seterr t' s
  unfolding rule effect
  seterr_makes ok = registers_made image around next t s f Seterr t' t.a t.b t.c s.areg s.breg s.creg true refl ok f.registers.a f.registers.b f.registers.c
