-- What pointers make of a state that fits: words and bytes by their addresses.
use Rattle.std.proofs.Common.{◌≡◌, ◌⊎◌, inl, inr, ℕ, ◌+◌, ◌-◌, ◌*◌, ◌/◌, ◌%◌, ◌^◌, ◌<◌, ◌≤◌, Bool, true, false, ◌==◌}
use Rattle.std.proofs.Common.{if◌then◌else◌, ℤ, pos, negsuc, ◌+ℤ◌, ◌*ℤ◌, ◌≤ℤ◌, List, [], ◌∷◌, map, slice_set, All}
use Rattle.std.proofs.Common.{Option, Some, None, Result, Ok, refl, sym, ap, ◌∙◌, subst, arith}
use Rattle.std.proofs.lemmas.Int.{ints}
use Rattle.std.proofs.lemmas.Bool.{cases_eq}
use Rattle.std.proofs.lemmas.Bool.Decides.{Decides-eqb}
use Rattle.std.proofs.lemmas.List.Elements.{All-nil, All-cons}
use Rattle.std.specs.Option.{option_and_then}
use Rattle.tp_words.specs.Words.{signed, low_word}
use Rattle.tp_decode.specs.declared.instr.Instr.TheVariants.{Ldnl, Ldnlp, Stnl, Lb, Bsub, Wsub, Sb}
use Rattle.tp_image.specs.declared.image.LoopRow.{LoopRow}
use Rattle.tp_image.specs.Image.{ImageValue}
use Rattle.tp_flow.specs.declared.edge.Edge.{Edge}
use Rattle.tp_step.specs.Maybe.{only_if, ◌>>◌ as ◌>>?◌}
use Rattle.tp_step.specs.Memory.{Memory, word_at, with_word, with_bytes}
use Rattle.tp_words.specs.Numbers.{words_on as machine_words_on}
use Rattle.tp_step.specs.State.{State as Machine, mem_start, in_workspace, load, store, pop_two as machine_pop_two, set_areg as machine_set_areg}
use Rattle.tp_step.specs.Effects.{effect}
use Rattle.tp_state.specs.declared.kind.Kind.{Kind}
use Rattle.tp_state.specs.declared.kind.Kind.TheVariants as kind
use Rattle.tp_state.specs.declared.cell.Cell.TheVariants as cell
use Rattle.tp_state.specs.declared.state.State.{State}
use Rattle.tp_state.specs.declared.fault.StateCode.{StateCode}
use Rattle.tp_state.specs.declared.fault.StateCode.TheVariants.{S4, S5}
use Rattle.tp_state.specs.Kinds.{full, known, number, pointer, byte_pointer, word_in, byte_in, range}
use Rattle.tp_state.specs.CellRules.{cell_at, cells_from, with_cells, is_free, are_free, is_defined, are_defined, read, written, blurred}
use Rattle.tp_state.specs.Rules.{rule, words_on, bytes_on, words_further, between, words_of_bytes, pop_two, with_word as with_word_of, with_blurred}
use Rattle.tp_state.specs.Fits.{InRange, KindFits, CellFits, FitsAmong, word_address}
use Rattle.tp_state.proofs.Passing.{through, past, past_is, held, same_Ok}
use Rattle.tp_state.proofs.WordLemmas.{low_word_alike, unsigned_is, words_on_is, byte_inside}
use Rattle.tp_state.proofs.KindLemmas.{word_in_is, byte_in_is, full_fits, within_fits, range_fits, pointer_fits}
use Rattle.tp_state.proofs.KindLemmas.{byte_pointer_fits, number_is, pointer_is, byte_pointer_is, known_is, read_fits}
use Rattle.tp_state.proofs.KindLemmas.{written_fits, written_free, defined_word}
use Rattle.tp_state.proofs.WordsChange.{Change, word_taken, written_word, unwritten_word}
use Rattle.tp_state.proofs.StretchLemmas.{all_inside, all_within, cut_within, blurred_taken}
use Rattle.tp_state.proofs.ByteLemmas.{AreSmall, has_bytes, byte_of, bytes_of, bytes_word, word_small, written_defined, written_apart, written_small}
use Rattle.tp_state.proofs.LoadLemmas.{load_there, store_there, loaded_there, both_stored}
use Rattle.tp_state.proofs.Makes.{Makes, one_there, both_there, registers_made, words_made}

-- ---- places that a range of numbers leads to

natural_is : (z : ℤ) → pos 0 ≤ℤ z → (y : ℕ) × (z ≡ pos y)
natural_is (pos n) h = (n, refl)
natural_is (negsuc n) h = absurd (omega (arith, ints))

-- a place a number on from one of some, between the first and the last that they lead to
record Leads (x : ℕ) (z : ℤ) (w : ℕ × ℕ) : Type 0 where
  place : ℕ
  is : pos x +ℤ z ≡ pos place
  low : w.0 ≤ place
  high : place ≤ w.1

leads : (x : ℕ) (z : ℤ) (p w : ℕ × ℕ) (n : ℤ × ℤ) → (pos p.0 +ℤ n.0) ≡ pos w.0 → (pos p.1 +ℤ n.1) ≡ pos w.1 → p.0 ≤ x → x ≤ p.1 → n.0 ≤ℤ z → z ≤ℤ n.1 → Leads x z w
leads x z p w n first last low high above below =
    let y = natural_is (pos x +ℤ z) (omega (arith, ints)) in
    let is : pos x +ℤ z ≡ pos y.0 = y.1 in
    record { place = y.0; is = is; low = omega (arith, ints); high = omega (arith, ints) }

module _ {P : Type 0} (image : ImageValue) where
  words_on_are : (p : ℕ × ℕ) (n : ℤ × ℤ) (w : ℕ × ℕ) → words_on image p n ≡ Ok w → (pos p.0 +ℤ n.0 ≡ pos w.0 → pos p.1 +ℤ n.1 ≡ pos w.1 → w.0 < image.workspace → w.1 < image.workspace → P) → P
  unfolding words_on
  words_on_are p n w ok go =
      through (word_in image (pos p.0 +ℤ n.0)) _ w ok λ first first_is ok.
      through (word_in image (pos p.1 +ℤ n.1)) _ w ok λ last last_is ok.
      let same = same_Ok (first, last) w ok in
      let a = word_in_is image (pos p.0 +ℤ n.0) first first_is in
      let b = word_in_is image (pos p.1 +ℤ n.1) last last_is in
      let w0 : first ≡ w.0 = ap (λ (u : ℕ × ℕ). u.0) same in
      let w1 : last ≡ w.1 = ap (λ (u : ℕ × ℕ). u.1) same in
      go (a.0 ∙ ap pos w0) (b.0 ∙ ap pos w1) (subst (λ u. u < image.workspace) w0 a.1) (subst (λ u. u < image.workspace) w1 b.1)

  bytes_on_are : (p : ℕ × ℕ) (n : ℤ × ℤ) (w : ℕ × ℕ) → bytes_on image p n ≡ Ok w → (pos p.0 +ℤ n.0 ≡ pos w.0 → pos p.1 +ℤ n.1 ≡ pos w.1 → w.0 < 4 * image.workspace → w.1 < 4 * image.workspace → P) → P
  unfolding bytes_on
  bytes_on_are p n w ok go =
      through (byte_in image (pos p.0 +ℤ n.0)) _ w ok λ first first_is ok.
      through (byte_in image (pos p.1 +ℤ n.1)) _ w ok λ last last_is ok.
      let same = same_Ok (first, last) w ok in
      let a = byte_in_is image (pos p.0 +ℤ n.0) first first_is in
      let b = byte_in_is image (pos p.1 +ℤ n.1) last last_is in
      let w0 : first ≡ w.0 = ap (λ (u : ℕ × ℕ). u.0) same in
      let w1 : last ≡ w.1 = ap (λ (u : ℕ × ℕ). u.1) same in
      go (a.0 ∙ ap pos w0) (b.0 ∙ ap pos w1) (subst (λ u. u < 4 * image.workspace) w0 a.1) (subst (λ u. u < 4 * image.workspace) w1 b.1)

-- a signed number of words on from a pointer
words_further_is : (x y v : ℕ) → v < 2 ^ 32 → x < 512 → y < 512 → pos x +ℤ signed v ≡ pos y → machine_words_on (word_address x) (pos v) ≡ word_address y
words_further_is x y v word lt lt' is =
    let u = unsigned_is v word in
    let k = u.0 in
    let v_is : pos v ≡ signed v +ℤ (k *ℤ pos (2 ^ 32)) = u.1 in
    low_word_alike (pos (word_address x) +ℤ (pos v *ℤ pos 4)) (pos (word_address x) +ℤ (signed v *ℤ pos 4)) (k *ℤ pos 4) (omega (arith, ints)) ∙ words_on_is x y (signed v) lt lt' is

bytes_further_is : (x y v : ℕ) → v < 2 ^ 32 → x < 2048 → y < 2048 → pos x +ℤ signed v ≡ pos y → low_word (pos (mem_start + x) +ℤ pos v) ≡ mem_start + y
bytes_further_is x y v word lt lt' is =
    let u = unsigned_is v word in
    let k = u.0 in
    let v_is : pos v ≡ signed v +ℤ (k *ℤ pos (2 ^ 32)) = u.1 in
    let sum_is : pos (mem_start + x) +ℤ signed v ≡ pos (mem_start + y) = omega (arith, ints) in
    let small : (mem_start + y) % 2 ^ 32 ≡ mem_start + y = omega arith in
    low_word_alike (pos (mem_start + x) +ℤ pos v) (pos (mem_start + x) +ℤ signed v) k (omega (arith, ints)) ∙ ap low_word sum_is ∙ small

-- a number of words on from a number
number_further : (image : ImageValue) (low high n : ℤ) (v : ℕ) → InRange low high v → KindFits image (range (low +ℤ (n *ℤ pos 4)) (high +ℤ (n *ℤ pos 4))) (Some (machine_words_on v n))
number_further image low high n v in_it =
    let u = unsigned_is v in_it.word in
    let k = u.0 in
    let v_is : pos v ≡ signed v +ℤ (k *ℤ pos (2 ^ 32)) = u.1 in
    let above = in_it.above in
    let below = in_it.below in
    let is : machine_words_on v n ≡ low_word (signed v +ℤ (n *ℤ pos 4)) = low_word_alike (pos v +ℤ (n *ℤ pos 4)) (signed v +ℤ (n *ℤ pos 4)) k (omega (arith, ints)) in
    rw is (range_fits image (low +ℤ (n *ℤ pos 4)) (high +ℤ (n *ℤ pos 4)) (signed v +ℤ (n *ℤ pos 4)) (omega (arith, ints)) (omega (arith, ints)))

further_fits : {P : Type 0} (image : ImageValue) (n : ℤ) (k k' : Kind) (r : Option ℕ) → image.workspace ≤ 512 →
    words_further image n k ≡ Ok k' → KindFits image k r →
    ((v : ℕ) → r ≡ Some v → KindFits image k' (Some (machine_words_on v n)) → P) → P
unfolding words_further
further_fits image n kind.Undef k' r small ok h go = cc
further_fits image n (kind.Int low high) k' r small ok (v, is, in_it) go =
    go v is (subst (λ u. KindFits image u (Some (machine_words_on v n))) (same_Ok _ _ ok) (number_further image low high n v in_it))
further_fits image n (kind.Ptr p q) k' r small ok (x, is, low, high, inside) go =
    through (words_on image (p, q) (n, n)) _ k' ok λ w w_is ok.
    words_on_are image (p, q) (n, n) w w_is λ first last lt0 lt1.
    let l = leads x n (p, q) w (n, n) first last low high (omega (arith, ints)) (omega (arith, ints)) in
    let y_low = l.low in
    let y_high = l.high in
    let address : machine_words_on (word_address x) n ≡ word_address l.place = words_on_is x l.place n (omega arith) (omega arith) l.is in
    go (word_address x) is (subst (λ u. KindFits image u (Some (machine_words_on (word_address x) n))) (same_Ok _ _ ok) (rw address (pointer_fits image w.0 w.1 l.place y_low y_high (omega arith))))
further_fits image n (kind.BytePtr p q) k' r small ok h go = cc

-- ---- bytes of the workspace

-- the word of a byte, and the byte's place in it
byte_place : (x : ℕ) → word_address (x / 4) + x % 4 ≡ mem_start + x
byte_place x = omega arith

-- a byte that is written stands in one word
byte_elsewhere : (m : Memory) (x byte i : ℕ) → (i < x / 4) ⊎ (x / 4 + 1 ≤ i) → word_at (with_bytes m (mem_start + x) (byte ∷ [])) (word_address i) ≡ word_at m (word_address i)
byte_elsewhere m x byte i (inl below) = written_apart m (mem_start + x) (byte ∷ []) (word_address i) (inl (omega arith))
byte_elsewhere m x byte i (inr above) = written_apart m (mem_start + x) (byte ∷ []) (word_address i) (inr (omega arith))

-- and leaves a defined word defined
word_still : (rows : List LoopRow) (m : Memory) (x i : ℕ) (bytes : List ℕ) → AreSmall (with_bytes m x bytes) →
    CellFits rows cell.Any (word_at m (word_address i)) → CellFits rows cell.Any
    (word_at (with_bytes m x bytes) (word_address i))
word_still rows m x i bytes small (v, is, lt) =
    let was = has_bytes m (word_address i) v is in
    bytes_word rows (with_bytes m x bytes) (word_address i) small
    (bytes_of (with_bytes m x bytes) (word_address i) (λ k lt. written_defined m x bytes (word_address i + k) (byte_of m (word_address i) k was lt)))

low_byte : (b : ℕ) → All (λ byte. byte < 256) (b % 256 ∷ [])
low_byte b = All-cons (λ byte. byte < 256) (b % 256) [] (omega arith) (All-nil (λ byte. byte < 256))

-- ---- instructions

module _ (image : ImageValue) (small : image.workspace ≤ 512) (around : ℕ → Bool) (next : ℕ) (t : State) (s : Machine) (f : FitsAmong image around next t s) (at : ℕ) (e : Edge) (t' : State) where
  pub ldnlp_makes : (n : ℤ) → rule image at next (Ldnlp n) e t ≡ Ok t' → Makes image around None next (Ldnlp n) t' s
  unfolding rule effect
  ldnlp_makes n ok =
      through (words_further image n t.a) _ t' ok λ k k_is ok.
      further_fits image n t.a k s.areg small k_is f.registers.a λ v v_is fits.
      registers_made image around next t s f (Ldnlp n) t' k t.b t.c (Some (machine_words_on v n)) s.breg s.creg s.error
      (one_there (λ a. machine_set_areg (machine_words_on a n) s) s.areg v v_is) ok fits f.registers.b f.registers.c

  pub wsub_makes : rule image at next Wsub e t ≡ Ok t' → Makes image around None next Wsub t' s
  unfolding rule effect
  wsub_makes ok =
      past (known t.a) _ t' ok λ ok.
      past (known t.b) _ t' ok λ ok.
      through (pointer t.a) _ t' ok λ p p_is ok.
      through (number t.b) _ t' ok λ b b_is ok.
      through (words_on image p b) _ t' ok λ w w_is ok.
      pointer_is image t.a s.areg p p_is f.registers.a λ x x_is low high inside.
      number_is image t.b s.breg b b_is f.registers.b λ v v_is in_b.
      words_on_are image p b w w_is λ first last lt0 lt1.
      let l = leads x (signed v) p w b first last low high in_b.above in_b.below in
      let y_low = l.low in
      let y_high = l.high in
      let address : machine_words_on (word_address x) (pos v) ≡ word_address l.place = words_further_is x l.place v in_b.word (omega arith) (omega arith) l.is in
      registers_made image around next t s f Wsub t' (kind.Ptr w.0 w.1) t.c kind.Undef (Some (machine_words_on (word_address x) (pos v))) s.creg None s.error
      (both_there (λ b a. record s { areg = Some (machine_words_on a (pos b)); breg = s.creg; creg = None }) s.areg s.breg (word_address x) v x_is v_is) ok
      (rw address (pointer_fits image w.0 w.1 l.place y_low y_high (omega arith))) f.registers.c tt

  pub bsub_makes : rule image at next Bsub e t ≡ Ok t' → Makes image around None next Bsub t' s
  unfolding rule effect
  bsub_makes ok =
      past (known t.a) _ t' ok λ ok.
      past (known t.b) _ t' ok λ ok.
      through (byte_pointer t.a) _ t' ok λ p p_is ok.
      through (number t.b) _ t' ok λ b b_is ok.
      through (bytes_on image p b) _ t' ok λ w w_is ok.
      byte_pointer_is image t.a s.areg p p_is f.registers.a λ x x_is low high inside.
      number_is image t.b s.breg b b_is f.registers.b λ v v_is in_b.
      bytes_on_are image p b w w_is λ first last lt0 lt1.
      let l = leads x (signed v) p w b first last low high in_b.above in_b.below in
      let y_low = l.low in
      let y_high = l.high in
      let address : low_word (pos (mem_start + x) +ℤ pos v) ≡ mem_start + l.place = bytes_further_is x l.place v in_b.word (omega arith) (omega arith) l.is in
      registers_made image around next t s f Bsub t' (kind.BytePtr w.0 w.1) t.c kind.Undef (Some (low_word (pos (mem_start + x) +ℤ pos v))) s.creg None s.error
      (both_there (λ b a. record s { areg = Some (low_word (pos a +ℤ pos b)); breg = s.creg; creg = None }) s.areg s.breg (mem_start + x) v x_is v_is) ok
      (rw address (byte_pointer_fits image w.0 w.1 l.place y_low y_high (omega arith))) f.registers.c tt

  -- of several words, any value
  read_of_some : {P : Type 0} (w : ℕ × ℕ) (k : Kind) (y : ℕ) → are_defined (between t.cells w) ≡ true →
      (if w.0 == w.1 then read image.loops (cell_at t.cells w.0) else Ok full) ≡ Ok k → w.0 ≤ y → y ≤ w.1 →
      w.1 < image.workspace
      → ((v : ℕ) → word_at s.memory (word_address y) ≡ Some v → KindFits image k (Some v) → P) → P
  unfolding between
  read_of_some {P} w k y defined is low high lt go = by_test (w.0 == w.1) refl is
    where
      by_test : (b : Bool) → (w.0 == w.1) ≡ b → (if b then read image.loops (cell_at t.cells w.0) else Ok full) ≡ Ok k → P
      by_test true one is =
          let one_word : w.0 ≡ w.1 = (Decides-eqb w.0 w.1).0 one in
          let same : w.0 ≡ y = omega arith in
          read_fits image (cell_at t.cells y) k (word_at s.memory (word_address y)) (ap (λ x. read image.loops (cell_at t.cells x)) (sym same) ∙ is) (f.words.word y (omega arith)) go
      by_test false many is =
          let there = all_inside is_defined t.cells w.0 (w.1 + 1 - w.0) y defined (omega (arith, f.words.sized)) low (omega arith) in
          let (v, v_is, word) = defined_word image.loops (cell_at t.cells y) (word_at s.memory (word_address y)) there (f.words.word y (omega arith)) in
          go v v_is (subst (λ u. KindFits image u (Some v)) (same_Ok full k is) (full_fits image v word))

  pub ldnl_makes : (n : ℤ) → rule image at next (Ldnl n) e t ≡ Ok t' → Makes image around None next (Ldnl n) t' s
  unfolding rule effect
  ldnl_makes n ok =
      past (known t.a) _ t' ok λ ok.
      through (pointer t.a) _ t' ok λ p p_is ok.
      through (words_on image p (n, n)) _ t' ok λ w w_is ok.
      held S4 (are_defined (between t.cells w)) _ t' ok λ defined ok.
      through (if w.0 == w.1 then read image.loops (cell_at t.cells w.0) else Ok full) _ t' ok λ k k_is ok.
      pointer_is image t.a s.areg p p_is f.registers.a λ x x_is low high inside.
      words_on_are image p (n, n) w w_is λ first last lt0 lt1.
      let l = leads x n p w (n, n) first last low high (omega (arith, ints)) (omega (arith, ints)) in
      let y_low = l.low in
      let y_high = l.high in
      let address : machine_words_on (word_address x) n ≡ word_address l.place = words_on_is x l.place n (omega arith) (omega arith) l.is in
      read_of_some w k l.place defined k_is y_low y_high lt1 λ v v_is fits.
      registers_made image around next t s f (Ldnl n) t' k t.b t.c (Some v) s.breg s.creg s.error
      (loaded_there (λ word. machine_set_areg word s) (λ a. load image s (machine_words_on a n)) s.areg (word_address x)
      v x_is (load_there image s _ l.place v address (omega arith) v_is)) ok fits f.registers.b f.registers.c

  pub lb_makes : rule image at next Lb e t ≡ Ok t' → Makes image around None next Lb t' s
  unfolding rule effect between
  lb_makes ok =
      past (known t.a) _ t' ok λ ok.
      through (byte_pointer t.a) _ t' ok λ p p_is ok.
      held S4 (are_defined (between t.cells (words_of_bytes p))) _ t' ok λ defined ok.
      byte_pointer_is image t.a s.areg p p_is f.registers.a λ x x_is low high inside.
      let sized = f.words.sized in
      let there = all_within is_defined t.cells (p.0 / 4) (p.1 / 4 + 1 - p.0 / 4) (x / 4) defined (omega arith) (omega arith) (omega arith) in
      let (v, v_is, word) = defined_word image.loops (cell_at t.cells (x / 4)) (word_at s.memory (word_address (x / 4))) there (f.words.word (x / 4) (omega arith)) in
      let (b, b_is) = byte_of s.memory (word_address (x / 4)) (x % 4) (has_bytes s.memory (word_address (x / 4)) v v_is) (omega arith) in
      let byte_is : s.memory (mem_start + x) ≡ Some b = ap s.memory (sym (byte_place x)) ∙ b_is in
      let lt = f.bytes.memory (mem_start + x) b byte_is in
      registers_made image around next t s f Lb t' (kind.Int (pos 0) (pos 255)) t.b t.c (Some b) s.breg s.creg s.error
      (byte_there s.areg (mem_start + x) b x_is (byte_inside image x inside) byte_is) ok
      (within_fits image (pos 0) (pos 255) b (omega arith) (omega (arith, ints)) (omega (arith, ints))) f.registers.b f.registers.c
    where
      byte_there : (r : Option ℕ) (a b : ℕ) → r ≡ Some a → in_workspace image a 1 ≡ true → s.memory a ≡ Some b
          → option_and_then (λ a. only_if (in_workspace image a 1) >>? option_and_then (λ byte. Some (machine_set_areg byte s)) (s.memory a)) r ≡ Some (machine_set_areg b s)
      byte_there r a b is inside its = rw (is, inside, its)

  pub sb_makes : rule image at next Sb e t ≡ Ok t' → Makes image around None next Sb t' s
  unfolding rule effect between
  sb_makes ok =
      past (known t.a) _ t' ok λ ok.
      past (known t.b) _ t' ok λ ok.
      through (byte_pointer t.a) _ t' ok λ p p_is ok.
      past_is (number t.b) _ t' ok λ b b_is ok.
      held S5 (are_free (between t.cells (words_of_bytes p))) _ t' ok λ free ok.
      byte_pointer_is image t.a s.areg p p_is f.registers.a λ x x_is low high inside.
      number_is image t.b s.breg b b_is f.registers.b λ v v_is in_b.
      let m' : Memory = with_bytes s.memory (mem_start + x) (v % 256 ∷ []) in
      let sized = f.words.sized in
      let cut = cut_within t.cells (p.0 / 4) (p.1 / 4 + 1 - p.0 / 4) (omega arith) in
      let still : AreSmall m' = written_small s.memory (mem_start + x) (v % 256 ∷ []) f.bytes.memory (low_byte v) in
      let among = cut.all (x / 4 - p.0 / 4) (omega arith) (omega arith) in
      let change : Change image.loops image.workspace t.cells (with_cells t.cells (p.0 / 4) (map blurred (cells_from t.cells (p.0 / 4) cut.number))) s.memory m' =
      blurred_taken image.loops image.workspace t.cells s.memory m' (p.0 / 4) cut.number f.words cut.room (ap are_free (sym cut.same) ∙ free)
      (λ i lt. word_still image.loops s.memory (mem_start + x) (p.0 / 4 + i) (v % 256 ∷ []) still)
      (λ i out lt. byte_elsewhere s.memory x (v % 256) i (elsewhere (p.0 / 4) cut.number x i (omega arith) (omega arith) out)) in
      words_made image around next t s f Sb t' (with_cells t.cells (p.0 / 4) (map blurred (cells_from t.cells (p.0 / 4) (p.1 / 4 + 1 - p.0 / 4)))) m' t.c kind.Undef kind.Undef s.creg None None
      (byte_stored s.areg s.breg (mem_start + x) v x_is v_is (byte_inside image x inside)) ok
      (subst (λ cs. Change image.loops image.workspace t.cells (with_cells t.cells (p.0 / 4) (map blurred cs)) s.memory m') (sym cut.same) change) still f.registers.c tt tt
    where
      byte_stored : (ra rb : Option ℕ) (a b : ℕ) → ra ≡ Some a → rb ≡ Some b → in_workspace image a 1 ≡ true
          → option_and_then (λ a. option_and_then (λ b. only_if (in_workspace image a 1) >>? Some
          (machine_pop_two (record s { memory = with_bytes s.memory a (b % 256 ∷ []) }))) rb) ra ≡ Some
          (machine_pop_two (record s { memory = with_bytes s.memory a (b % 256 ∷ []) }))
      byte_stored ra rb a b is its inside = rw (is, its, inside)

      elsewhere : (w n x i : ℕ) → w ≤ x / 4 → x / 4 < w + n → (i < w) ⊎ (w + n ≤ i) → (i < x / 4) ⊎ (x / 4 + 1 ≤ i)
      elsewhere w n x i low high (inl below) = inl (omega arith)
      elsewhere w n x i low high (inr above) = inr (omega arith)

  pub stnl_makes : (n : ℤ) → rule image at next (Stnl n) e t ≡ Ok t' → Makes image around None next (Stnl n) t' s
  unfolding rule effect between
  stnl_makes n ok =
      past (known t.a) _ t' ok λ ok.
      through (known t.b) _ t' ok λ k k_is ok.
      through (pointer t.a) _ t' ok λ p p_is ok.
      through (words_on image p (n, n)) _ t' ok λ w w_is ok.
      held S5 (are_free (between t.cells w)) _ t' ok λ free ok.
      pointer_is image t.a s.areg p p_is f.registers.a λ x x_is low high inside.
      known_is image t.b k s.breg small k_is f.registers.b λ v v_is word same.
      words_on_are image p (n, n) w w_is λ first last lt0 lt1.
      let l = leads x n p w (n, n) first last low high (omega (arith, ints)) (omega (arith, ints)) in
      let y_low = l.low in
      let y_high = l.high in
      let y = l.place in
      let sized = f.words.sized in
      let address : machine_words_on (word_address x) n ≡ word_address y = words_on_is x y n (omega arith) (omega arith) l.is in
      let m' : Memory = with_word s.memory (word_address y) v in
      let fits : KindFits image k (Some v) = subst (λ u. KindFits image u (Some v)) same (subst (KindFits image t.b) v_is f.registers.b) in
      let made = both_stored machine_pop_two (λ a b. store image (machine_words_on a n) b s) s.areg s.breg
      (word_address x) v (record s { memory = m' }) x_is v_is
      (store_there image s (machine_words_on (word_address x) n) y v address (omega arith)) in
      by_test w y k v y_low y_high lt1 free word fits made (w.0 == w.1) refl ok
    where
      by_test : (w : ℕ × ℕ) (y : ℕ) (k : Kind) (v : ℕ) → w.0 ≤ y → y ≤ w.1 → w.1 < image.workspace → are_free (between t.cells w) ≡ true → v < 2 ^ 32 → KindFits image k (Some v)
          → effect image (Stnl n) s ≡ Some (machine_pop_two (record s { memory = with_word s.memory (word_address y) v }))
          → (b : Bool) → (w.0 == w.1) ≡ b → ◌≡◌ {A = Result State StateCode} (Ok (pop_two (if b then with_word_of w.0 k t else with_blurred w t))) (Ok t') → Makes image around None next (Stnl n) t' s
      by_test w y k v low high lt free word fits made true one ok =
          let one_word : w.0 ≡ w.1 = (Decides-eqb w.0 w.1).0 one in
          let same : y ≡ w.0 = omega arith in
          let sized = f.words.sized in
          let its_free = all_inside is_free t.cells w.0 (w.1 + 1 - w.0) w.0 free (omega arith) (omega arith) (omega arith) in
          words_made image around next t s f (Stnl n) t' (slice_set t.cells w.0 (written k)) (with_word s.memory (word_address w.0) v) t.c kind.Undef kind.Undef s.creg None None
          (made ∙ ap (λ x. Some (machine_pop_two (record s { memory = with_word s.memory (word_address x) v }))) same) ok
          (word_taken image.loops image.workspace t.cells s.memory w.0 (written k) v word (omega arith) its_free (written_free k) (written_fits image k v word fits))
          (word_small s.memory (word_address w.0) v f.bytes.memory) f.registers.c tt tt
      by_test w y k v low high lt free word fits made false many ok =
          let sized = f.words.sized in
          words_made image around next t s f (Stnl n) t' (with_cells t.cells w.0
          (map blurred (cells_from t.cells w.0 (w.1 + 1 - w.0)))) (with_word s.memory (word_address y) v) t.c
          kind.Undef kind.Undef s.creg None None made ok
          (blurred_taken image.loops image.workspace t.cells s.memory (with_word s.memory (word_address y) v) w.0 (w.1 + 1 - w.0) f.words (omega arith) free
          (λ i lt was. inside (w.0 + i) (cases_eq (w.0 + i) y) was)
          (λ i out i_lt. unwritten_word s.memory y i v (other i out)))
          (word_small s.memory (word_address y) v f.bytes.memory) f.registers.c tt tt
        where
          inside : (i : ℕ) → (i ≡ y) ⊎ (i ≡ y → ⊥) → CellFits image.loops cell.Any (word_at s.memory (word_address i)) →
              CellFits image.loops cell.Any (word_at (with_word s.memory (word_address y) v) (word_address i))
          inside i (inl here) was = (v, ap (λ j. word_at (with_word s.memory (word_address y) v) (word_address j)) here ∙ written_word s.memory y v word, word)
          inside i (inr other) was = rw (unwritten_word s.memory y i v other) was

          other : (i : ℕ) → (i < w.0) ⊎ (w.0 + (w.1 + 1 - w.0) ≤ i) → i ≡ y → ⊥
          other i (inl below) same = omega arith
          other i (inr above) same = omega arith
