-- What move makes of a state that fits.
use Rattle.std.proofs.Common.{◌≡◌, ℕ, ◌+◌, ◌*◌, ◌/◌, ◌%◌, ◌≤◌, Bool, true, ◌&&◌, ◌||◌, ◌==◌, nat_eq, nat_le, ℤ, pos, negsuc, List, map, Option, Some, None, Ok, sym, ap, ◌∙◌, arith}
use Rattle.std.specs.Prelude.{int_le}
use Rattle.std.specs.Ordering.{int_eq}
use Rattle.std.proofs.lemmas.Int.{ints}
use Rattle.std.proofs.lemmas.Bool.{and_parts}
use Rattle.std.proofs.lemmas.Bool.Decides.{nat_tests, Decides-eqb, Decides-int_eq}
use Rattle.std.specs.Option.{option_and_then}
use Rattle.tp_decode.specs.declared.instr.Instr.TheVariants.{MoveBytes}
use Rattle.tp_image.specs.Image.{ImageValue}
use Rattle.tp_flow.specs.declared.edge.Edge.{Edge}
use Rattle.tp_step.specs.Maybe.{only_if, ◌>>◌ as ◌>>?◌}
use Rattle.tp_step.specs.Memory.{Memory, with_bytes, bytes_at}
use Rattle.tp_step.specs.State.{State as Machine, no_registers as machine_no_registers}
use Rattle.tp_step.specs.Effects.{effect, has_move, may_move}
use Rattle.tp_state.specs.declared.kind.Kind.TheVariants as kind
use Rattle.tp_state.specs.declared.state.State.{State}
use Rattle.tp_state.specs.declared.fault.StateCode.TheVariants.{S3, S4, S5, S7, S11}
use Rattle.tp_state.specs.Kinds.{known, number, one_word}
use Rattle.tp_state.specs.CellRules.{cells_from, with_cells, are_free, are_defined, copied}
use Rattle.tp_state.specs.Rules.{rule, message_in, is_move_length, are_apart, count_of}
use Rattle.tp_state.specs.Fits.{InRange, FitsAmong, word_address}
use Rattle.tp_state.proofs.Passing.{through, past, past_is, held, true_false}
use Rattle.tp_state.proofs.WordLemmas.{natural_signed, words_inside}
use Rattle.tp_state.proofs.KindLemmas.{number_is, one_word_is}
use Rattle.tp_state.proofs.StretchLemmas.{copies_taken}
use Rattle.tp_state.proofs.ByteLemmas.{word_moved, written_in, written_small, Reads, reads_small}
use Rattle.tp_state.proofs.MessagePass.{message_inside, words_elsewhere, words_read}
use Rattle.tp_state.proofs.Makes.{Makes, words_made}

-- words that move copies, 1 to 512 of them
record Moves (a : ℤ × ℤ) (v : ℕ) : Type 0 where
  some : 1 ≤ count_of a.0 / 4
  few : count_of a.0 / 4 ≤ 512
  whole : v ≡ 4 * (count_of a.0 / 4)

moves : (a : ℤ × ℤ) (v : ℕ) → InRange a.0 a.1 v → is_move_length a ≡ true → Moves a v
unfolding is_move_length
moves (pos n, high) v in_a e =
    let last = and_parts (int_eq (pos n) high && int_le (pos 4) (pos n) && int_le (pos n) (pos 2048)) (n % 4 == 0) e in
    let third = and_parts (int_eq (pos n) high && int_le (pos 4) (pos n)) (int_le (pos n) (pos 2048)) last.0 in
    let second = and_parts (int_eq (pos n) high) (int_le (pos 4) (pos n)) third.0 in
    let same : pos n ≡ high = (Decides-int_eq (pos n) high).0 second.0 in
    let above = in_a.above in
    let below = in_a.below in
    let is : v ≡ n = natural_signed v n in_a.word (omega (arith, ints)) in
    let four : 4 ≤ n = least n second.1 in
    let most : n ≤ 2048 = most n third.1 in
    let words : n % 4 ≡ 0 = (Decides-eqb (n % 4) 0).0 last.1 in
    record { some = omega arith; few = omega arith; whole = omega arith }
  where
    least : (n : ℕ) → int_le (pos 4) (pos n) ≡ true → 4 ≤ n
    least n e = grind (arith, nat_tests)

    most : (n : ℕ) → int_le (pos n) (pos 2048) ≡ true → n ≤ 2048
    most n e = grind (arith, nat_tests)
moves (negsuc n, high) v in_a e =
    let last = and_parts (int_eq (negsuc n) high && int_le (pos 4) (negsuc n) && int_le (negsuc n) (pos 2048)) (0 % 4 == 0) e in
    let third = and_parts (int_eq (negsuc n) high && int_le (pos 4) (negsuc n)) (int_le (negsuc n) (pos 2048)) last.0 in
    let second = and_parts (int_eq (negsuc n) high) (int_le (pos 4) (negsuc n)) third.0 in
    true_false (sym second.1)

-- the machine allows it
allowed : (image : ImageValue) (x y n : ℕ) → 1 ≤ n → n ≤ 512 → x + n ≤ image.workspace → y + n ≤ image.workspace →
    are_apart n x y ≡ true → may_move image (4 * n) (word_address x) (word_address y) ≡ true
unfolding are_apart
allowed image x y n some few target source apart =
    let whole : nat_eq ((4 * n) % 4) 0 ≡ true = grind (arith, nat_tests) in
    let least : nat_le 4 (4 * n) ≡ true = grind (arith, nat_tests) in
    let most : nat_le (4 * n) 2048 ≡ true = grind (arith, nat_tests) in
    rw (whole, least, most, words_inside image x n target, words_inside image y n source) (off x y n apart)
  where
    off : (x y n : ℕ) → (nat_le (x + n) y || nat_le (y + n) x) ≡ true → (nat_le (word_address x + 4 * n) (word_address y) || nat_le (word_address y + 4 * n) (word_address x)) ≡ true
    off x y n e = grind (arith, nat_tests)

-- what move asks of the machine
record IsMoving (image : ImageValue) (s : Machine) (x y n : ℕ) (bytes : List ℕ) : Type 0 where
  length_is : s.areg ≡ Some (4 * n)
  target_is : s.breg ≡ Some (word_address x)
  source_is : s.creg ≡ Some (word_address y)
  has : has_move image.version ≡ true
  may : may_move image (4 * n) (word_address x) (word_address y) ≡ true
  are : bytes_at s.memory (word_address y) (4 * n) ≡ Some bytes

move_is : (image : ImageValue) (s : Machine) (x y n : ℕ) (bytes : List ℕ) → IsMoving image s x y n bytes →
    effect image MoveBytes s ≡ Some (machine_no_registers (record s
    { memory = with_bytes s.memory (word_address x) bytes }))
unfolding effect
move_is image s x y n bytes h = by_registers s.areg s.breg s.creg h.length_is h.target_is h.source_is h.has h.may h.are
  where
    by_registers : (ra rb rc : Option ℕ) → ra ≡ Some (4 * n) → rb ≡ Some (word_address x) → rc ≡ Some (word_address y)
        → has_move image.version ≡ true → may_move image (4 * n) (word_address x) (word_address y) ≡ true → bytes_at s.memory (word_address y) (4 * n) ≡ Some bytes
        → option_and_then (λ n. option_and_then (λ target. option_and_then
        (λ source. only_if (has_move image.version && may_move image n target source) >>? option_and_then
        (λ bytes. Some (machine_no_registers (record s { memory = with_bytes s.memory target bytes })))
        (bytes_at s.memory source n)) rc) rb) ra
        ≡ Some (machine_no_registers (record s { memory = with_bytes s.memory (word_address x) bytes }))
    by_registers ra rb rc ea eb ec has may are = rw (ea, eb, ec, has, may, are)

-- a place in a word that is copied
copied_place : (x i k : ℕ) → word_address (x + i) + k ≡ word_address x + (4 * i + k)
copied_place x i k = omega arith

module _ (image : ImageValue) (around : ℕ → Bool) (next : ℕ) (t : State) (s : Machine) (f : FitsAmong image around next t s) (at : ℕ) (e : Edge) (t' : State) where
  pub move_makes : rule image at next MoveBytes e t ≡ Ok t' → Makes image around None next MoveBytes t' s
  unfolding rule
  move_makes ok =
      held S11 (has_move image.version) _ t' ok λ has ok.
      past (known t.a) _ t' ok λ ok.
      past (known t.b) _ t' ok λ ok.
      past (known t.c) _ t' ok λ ok.
      through (number t.a) _ t' ok λ a a_is ok.
      through (one_word t.b) _ t' ok λ x x_is ok.
      through (one_word t.c) _ t' ok λ y y_is ok.
      held S7 (is_move_length a) _ t' ok λ sized ok.
      past_is (message_in image x (count_of a.0 / 4)) _ t' ok λ b b_is ok.
      past_is (message_in image y (count_of a.0 / 4)) _ t' ok λ c c_is ok.
      held S3 (are_apart (count_of a.0 / 4) x y) _ t' ok λ apart ok.
      held S4 (are_defined (cells_from t.cells y (count_of a.0 / 4))) _ t' ok λ defined ok.
      held S5 (are_free (cells_from t.cells x (count_of a.0 / 4))) _ t' ok λ free ok.
      message_inside image x (count_of a.0 / 4) b b_is λ target.
      message_inside image y (count_of a.0 / 4) c c_is λ source.
      number_is image t.a s.areg a a_is f.registers.a λ v v_is in_a.
      one_word_is image t.b s.breg x x_is f.registers.b λ x_there x_lt.
      one_word_is image t.c s.creg y y_is f.registers.c λ y_there y_lt.
      let n = count_of a.0 / 4 in
      let m = moves a v in_a sized in
      let read : Reads s.memory (word_address y) (4 * n) = words_read image.loops image.workspace t.cells s.memory y n f.words source defined in
      let m' : Memory = with_bytes s.memory (word_address x) read.bytes in
      words_made image around next t s f MoveBytes t' (with_cells t.cells x (map copied (cells_from t.cells y n))) m' kind.Undef kind.Undef kind.Undef None None None
      (move_is image s x y n read.bytes record {
        length_is = v_is ∙ ap Some m.whole;
        target_is = x_there;
        source_is = y_there;
        has = has;
        may = allowed image x y n m.some m.few target source apart;
        are = read.are;
      }) ok
      (copies_taken image.loops image.workspace t.cells s.memory m' x y n f.words (omega (arith, f.words.sized)) (omega (arith, f.words.sized)) free
      (λ i lt. word_moved s.memory m' (word_address (x + i)) (word_address (y + i)) (λ k k_lt.
      ap m' (copied_place x i k) ∙ written_in s.memory (word_address x) read.bytes (4 * i + k)
      (omega (arith, read.long)) ∙ sym (read.each (4 * i + k) (omega arith)) ∙
      ap s.memory (sym (copied_place y i k))))
      (λ i out lt. words_elsewhere s.memory x n i read.bytes read.long out))
      (written_small s.memory (word_address x) read.bytes f.bytes.memory (reads_small s.memory (word_address y) (4 * n) read f.bytes.memory)) tt tt tt
