-- What in and out make of a state that fits.
use Rattle.std.proofs.Common.{◌≡◌, ◌⊎◌, inl, inr, ℕ, ◌+◌, ◌*◌, ◌/◌, ◌%◌, ◌<◌, ◌≤◌, Bool, true, false, ◌&&◌, ◌==◌}
use Rattle.std.proofs.Common.{nat_eq, nat_le, if◌then◌else◌, ℤ, pos, negsuc, List, ◌++◌, length, take, drop, replicate}
use Rattle.std.proofs.Common.{get_or, Option, Some, None, Ok, Err, refl, sym, ap, ◌∙◌, subst, arith}
use Rattle.std.specs.Prelude.{int_le}
use Rattle.std.specs.Ordering.{int_eq}
use Rattle.std.proofs.lemmas.Int.{ints}
use Rattle.std.proofs.lemmas.Bool.{and_parts}
use Rattle.std.proofs.lemmas.Bool.Decides.{nat_tests, Decides-eqb, Decides-int_eq}
use Rattle.std.proofs.lemmas.List.{length-take-le}
use Rattle.std.proofs.lemmas.List.Elements.{All-take, All-drop}
use Rattle.std.specs.Option.{option_and_then}
use Rattle.tp_words.specs.Words.{signed}
use Rattle.tp_decode.specs.declared.instr.Instr.TheVariants.{Input, Output}
use Rattle.tp_image.specs.declared.image.LoopRow.{LoopRow}
use Rattle.tp_image.specs.Image.{ImageValue}
use Rattle.tp_flow.specs.declared.edge.Edge.{Edge}
use Rattle.tp_step.specs.Maybe.{only_if, ◌>>◌ as ◌>>?◌}
use Rattle.tp_step.specs.Memory.{Memory, word_at, with_bytes, bytes_at}
use Rattle.tp_step.specs.State.{State as Machine, in_workspace, descheduled as machine_descheduled}
use Rattle.tp_step.specs.Effects.{effect, link0_input, link0_output, link1_output, is_packet, is_result, is_trace, sent_on}
use Rattle.tp_state.specs.declared.kind.Kind.{Kind}
use Rattle.tp_state.specs.declared.cell.Cell.{Cell}
use Rattle.tp_state.specs.declared.cell.Cell.TheVariants as cell
use Rattle.tp_state.specs.declared.state.State.{State}
use Rattle.tp_state.specs.declared.fault.StateCode.TheVariants.{S3, S4, S5, S7, S8, S9}
use Rattle.tp_state.specs.Answer.{◌>>◌, unless}
use Rattle.tp_state.specs.Kinds.{known, number, one_word, is_exactly}
use Rattle.tp_state.specs.CellRules.{cell_at, cells_from, with_cells, are_free, is_defined, are_defined}
use Rattle.tp_state.specs.Rules.{rule, message_in, words_to_send, phase_after, descheduled, suspended, channel, is_one_length, is_trace_length, count_of}
use Rattle.tp_state.specs.Fits.{InRange, KindFits, CellFits, FitsAmong, WordsFit, word_address}
use Rattle.tp_state.proofs.Passing.{through, past, past_is, held, holds, same_Ok, true_false}
use Rattle.tp_state.proofs.WordLemmas.{natural_signed, signed_same, words_inside}
use Rattle.tp_state.proofs.KindLemmas.{number_is, one_word_is, exactly_is, defined_word}
use Rattle.tp_state.proofs.WordsChange.{Change}
use Rattle.tp_state.proofs.StretchLemmas.{all_between, any_taken}
use Rattle.tp_state.proofs.ByteLemmas.{AreSmall, IsByte, has_bytes, byte_of, bytes_of, bytes_word, written_in, written_apart, written_small, Reads, reads}
use Rattle.tp_state.proofs.Makes.{KeepsTurns, Makes, words_fit, words_turns}
use Rattle.tp_state.proofs.RestLemmas.{rested, rests, rest}

pub message_inside : {P : Type 0} (image : ImageValue) (x n : ℕ) (b : Bool) → message_in image x n ≡ Ok b → (x + n ≤ image.workspace → P) → P
unfolding message_in
message_inside image x n b e go =
    let test = holds S3 (nat_le (x + n) image.workspace) b e in
    go (grind (arith, nat_tests))

-- ---- bytes of words one after another

-- a place in a word, by its place among the bytes
byte_at_place : (x i k : ℕ) → word_address (x + i) + k ≡ word_address x + (4 * i + k)
byte_at_place x i k = omega arith

pub words_written : (rows : List LoopRow) (m : Memory) (x n i : ℕ) (bytes : List ℕ) →
    AreSmall (with_bytes m (word_address x) bytes) → length bytes ≡ 4 * n → i < n →
    CellFits rows cell.Any (word_at (with_bytes m (word_address x) bytes) (word_address (x + i)))
words_written rows m x n i bytes small long lt =
    bytes_word rows (with_bytes m (word_address x) bytes) (word_address (x + i)) small
    (bytes_of (with_bytes m (word_address x) bytes) (word_address (x + i)) (λ k k_lt.
    (get_or bytes (4 * i + k) 0, ap (with_bytes m (word_address x) bytes) (byte_at_place x i k) ∙ written_in m (word_address x) bytes (4 * i + k) (omega arith))))

pub words_elsewhere : (m : Memory) (x n i : ℕ) (bytes : List ℕ) → length bytes ≡ 4 * n → (i < x) ⊎ (x + n ≤ i) →
    word_at (with_bytes m (word_address x) bytes) (word_address i) ≡ word_at m (word_address i)
words_elsewhere m x n i bytes long (inl below) = written_apart m (word_address x) bytes (word_address i) (inl (omega arith))
words_elsewhere m x n i bytes long (inr above) = written_apart m (word_address x) bytes (word_address i) (inr (omega arith))

-- defined words are read
pub words_read : (rows : List LoopRow) (workspace : ℕ) (cells : List Cell) (m : Memory) (x n : ℕ) →
    WordsFit rows workspace cells m → x + n ≤ workspace → are_defined (cells_from cells x n) ≡ true →
    Reads m (word_address x) (4 * n)
words_read rows workspace cells m x n f room defined = reads m (4 * n) (word_address x) byte
  where
    byte : (k : ℕ) → k < 4 * n → IsByte m (word_address x + k)
    byte k lt =
        let i : k / 4 < n = omega arith in
        let there = all_between is_defined cells x n (k / 4) defined (omega (arith, f.sized)) i in
        let (v, v_is, word) = defined_word rows (cell_at cells (x + k / 4)) (word_at m (word_address (x + k / 4))) there (f.word (x + k / 4) (omega arith)) in
        let place : word_address (x + k / 4) + k % 4 ≡ word_address x + k = omega arith in
        subst (IsByte m) place (byte_of m (word_address (x + k / 4)) (k % 4) (has_bytes m (word_address (x + k / 4)) v v_is) (omega arith))

-- ---- in

-- what in asks of the machine
record IsTaking (image : ImageValue) (s : Machine) (x : ℕ) : Type 0 where
  length_is : s.areg ≡ Some (4 * image.packet)
  channel_is : s.breg ≡ Some link0_input
  target_is : s.creg ≡ Some (word_address x)
  before : s.phase ≡ 0
  there : 4 * image.packet ≤ length s.to_come
  inside : x + image.packet ≤ image.workspace

-- the packet is there
taken : ImageValue → ℕ → Machine → Machine
taken image x s = record s { memory = with_bytes s.memory (word_address x) (take (4 * image.packet) s.to_come); to_come = drop (4 * image.packet) s.to_come; phase = 1 }

input_is : (image : ImageValue) (s : Machine) (x : ℕ) → IsTaking image s x → effect image Input s ≡ machine_descheduled image (taken image x s)
unfolding effect taken
input_is image s x h =
    let long : nat_le (4 * image.packet) (length s.to_come) ≡ true = at_least (4 * image.packet) (length s.to_come) h.there in
    let inside = words_inside image x image.packet h.inside in
    by_registers s.areg s.breg s.creg h.length_is h.channel_is h.target_is (ap (λ p. p == 0) h.before) long inside
  where
    at_least : (n m : ℕ) → n ≤ m → nat_le n m ≡ true
    at_least n m le = grind (arith, nat_tests)

    by_registers : (ra rb rc : Option ℕ) → ra ≡ Some (4 * image.packet) → rb ≡ Some link0_input → rc ≡ Some (word_address x)
        → (s.phase == 0) ≡ true → nat_le (4 * image.packet) (length s.to_come) ≡ true → in_workspace image (word_address x) (4 * image.packet) ≡ true
        → option_and_then (λ n. option_and_then (λ channel. option_and_then
        (λ target. only_if (is_packet image channel n s && nat_le n (length s.to_come)) >>?
        (only_if (in_workspace image target n) >>? machine_descheduled image
        (record s { memory = with_bytes s.memory target (take n s.to_come); to_come = drop n s.to_come; phase = 1 })))
        rc) rb) ra
        ≡ machine_descheduled image (record s { memory = with_bytes s.memory (word_address x) (take (4 * image.packet) s.to_come); to_come = drop (4 * image.packet) s.to_come; phase = 1 })
    by_registers ra rb rc ea eb ec phase long inside =
        let same : nat_eq (4 * image.packet) (4 * image.packet) ≡ true = (Decides-eqb (4 * image.packet) (4 * image.packet)).1 refl in
        rw (ea, eb, ec, same, phase, long, inside)

module _ (image : ImageValue) (around : ℕ → Bool) (next : ℕ) (t : State) (s : Machine) (f : FitsAmong image around next t s) (at : ℕ) (e : Edge) (t' : State) where
  input_fits : (x : ℕ) → IsTaking image s x → are_free (cells_from t.cells x image.packet) ≡ true
      → FitsAmong image around next (record t {
        cells = with_cells t.cells x (replicate image.packet cell.Any);
        phase = 1;
      }) (taken image x s) × KeepsTurns image.loops around None s.memory (taken image x s).memory
  unfolding taken
  input_fits x h free =
      let w = words_fit image around next t s f cells' m' change small in (
        record {
          place = record { running = w.place.running; iptr = w.place.iptr; oreg = w.place.oreg; wptr = w.place.wptr; roomy = w.place.roomy; inside = w.place.inside };
          phase = refl;
          registers = record { a = f.registers.a; b = f.registers.b; c = f.registers.c };
          words = w.words;
          bytes = record { memory = small; packet = All-drop (λ byte. byte < 256) (4 * image.packet) s.to_come f.bytes.packet };
          packet = λ none. absurd (cc);
          loops = w.loops;
        },
        words_turns image around next t s f cells' m' change,
      )
    where
      bytes : List ℕ
      bytes = take (4 * image.packet) s.to_come

      long : length bytes ≡ 4 * image.packet
      long = length-take-le (4 * image.packet) s.to_come h.there

      m' : Memory
      m' = with_bytes s.memory (word_address x) bytes

      cells' : List Cell
      cells' = with_cells t.cells x (replicate image.packet cell.Any)

      small : AreSmall m'
      small = written_small s.memory (word_address x) bytes f.bytes.memory (All-take (λ byte. byte < 256) (4 * image.packet) s.to_come f.bytes.packet)

      change : Change image.loops image.workspace t.cells cells' s.memory m'
      change =
          let inside = h.inside in
          any_taken image.loops image.workspace t.cells s.memory m' x image.packet (omega (arith, f.words.sized)) free
          (λ i lt. words_written image.loops s.memory x image.packet i bytes small long lt)
          (λ i out lt. words_elsewhere s.memory x image.packet i bytes long out)

  pub input_makes : rule image at next Input e t ≡ Ok t' → Makes image around None next Input t' s
  unfolding rule
  input_makes ok =
      past (known t.a) _ t' ok λ ok.
      past (known t.b) _ t' ok λ ok.
      past (known t.c) _ t' ok λ ok.
      past (number t.a) _ t' ok λ ok.
      past (number t.b) _ t' ok λ ok.
      through (one_word t.c) _ t' ok λ x x_is ok.
      held S8 (is_exactly (channel link0_input) t.b) _ t' ok λ on_link ok.
      held S7 (is_exactly (pos (4 * image.packet)) t.a) _ t' ok λ whole ok.
      held S9 (t.phase == 0) _ t' ok λ first ok.
      past_is (message_in image x image.packet) _ t' ok λ b b_is ok.
      held S5 (are_free (cells_from t.cells x image.packet)) _ t' ok λ free ok.
      message_inside image x image.packet b b_is λ inside.
      one_word_is image t.c s.creg x x_is f.registers.c λ c_is lt.
      exactly_is image (channel link0_input) t.b s.breg on_link f.registers.b λ w w_is w_word w_signed.
      exactly_is image (pos (4 * image.packet)) t.a s.areg whole f.registers.a λ v v_is v_word v_signed.
      let before : s.phase ≡ 0 = f.phase ∙ (Decides-eqb t.phase 0).0 first in
      let h : IsTaking image s x = record {
        length_is = v_is ∙ ap Some (natural_signed v (4 * image.packet) v_word v_signed);
        channel_is = w_is ∙ ap Some (signed_same w link0_input w_word (omega arith) w_signed);
        target_is = c_is;
        before = before;
        there = f.packet before;
        inside = inside;
      } in
      let (fits, turns) = input_fits x h free in
      rest image around next (record t { cells = with_cells t.cells x (replicate image.packet cell.Any); phase = 1 }) (taken image x s) fits t' ok λ free' fits' turns' same. record {
        end = rested (taken image x s);
        made = input_is image s x h ∙ rests image around next (record t { cells = with_cells t.cells x (replicate image.packet cell.Any); phase = 1 }) (taken image x s) fits;
        fits = fits';
        turns = λ l row is row_is. turns' l row is row_is ∙ turns l row is row_is;
      }

-- ---- out

-- a message of n words goes out, of this length, on this channel, and this is the phase after it
record Sends (image : ImageValue) (s : Machine) (phase after n v w : ℕ) : Type 0 where
  whole : v ≡ 4 * n
  sent : (bytes : List ℕ) (r : Machine) → length bytes ≡ v → r.phase ≡ phase → (out : List ℕ) × (trace : List ℕ) ×
      (sent_on image w bytes r ≡ Some (record r { phase = after; sent = out; traced = trace }))
  later : after ≡ 0 → phase ≡ 0

result_sent : (image : ImageValue) (bytes : List ℕ) (r : Machine) → length bytes ≡ 4 * image.result → r.phase ≡ 1 →
    sent_on image link0_output bytes r ≡ Some (record r { phase = 2; sent = r.sent ++ bytes })
result_sent image bytes r long phase =
    let size : (length bytes == 4 * image.result) ≡ true = (Decides-eqb (length bytes) (4 * image.result)).1 long in
    let first : (r.phase == 1) ≡ true = (Decides-eqb r.phase 1).1 phase in
    let test : is_result image link0_output (length bytes) r ≡ true = rw (size, first) refl in
    rw test refl

trace_sent : (image : ImageValue) (bytes : List ℕ) (r : Machine) → is_trace_length (length bytes) ≡ true → sent_on image link1_output bytes r ≡ Some (record r { traced = r.traced ++ bytes })
trace_sent image bytes r size =
    let test : is_trace link1_output (length bytes) ≡ true = size_is (length bytes) size in
    rw test refl
  where
    size_is : (n : ℕ) → is_trace_length n ≡ true → is_trace link1_output n ≡ true
    size_is n e = grind (arith, nat_tests)

-- one number of bytes
one_length : {P : Type 0} (a : ℤ × ℤ) (v : ℕ) → InRange a.0 a.1 v → is_one_length a ≡ true → (v ≡ count_of a.0 → P) → P
one_length (pos n, high) v in_a e go =
    let parts = and_parts (int_eq (pos n) high) (int_le (pos 0) (pos n)) e in
    let same : pos n ≡ high = (Decides-int_eq (pos n) high).0 parts.0 in
    let above = in_a.above in
    let below = in_a.below in
    go (natural_signed v n in_a.word (omega (arith, ints)))
one_length (negsuc n, high) v in_a e go =
    let parts = and_parts (int_eq (negsuc n) high) (int_le (pos 0) (negsuc n)) e in true_false (sym parts.1)

sends : {P : Type 0} (image : ImageValue) (s : Machine) (k : Kind) (r : Option ℕ) (a : ℤ × ℤ) (n phase after v : ℕ) →
    KindFits image k r → InRange a.0 a.1 v → words_to_send image k a ≡ Ok n → phase_after k phase ≡ Ok after
    → ((w : ℕ) → r ≡ Some w → Sends image s phase after n v w → P) → P
unfolding words_to_send phase_after
sends {P} image s k r a n phase after v fits in_a sized later go =
    by_link (is_exactly (channel link0_output) k) refl (is_exactly (channel link1_output) k) refl sized later
  where
    no_link : (w : ℕ) → signed w ≡ channel link0_output → signed w ≡ channel link1_output → ⊥
    no_link w e e' = let both : channel link0_output ≡ channel link1_output = sym e ∙ e' in
        let same : link0_output ≡ link1_output = signed_same link0_output link1_output (omega arith) (omega arith) both in
        omega arith

    by_link : (p : Bool) → is_exactly (channel link0_output) k ≡ p → (q : Bool) → is_exactly (channel link1_output) k ≡ q
        → (if p then (unless S7 (is_one_length a && (count_of a.0 == 4 * image.result)) >> Ok image.result)
        else if q then (unless S7 (is_one_length a && is_trace_length (count_of a.0)) >> Ok (count_of a.0 / 4)) else Err S8) ≡ Ok n
        → (if q then Ok phase else if phase == 1 then Ok 2 else Err S9) ≡ Ok after → P
    by_link true is true is' sized later =
        exactly_is image (channel link0_output) k r is fits λ w w_is word e.
        exactly_is image (channel link1_output) k r is' fits λ w' w_is' word' e'.
        let same : w ≡ w' = cc in
        absurd (no_link w e (ap signed same ∙ e'))
    by_link true is false is' sized later =
        held S7 (is_one_length a && (count_of a.0 == 4 * image.result)) _ n sized λ tests sized.
        let parts = and_parts (is_one_length a) (count_of a.0 == 4 * image.result) tests in
        let n_is : image.result ≡ n = same_Ok _ _ sized in
        let size : count_of a.0 ≡ 4 * image.result = (Decides-eqb (count_of a.0) (4 * image.result)).0 parts.1 in
        exactly_is image (channel link0_output) k r is fits λ w w_is word e.
        one_length a v in_a parts.0 λ v_is.
        by_phase (phase == 1) refl later (λ first after_is.
        go w w_is record {
          whole = omega arith;
          sent = λ bytes m long at. (
            m.sent ++ bytes,
            m.traced,
            ap (λ c. sent_on image c bytes m) (signed_same w link0_output word (omega arith) e)
                ∙ result_sent image bytes m (omega arith) (omega arith)
                ∙ ap (λ p. Some (record m { phase = p; sent = m.sent ++ bytes })) after_is,
          );
          later = λ none. absurd (omega arith);
        })
      where
        by_phase : (b : Bool) → (phase == 1) ≡ b → (if b then Ok 2 else Err S9) ≡ Ok after → (phase ≡ 1 → 2 ≡ after → P) → P
        by_phase true first e go = go ((Decides-eqb phase 1).0 first) (same_Ok _ _ e)
        by_phase false first e go = cc
    by_link false is true is' sized later =
        held S7 (is_one_length a && is_trace_length (count_of a.0)) _ n sized λ tests sized.
        let parts = and_parts (is_one_length a) (is_trace_length (count_of a.0)) tests in
        let n_is : count_of a.0 / 4 ≡ n = same_Ok _ _ sized in
        let after_is : phase ≡ after = same_Ok _ _ later in
        exactly_is image (channel link1_output) k r is' fits λ w w_is word e.
        one_length a v in_a parts.0 λ v_is.
        go w w_is record {
          whole = omega (arith, whole_words (count_of a.0) parts.1);
          sent = λ bytes m long at. (
            m.sent,
            m.traced ++ bytes,
            ap (λ c. sent_on image c bytes m) (signed_same w link1_output word (omega arith) e)
                ∙ trace_sent image bytes m (ap is_trace_length (long ∙ v_is) ∙ parts.1)
                ∙ ap (λ p. Some (record m { phase = p; traced = m.traced ++ bytes })) (at ∙ after_is),
          );
          later = λ none. omega arith;
        }
      where
        whole_words : (c : ℕ) → is_trace_length c ≡ true → c % 4 ≡ 0
        whole_words c e = grind (arith, nat_tests)
    by_link false is false is' sized later = cc

-- what out asks of the machine
record IsSending (image : ImageValue) (s r : Machine) (x v w : ℕ) (bytes : List ℕ) (end : Machine) : Type 0 where
  length_is : s.areg ≡ Some v
  channel_is : s.breg ≡ Some w
  source_is : s.creg ≡ Some (word_address x)
  inside : in_workspace image (word_address x) v ≡ true
  rests : machine_descheduled image s ≡ Some r
  are : bytes_at r.memory (word_address x) v ≡ Some bytes
  sent : sent_on image w bytes r ≡ Some end

output_is : (image : ImageValue) (s r : Machine) (x v w : ℕ) (bytes : List ℕ) (end : Machine) → IsSending image s r x v w bytes end → effect image Output s ≡ Some end
unfolding effect
output_is image s r x v w bytes end h = by_registers s.areg s.breg s.creg (machine_descheduled image s) h.length_is h.channel_is h.source_is h.rests h.inside h.are h.sent
  where
    by_registers : (ra rb rc : Option ℕ) (o : Option Machine) → ra ≡ Some v → rb ≡ Some w → rc ≡ Some (word_address x) → o ≡ Some r
        → in_workspace image (word_address x) v ≡ true → bytes_at r.memory (word_address x) v ≡ Some bytes → sent_on image w bytes r ≡ Some end
        → option_and_then (λ n. option_and_then (λ channel. option_and_then
        (λ source. only_if (in_workspace image source n) >>? option_and_then
        (λ s. option_and_then (λ message. sent_on image channel message s) (bytes_at s.memory source n)) o) rc) rb) ra
        ≡ Some end
    by_registers ra rb rc o ea eb ec eo inside are sent = rw (ea, eb, ec, eo, inside, are) sent

module _ (image : ImageValue) (around : ℕ → Bool) (next : ℕ) (t : State) (s : Machine) (f : FitsAmong image around next t s) where
  -- the same in another phase
  sent_fits : (phase : ℕ) (out trace : List ℕ) → (phase ≡ 0 → s.phase ≡ 0) → FitsAmong image around next (record t { phase = phase }) (record s { phase = phase; sent = out; traced = trace })
  sent_fits phase out trace later = record {
    place = record { running = f.place.running; iptr = f.place.iptr; oreg = f.place.oreg; wptr = f.place.wptr; roomy = f.place.roomy; inside = f.place.inside };
    phase = refl;
    registers = record { a = f.registers.a; b = f.registers.b; c = f.registers.c };
    words = f.words;
    bytes = record { memory = f.bytes.memory; packet = f.bytes.packet };
    packet = λ none. f.packet (later none);
    loops = f.loops;
  }

module _ (image : ImageValue) (around : ℕ → Bool) (next : ℕ) (t : State) (s : Machine) (f : FitsAmong image around next t s) (at : ℕ) (e : Edge) (t' : State) where
  pub output_makes : rule image at next Output e t ≡ Ok t' → Makes image around None next Output t' s
  unfolding rule
  output_makes ok =
      past (known t.a) _ t' ok λ ok.
      past (known t.b) _ t' ok λ ok.
      past (known t.c) _ t' ok λ ok.
      through (number t.a) _ t' ok λ a a_is ok.
      past (number t.b) _ t' ok λ ok.
      through (one_word t.c) _ t' ok λ x x_is ok.
      through (words_to_send image t.b a) _ t' ok λ n n_is ok.
      through (phase_after t.b t.phase) _ t' ok λ after after_is ok.
      past_is (message_in image x n) _ t' ok λ b b_is ok.
      held S4 (are_defined (cells_from (suspended t).cells x n)) _ t' ok λ defined ok.
      through (descheduled t) _ t' ok λ u u_is ok.
      message_inside image x n b b_is λ inside.
      one_word_is image t.c s.creg x x_is f.registers.c λ c_is lt.
      number_is image t.a s.areg a a_is f.registers.a λ v v_is in_a.
      sends image s t.b s.breg a n t.phase after v f.registers.b in_a n_is after_is λ w w_is sending.
      rest image around next t s f u u_is λ free fits turns same.
      let read : Reads (rested s).memory (word_address x) (4 * n) =
      words_read image.loops image.workspace u.cells (rested s).memory x n fits.words inside
      (ap (λ (z : State). are_defined (cells_from z.cells x n)) (sym same) ∙ defined) in
      let v_whole : v ≡ 4 * n = sending.whole in
      let (out, trace, sent) = sending.sent read.bytes (rested s) (read.long ∙ sym v_whole) f.phase in
      let send : IsSending image s (rested s) x v w read.bytes (record (rested s) { phase = after; sent = out; traced = trace }) = record {
        length_is = v_is;
        channel_is = w_is;
        source_is = c_is;
        inside = ap (in_workspace image (word_address x)) v_whole ∙ words_inside image x n inside;
        rests = rests image around next t s f;
        are = ap (bytes_at (rested s).memory (word_address x)) v_whole ∙ read.are;
        sent = sent;
      } in
      record {
        end = record (rested s) { phase = after; sent = out; traced = trace };
        made = output_is image s (rested s) x v w read.bytes _ send;
        fits = subst (λ z. FitsAmong image around next z (record (rested s) { phase = after; sent = out; traced = trace })) (same_Ok (record u { phase = after }) t' ok)
            (sent_fits image around next u (rested s) fits after out trace (λ none. f.phase ∙ sending.later none));
        turns = turns;
      }
