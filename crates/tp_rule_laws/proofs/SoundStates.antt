-- Sound states: what a rule asks of one on the way, and what its parts keep.
use Rattle.std.proofs.Common.{◌≡◌, ℕ, ◌+◌, ◌-◌, ◌*◌, ◌<◌, ◌≤◌, Bool, true, false, ◌==◌, nat_le, if◌then◌else◌, ℤ, ◌≤ℤ◌}
use Rattle.std.proofs.Common.{List, map, replicate, length, Result, Ok, Err, refl, ◌∙◌, arith, ◌^◌, length-set}
use Rattle.std.proofs.Common.{slice_set}
use Rattle.std.specs.Prelude.{All, IfOk}
use Rattle.tp_flow.specs.NestKept.{IsGood}
use Rattle.std.specs.Ordering.{int_eq}
use Rattle.std.proofs.lemmas.Int.{ints}
use Rattle.std.proofs.lemmas.List.{length-replicate}
use Rattle.std.proofs.lemmas.Bool.Decides.{nat_tests}
use Rattle.tp_decode.specs.declared.instr.Instr.{Instr}
use Rattle.tp_image.specs.declared.image.LoopRow.{LoopRow}
use Rattle.tp_image.specs.Image.{ImageValue, IsRow}
use Rattle.tp_flow.specs.declared.edge.Edge.{Edge}
use Rattle.tp_words.specs.Numbers.{least_integer, greatest_integer}
use Rattle.tp_state.specs.declared.kind.Kind.{Kind}
use Rattle.tp_state.specs.declared.cell.Cell.{Cell}
use Rattle.tp_state.specs.declared.state.State.{State}
use Rattle.tp_state.specs.declared.fault.StateCode.{StateCode}
use Rattle.tp_state.specs.declared.fault.StateCode.TheVariants.{S5}
use Rattle.tp_state.specs.Answer.{◌>>=◌, ◌>>◌, unless}
use Rattle.tp_state.specs.Kinds.{known, number, pointer, byte_pointer, word_in}
use Rattle.tp_state.specs.CellRules.{cell_at, cells_from, with_cells, are_free, is_defined, read, copied, written, blurred}
use Rattle.tp_state.specs.Rules.{rule, one_number, two_numbers, local, words_on, between, with_block, set_areg}
use Rattle.tp_state.specs.Rules.{replace_pair, no_registers, with_word, with_blurred, suspended, descheduled}
use Rattle.tp_state.specs.Rules.{words_further, bytes_on, push, pop, pop_two, below_wptr}
use Rattle.tp_state.proofs.OrderLemmas.{kind_below-self}
use Rattle.tp_state.specs.Sound.{IsRange, IsSoundCell, IsSound, AreInOrder, IsSoundKind}
use Rattle.std.proofs.lemmas.List.Elements.{All-set, All-take, All-drop, All-map, All-append, All-replicate}
use Rattle.tp_state.proofs.CellLemmas.{length-with_cells}
use Rattle.tp_state.proofs.KindLemmas.{word_in_is}
use Rattle.tp_state.specs.declared.kind.Kind.TheVariants as kind
use Rattle.tp_state.specs.declared.cell.Cell.TheVariants as cell
use Rattle.tp_rule_laws.proofs.Ranges.{IsWithin}
use Rattle.tp_rule_laws.proofs.Asked.{IsNarrower, AreWithin, IsPart, known_follows, number_follows, pointer_follows, byte_pointer_follows, words_on_follow, bytes_on_follow}
use Rattle.tp_rule_laws.proofs.Cells.{blur_long}
use Rattle.tp_rule_laws.proofs.Follows.{Follows}
use Rattle.tp_rule_laws.proofs.Ordered.{read_word, number_at}
use Rattle.tp_rule_laws.proofs.ArithmeticSound.{IsOne, range_has}

-- ---- answers

module _ {A B : Type 0} (P : B → Type 0) where
  -- what holds of an answer may be used of what follows
  pub with_fact : (Q : A → Type 0) (r : Result A StateCode) (f : A → Result B StateCode) → IfOk r Q → ((x : A) → Q x → IfOk (f x) P) → IfOk (r >>= f) P
  with_fact Q (Ok x) f h go = go x h
  with_fact Q (Err e) f h go = tt

  pub with_any : (r : Result A StateCode) (f : A → Result B StateCode) → ((x : A) → IfOk (f x) P) → IfOk (r >>= f) P
  with_any (Ok x) f go = go x
  with_any (Err e) f go = tt

  pub past : (r : Result A StateCode) (q : Result B StateCode) → IfOk q P → IfOk (r >> q) P
  past (Ok x) q h = h
  past (Err e) q h = tt

-- what an answer that follows of_itself has
pub of_itself : {A : Type 0} (R : A → A → Type 0) (P : A → Type 0) (r : Result A StateCode) → Follows R r r → ((x : A) → R x x → P x) → IfOk r P
of_itself R P (Ok x) h go = go x h
of_itself R P (Err e) h go = tt

pub known_has : (k : Kind) → IsSoundKind k → IfOk (known k) IsSoundKind
known_has k r = of_itself IsNarrower IsSoundKind (known k) (known_follows k k (kind_below-self k) r) λ x is. is.range

pub one : (a : ℤ × ℤ) → IsWithin a a → IsOne a
one a w = record { least = w.least; ordered = w.ordered; greatest = w.greatest }

pub number_has : (k : Kind) → IsSoundKind k → IfOk (number k) IsOne
number_has k r = of_itself IsWithin IsOne (number k) (number_follows k k (kind_below-self k) r) one

-- the first is no further than the last
abbrev pub IsUp : ℕ × ℕ → Type 0
IsUp p = p.0 ≤ p.1

pub pointer_has : (k : Kind) → IsSoundKind k → IfOk (pointer k) IsUp
pointer_has k r = of_itself IsPart IsUp (pointer k) (pointer_follows k k (kind_below-self k) r) λ p is. is.ordered

pub byte_pointer_has : (k : Kind) → IsSoundKind k → IfOk (byte_pointer k) IsUp
byte_pointer_has k r = of_itself IsPart IsUp (byte_pointer k) (byte_pointer_follows k k (kind_below-self k) r) λ p is. is.ordered

pub part_itself : (p : ℕ × ℕ) → IsUp p → IsPart p p
part_itself p up = record { low = omega arith; ordered = up; high = omega arith }

pub one_number_has : (t : State) → IsSoundKind t.a → IfOk (one_number t) IsOne
unfolding one_number
one_number_has t r = past IsOne (known t.a) (number t.a) (number_has t.a r)

abbrev pub AreOnes : (ℤ × ℤ) × (ℤ × ℤ) → Type 0
AreOnes p = IsOne p.0 × IsOne p.1

pub two_numbers_have : (t : State) → IsSoundKind t.a → IsSoundKind t.b → IfOk (two_numbers t) AreOnes
unfolding two_numbers
two_numbers_have t a b =
    past AreOnes (known t.a) _ (past AreOnes (known t.b) _
    (with_fact AreOnes IsOne (number t.a) _ (number_has t.a a) λ x in_x.
    with_fact AreOnes IsOne (number t.b) _ (number_has t.b b) λ y in_y. (in_x, in_y)))

-- places from the first to the last, each of which is a word
abbrev pub ArePlaces : ℕ × ℕ → Type 0
ArePlaces w = AreInOrder w.0 w.1

module _ (image : ImageValue) (small : image.workspace ≤ 512) where
  pub word_small : (z : ℤ) → IfOk (word_in image z) (λ x. x < 2 ^ 32)
  word_small z = by_answer (word_in image z) refl
    where
      by_answer : (r : Result ℕ StateCode) → word_in image z ≡ r → IfOk r (λ x. x < 2 ^ 32)
      by_answer (Ok x) e = let is = word_in_is image z x e in let inside = is.1 in omega arith
      by_answer (Err e) is = tt

  pub local_place : (t : State) (n : ℤ) → IfOk (local image t n) (λ x. x < 2 ^ 32)
  unfolding local
  local_place t n = word_small _

  pub words_on_up : (p : ℕ × ℕ) (n : ℤ × ℤ) → IsUp p → n.0 ≤ℤ n.1 → IfOk (words_on image p n) ArePlaces
  words_on_up p n up le =
      of_itself (AreWithin image.workspace) ArePlaces (words_on image p n) (words_on_follow image p p n n (part_itself p up) (omega (arith, ints)) le (omega (arith, ints)))
      λ w is. let inside = is.inside in record { ordered = is.ordered; greatest = omega arith }

  pub bytes_on_up : (p : ℕ × ℕ) (n : ℤ × ℤ) → IsUp p → n.0 ≤ℤ n.1 → IfOk (bytes_on image p n) ArePlaces
  bytes_on_up p n up le =
      of_itself (AreWithin (4 * image.workspace)) ArePlaces (bytes_on image p n) (bytes_on_follow image p p n n (part_itself p up) (omega (arith, ints)) le (omega (arith, ints)))
      λ w is. let inside = is.inside in record { ordered = is.ordered; greatest = omega arith }

  pub words_further_has : (n : ℤ) (k : Kind) → IsSoundKind k → IfOk (words_further image n k) IsSoundKind
  unfolding words_further
  words_further_has n kind.Undef r = tt
  words_further_has n (kind.Int low high) r = let o = r.ordered in range_has _ _ (omega (arith, ints))
  words_further_has n (kind.Ptr p q) r = with_fact IsSoundKind ArePlaces (words_on image (p, q) (n, n)) _ (words_on_up (p, q) (n, n) r.ordered (omega (arith, ints))) λ w are. are
  words_further_has n (kind.BytePtr p q) r = tt

-- ---- words

pub written_has : (rows : List LoopRow) (k : Kind) → IsSoundKind k → IsSoundCell rows (written k)
written_has rows kind.Undef r = tt
written_has rows (kind.Int low high) r = by_test (int_eq low high)
  where
    by_test : (p : Bool) → IsSoundCell rows (if p then cell.Known low else cell.Any)
    by_test true = let o = r.ordered in let g = r.greatest in record { least = r.least; ordered = omega (arith, ints); greatest = omega (arith, ints) }
    by_test false = tt
written_has rows (kind.Ptr p q) r = tt
written_has rows (kind.BytePtr p q) r = tt

pub blurred_has : (rows : List LoopRow) (c : Cell) → IsSoundCell rows c → IsSoundCell rows (blurred c)
blurred_has rows cell.Undef h = tt
blurred_has rows cell.Any h = tt
blurred_has rows (cell.Known n) h = tt
blurred_has rows (cell.Index l) h = h
blurred_has rows (cell.Count l) h = h

pub copied_has : (rows : List LoopRow) (c : Cell) → IsSoundCell rows c → IsSoundCell rows (copied c)
copied_has rows cell.Undef h = tt
copied_has rows cell.Any h = tt
copied_has rows (cell.Known n) h = h
copied_has rows (cell.Index l) h = tt
copied_has rows (cell.Count l) h = tt

module _ (image : ImageValue) (are : All IsRow image.loops) (good : All (IsGood image.workspace) image.loops) where
  pub defined_has : (c : Cell) → IsSoundCell image.loops c → is_defined c ≡ true → IfOk (read image.loops c) IsSoundKind
  defined_has c n e = read_word image.workspace image.loops are good c n e λ low high reads r. rw reads r

  pub read_has : (c : Cell) → IsSoundCell image.loops c → IfOk (read image.loops c) IsSoundKind
  unfolding read
  read_has cell.Undef n = tt
  read_has cell.Any n = defined_has cell.Any n refl
  read_has (cell.Known m) n = defined_has (cell.Known m) n refl
  read_has (cell.Index l) n = defined_has (cell.Index l) n refl
  read_has (cell.Count l) n = defined_has (cell.Count l) n refl

-- ---- cells

module _ (rows : List LoopRow) (cells : List Cell) (words : All (IsSoundCell rows) cells) where
  pub words_from : (x n : ℕ) → All (IsSoundCell rows) (cells_from cells x n)
  unfolding cells_from
  words_from x n = All-take (IsSoundCell rows) n _ (All-drop (IsSoundCell rows) x cells words)

  pub words_with : (x : ℕ) (these : List Cell) → All (IsSoundCell rows) these → All (IsSoundCell rows) (with_cells cells x these)
  unfolding with_cells
  words_with x these are = All-append (IsSoundCell rows) _ _ (All-take (IsSoundCell rows) x cells words) (All-append (IsSoundCell rows) these _ are (All-drop (IsSoundCell rows) _ cells words))

pub words_mapped : (rows : List LoopRow) (f : Cell → Cell) →
    ((c : Cell) → IsSoundCell rows c → IsSoundCell rows (f c)) → (cells : List Cell) → All (IsSoundCell rows) cells →
    All (IsSoundCell rows) (map f cells)
words_mapped rows f keeps cells words = All-map (IsSoundCell rows) f cells (λ i d lt. keeps _ (words i d lt))

-- ---- states

module _ (image : ImageValue) where
  pub registers_sound : (t : State) (a b c : Kind) → IsSound image t → IsSoundKind a → IsSoundKind b → IsSoundKind c → IsSound image (record t { a = a; b = b; c = c })
  registers_sound t a b c h in_a in_b in_c = record {
    placed = record { roomy = h.placed.roomy; inside = h.placed.inside; sized = h.placed.sized };
    a = in_a;
    b = in_b;
    c = in_c;
    words = h.words;
  }

  pub cells_sound : (t : State) (cells : List Cell) → IsSound image t → length cells ≡ length t.cells → All (IsSoundCell image.loops) cells → IsSound image (record t { cells = cells })
  cells_sound t cells h long words = record {
    placed = record { roomy = h.placed.roomy; inside = h.placed.inside; sized = long ∙ h.placed.sized };
    a = h.a;
    b = h.b;
    c = h.c;
    words = words;
  }

  pub phase_sound : (t : State) (phase : ℕ) → IsSound image t → IsSound image (record t { phase = phase })
  phase_sound t phase h = record {
    placed = record { roomy = h.placed.roomy; inside = h.placed.inside; sized = h.placed.sized };
    a = h.a;
    b = h.b;
    c = h.c;
    words = h.words;
  }

  pub tested_sound : (e : StateCode) (b : Bool) (q : Result State StateCode) → (b ≡ true → IfOk q (IsSound image)) → IfOk (unless e b >> q) (IsSound image)
  tested_sound e true q go = go refl
  tested_sound e false q go = tt

  pub block_sound : (t : State) (row : LoopRow) (index count : Cell) → IsSound image t → IsSoundCell image.loops index → IsSoundCell image.loops count → IsSound image (with_block row index count t)
  block_sound t row index count h in_index in_count =
      cells_sound t _ h (length-set (slice_set t.cells row.control index) (row.control + 1) count ∙ length-set t.cells row.control index)
      (All-set (IsSoundCell image.loops) _ (row.control + 1) count in_count (All-set (IsSoundCell image.loops) t.cells row.control index in_index h.words))

  pub none_known : (t : State) → IsSound image t → IsSound image (no_registers t)
  none_known t h = registers_sound t kind.Undef kind.Undef kind.Undef h tt tt tt

  pub popped_sound : (t : State) → IsSound image t → IsSound image (pop t)
  popped_sound t h = registers_sound t t.b t.c kind.Undef h h.b h.c tt

  pub popped_two_sound : (t : State) → IsSound image t → IsSound image (pop_two t)
  popped_two_sound t h = registers_sound t t.c kind.Undef kind.Undef h h.c tt tt

  pub stored_sound : (t : State) (x : ℕ) (k : Kind) → IsSound image t → IsSoundKind k → IsSound image (with_word x k t)
  stored_sound t x k h ends = cells_sound t _ h (length-set t.cells x (written k)) (All-set (IsSoundCell image.loops) t.cells x (written k) (written_has image.loops k ends) h.words)

  pub blurs_sound : (t : State) (w : ℕ × ℕ) → IsSound image t → IsSound image (with_blurred w t)
  unfolding between
  blurs_sound t w h = cells_sound t _ h (blur_long t.cells w.0 (w.1 + 1 - w.0))
      (words_with image.loops t.cells h.words w.0 _ (words_mapped image.loops blurred (blurred_has image.loops) _
      (words_from image.loops t.cells h.words w.0 (w.1 + 1 - w.0))))

  pub one_or_more : (t : State) (w : ℕ × ℕ) (k : Kind) → IsSound image t → IsSoundKind k → IsSound image (if w.0 == w.1 then with_word w.0 k t else with_blurred w t)
  one_or_more t w k h ends = by_test (w.0 == w.1)
    where
      by_test : (p : Bool) → IsSound image (if p then with_word w.0 k t else with_blurred w t)
      by_test true = stored_sound t w.0 k h ends
      by_test false = blurs_sound t w h

  pub way_sound : (t : State) → IsSound image t → IfOk (descheduled t) (IsSound image)
  unfolding descheduled
  way_sound t h = tested_sound S5 (are_free (below_wptr t)) (Ok (suspended t)) λ free. none_known _ (cells_sound t _ h long words)
    where
      long : length (with_cells t.cells (t.wptr - 5) (replicate 5 cell.Undef)) ≡ length t.cells
      long = let placed = h.placed in length-with_cells t.cells (t.wptr - 5) (replicate 5 cell.Undef) (omega (arith, length-replicate 5 cell.Undef))

      words : All (IsSoundCell image.loops) (with_cells t.cells (t.wptr - 5) (replicate 5 cell.Undef))
      words = words_with image.loops t.cells h.words (t.wptr - 5) _ (All-replicate (IsSoundCell image.loops) 5 cell.Undef tt)

  pub message_room : (t : State) (x n : ℕ) → IsSound image t → nat_le (x + n) image.workspace ≡ true → x + n ≤ length t.cells
  message_room t x n h e = grind (arith, nat_tests, h.placed.sized)

pub range_of_words : (low high : ℤ) → least_integer ≤ℤ low → low ≤ℤ high → high ≤ℤ greatest_integer → IsRange low high
range_of_words low high l o g = record { least = l; ordered = o; greatest = g }

-- ---- one state

-- a sound state of an image's worker
pub record HasSoundState (image : ImageValue) (t : State) : Type 0 where
  pub small : image.workspace ≤ 512
  pub rows : All IsRow image.loops
  pub good : All (IsGood image.workspace) image.loops
  pub sound : IsSound image t

-- an instruction's rule keeps it so
abbrev pub KeepsSound : ImageValue → State → (at next : ℕ) → Edge → Instr → Type 0
KeepsSound image t at next edge instr = IfOk (rule image at next instr edge t) (IsSound image)

module _ {image : ImageValue} {t : State} (h : HasSoundState image t) where
  pub pushes : (k : Kind) → IsSoundKind k → IsSound image (push k t)
  pushes k ends = registers_sound image t k t.a t.b h.sound ends h.sound.a h.sound.b

  pub sets : (k : Kind) → IsSoundKind k → IsSound image (set_areg k t)
  sets k ends = registers_sound image t k t.b t.c h.sound ends h.sound.b h.sound.c

  pub gives : (k : Kind) → IsSoundKind k → IsSound image (replace_pair k t)
  gives k ends = registers_sound image t k t.c kind.Undef h.sound ends h.sound.c tt

  pub reads : (x : ℕ) → IfOk (read image.loops (cell_at t.cells x)) IsSoundKind
  reads x = read_has image h.rows h.good (cell_at t.cells x) (number_at image.loops t.cells h.sound.words x)

  -- what the rules ask on the way
  pub any_sound : {A : Type 0} (r : Result A StateCode) (f : A → Result State StateCode) → ((x : A) → IfOk (f x) (IsSound image)) → IfOk (r >>= f) (IsSound image)
  any_sound r f go = with_any (IsSound image) r f go

  pub also_sound : {A : Type 0} (r : Result A StateCode) (q : Result State StateCode) → IfOk q (IsSound image) → IfOk (r >> q) (IsSound image)
  also_sound r q go = past (IsSound image) r q go

  pub read_then : (x : ℕ) (f : Kind → Result State StateCode) → ((k : Kind) → IsSoundKind k → IfOk (f k) (IsSound image)) → IfOk (read image.loops (cell_at t.cells x) >>= f) (IsSound image)
  read_then x f go = with_fact (IsSound image) IsSoundKind _ f (reads x) go

  pub sound_a_then : (f : Kind → Result State StateCode) → ((k : Kind) → IsSoundKind k → IfOk (f k) (IsSound image)) → IfOk (known t.a >>= f) (IsSound image)
  sound_a_then f go = with_fact (IsSound image) IsSoundKind _ f (known_has t.a h.sound.a) go

  pub sound_b_then : (f : Kind → Result State StateCode) → ((k : Kind) → IsSoundKind k → IfOk (f k) (IsSound image)) → IfOk (known t.b >>= f) (IsSound image)
  sound_b_then f go = with_fact (IsSound image) IsSoundKind _ f (known_has t.b h.sound.b) go

  pub sound_words_then : (p : ℕ × ℕ) (n : ℤ × ℤ) (f : ℕ × ℕ → Result State StateCode) → IsUp p → n.0 ≤ℤ n.1 →
      ((w : ℕ × ℕ) → ArePlaces w → IfOk (f w) (IsSound image)) → IfOk (words_on image p n >>= f) (IsSound image)
  sound_words_then p n f up le go = with_fact (IsSound image) ArePlaces _ f (words_on_up image h.small p n up le) go

  pub bytes_then : (p : ℕ × ℕ) (n : ℤ × ℤ) (f : ℕ × ℕ → Result State StateCode) → IsUp p → n.0 ≤ℤ n.1 →
      ((w : ℕ × ℕ) → ArePlaces w → IfOk (f w) (IsSound image)) → IfOk (bytes_on image p n >>= f) (IsSound image)
  bytes_then p n f up le go = with_fact (IsSound image) ArePlaces _ f (bytes_on_up image h.small p n up le) go

  pub way_then : (f : State → Result State StateCode) → ((u : State) → IsSound image u → IfOk (f u) (IsSound image)) → IfOk (descheduled t >>= f) (IsSound image)
  way_then f go = with_fact (IsSound image) (IsSound image) _ f (way_sound image t h.sound) go

  pub pop_one : IsSound image (pop t)
  pop_one = popped_sound image t h.sound
