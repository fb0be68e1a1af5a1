-- What a lend makes of a state that fits: another turn follows, or the loop is left.
use Rattle.std.proofs.Common.{◌≡◌, ℕ, ◌+◌, ◌-◌, ◌^◌, ◌<◌, ◌≤◌, ◌⊎◌, inl, inr, Bool, true, false, ◌==◌, if◌then◌else◌, ℤ}
use Rattle.std.proofs.Common.{pos, ◌+ℤ◌, ◌-ℤ◌, ◌≤ℤ◌, nat_lt, length, length-set, map, slice_set, slice_get, Some, None}
use Rattle.std.proofs.Common.{refl, sym, ap, ◌∙◌, subst, arith}
use Rattle.std.specs.Prelude.{int_lt, unwrap_or}
use Rattle.std.specs.Int.{w32, to_le_bytes}
use Rattle.std.proofs.lemmas.Int.{ints}
use Rattle.std.proofs.lemmas.Bool.{cases_lt, cases_eq, false_from_ne_true}
use Rattle.std.proofs.lemmas.Bool.Decides.{nat_tests, Decides-eqb}
use Rattle.std.proofs.lemmas.Option.{same_Some}
use Rattle.tp_words.specs.Words.{signed, low_word}
use Rattle.tp_decode.specs.declared.instr.Instr.TheVariants.{Lend}
use Rattle.tp_image.specs.declared.image.LoopRow.{LoopRow}
use Rattle.tp_image.specs.Image.{ImageValue}
use Rattle.tp_flow.specs.declared.edge.Edge.TheVariants as edge
use Rattle.tp_flow.specs.RowRules.{last_index}
use Rattle.tp_flow.specs.LoopsAround.{without}
use Rattle.tp_flow.specs.NestKept.{IsGood}
use Rattle.tp_step.specs.Memory.{Memory, with_cells, with_bytes, word_at, with_word, undefined}
use Rattle.tp_words.specs.Numbers.{overflows, words_on}
use Rattle.tp_step.specs.State.{State as Machine, in_workspace, is_word, descheduled as machine_descheduled, load, store}
use Rattle.tp_step.specs.Effects.{effect, go}
use Rattle.tp_step.proofs.MemoryLemmas.{word_alike, cell_below, cell_above}
use Rattle.tp_state.specs.declared.cell.Cell.TheVariants as cell
use Rattle.tp_state.specs.declared.state.State.{State}
use Rattle.tp_state.specs.Fits.{InRange, CellFits, IsLive, FitsAmong, word_address}
use Rattle.tp_state.specs.GoesOn.{turns_in}
use Rattle.tp_state.proofs.WordLemmas.{low_word_lt, signed_low_word, signed_above, signed_natural, natural_signed, words_on_is, is_word_at}
use Rattle.tp_state.proofs.KindLemmas.{exactly_is, points_is}
use Rattle.tp_state.proofs.WordsChange.{written_word, unwritten_word, kept_word}
use Rattle.tp_state.proofs.ByteLemmas.{AreSmall, word_small, undefined_small}
use Rattle.tp_state.proofs.LiveLoops.{IsElse, with_two, first_set, second_set, others_set, kept_other}
use Rattle.tp_state.proofs.LoopsPart.{loops_turned, loops_left, other_turns, words_block}
use Rattle.tp_state.proofs.RestLemmas.{rested, rest, five_below, fits_at}
use Rattle.tp_state.proofs.LendLemmas.{LendRuled, cell_word, index_range, count_range}
use Rattle.tp_state.proofs.Makes.{Makes, KeepsTurns}

-- one turn less, and the next index
less : ℕ → ℕ
less left = low_word (signed left -ℤ pos 1)

more : ℕ → ℕ
more index = low_word (signed index +ℤ pos 1)

-- where turns are left, the count goes down and the index up
less_signed : (left count : ℕ) → left < 2 ^ 32 → count ≤ 10000 → pos 1 ≤ℤ signed left → signed left ≤ℤ pos count → signed (less left) ≡ signed left -ℤ pos 1
unfolding less
less_signed left count word most low high =
    let no_overflow : overflows (signed left -ℤ pos 1) ≡ false = grind (arith, ints, nat_tests) in
    signed_low_word _ no_overflow

more_signed : (index left count : ℕ) (start : ℤ) → index < 2 ^ 32 → pos 2 ≤ℤ signed left →
    (signed index +ℤ signed left) ≡ (start +ℤ pos count) → (start +ℤ pos count -ℤ pos 1) ≤ℤ pos (2 ^ 31 - 1) →
    signed (more index) ≡ signed index +ℤ pos 1
unfolding more
more_signed index left count start word two sum ends =
    let low = signed_above index word in
    let no_overflow : overflows (signed index +ℤ pos 1) ≡ false = grind (arith, ints, nat_tests) in
    signed_low_word _ no_overflow

less_lt : (left : ℕ) → less left < 2 ^ 32
unfolding less
less_lt left = low_word_lt _

more_lt : (index : ℕ) → more index < 2 ^ 32
unfolding more
more_lt index = low_word_lt _

-- the count is a number from 1 up
less_natural : (left count : ℕ) → left < 2 ^ 32 → count ≤ 10000 → pos 1 ≤ℤ signed left → signed left ≤ℤ pos count → less left ≡ left - 1
less_natural left count word most low high =
    let is = less_signed left count word most low high in
    let left_is = signed_natural left word (omega (arith, ints)) in
    let some : 1 ≤ left = omega (arith, ints) in
    natural_signed (less left) (left - 1) (less_lt left) (omega (arith, ints))

two_left : (left : ℕ) → nat_lt 1 left ≡ true → 2 ≤ left
two_left left e = grind (arith, nat_tests)

one_left : (left : ℕ) → nat_lt 1 left ≡ false → left ≤ 1
one_left left e = grind (arith, nat_tests)

is_positive : (z : ℤ) → pos 1 ≤ℤ z → int_lt (pos 0) z ≡ true
is_positive z low = grind (arith, ints, nat_tests)

is_zero : (z : ℤ) → z ≤ℤ pos 0 → int_lt (pos 0) z ≡ false
is_zero z high = grind (arith, ints, nat_tests)

two_past : (i c : ℕ) → c ≤ i → (i ≡ c → ⊥) → (i ≡ c + 1 → ⊥) → c + 2 ≤ i
two_past i c above first second = grind arith

-- ---- a word that is written and then lost leaves no trace elsewhere

byte_apart : (m : Memory) (a v x : ℕ) → (x < a) ⊎ (a + 4 ≤ x) → with_word m a v x ≡ m x
unfolding with_word with_bytes
byte_apart m a v x (inl below) = cell_below m a (map Some (to_le_bytes w32 v)) x below
byte_apart m a v x (inr above) = cell_above m a (map Some (to_le_bytes w32 v)) x above

undefined_alike : (m m' : Memory) (a n x : ℕ) → m' x ≡ m x → undefined m' a n x ≡ undefined m a n x
unfolding undefined with_cells
undefined_alike m m' a n x same = rw same

word_unmarked : (m : Memory) (c v a n i : ℕ) → (i ≡ c → ⊥) → word_at (undefined (with_word m (word_address c) v) a n) (word_address i) ≡ word_at (undefined m a n) (word_address i)
word_unmarked m c v a n i differ =
    word_alike (undefined m a n) (undefined (with_word m (word_address c) v) a n) (word_address i)
    (undefined_alike m _ a n _ (byte_apart m (word_address c) v _ (grind arith)))
    (undefined_alike m _ a n _ (byte_apart m (word_address c) v _ (grind arith)))
    (undefined_alike m _ a n _ (byte_apart m (word_address c) v _ (grind arith)))
    (undefined_alike m _ a n _ (byte_apart m (word_address c) v _ (grind arith)))

-- ---- what the machine does

turned : Memory → (c index left : ℕ) → Memory
turned m c index left = with_word (with_word m (word_address (c + 1)) (less left)) (word_address c) (more index)

ended : Memory → (c left wptr : ℕ) → Memory
ended m c left wptr = undefined (undefined (with_word m (word_address (c + 1)) (less left)) (wptr - 20) 20) (word_address c) 8

-- the machine's block: both words are there, and so are the five below Wptr
record IsReady (image : ImageValue) (s : Machine) (c a index left : ℕ) : Type 0 where
  areg : s.areg ≡ Some a
  breg : s.breg ≡ Some (word_address c)
  first : is_word image (word_address c) ≡ true
  index_is : word_at s.memory (word_address c) ≡ Some index
  next : words_on (word_address c) (pos 1) ≡ word_address (c + 1)
  second : is_word image (word_address (c + 1)) ≡ true
  left_is : word_at s.memory (word_address (c + 1)) ≡ Some left
  five : in_workspace image (s.wptr - 20) 20 ≡ true

goes_back : (image : ImageValue) (s : Machine) (c a index left : ℕ) → IsReady image s c a index left →
    int_lt (pos 0) (signed (less left)) ≡ true → effect image Lend s ≡ Some
    (go (pos 0 -ℤ signed a) (rested (record s { memory = turned s.memory c index left })))
unfolding effect load store machine_descheduled turned less more
goes_back image s c a index left r another = rw (r.areg, r.breg, r.first, r.index_is, r.next, r.second, r.left_is, another, r.five)

goes_on : (image : ImageValue) (s : Machine) (c a index left : ℕ) → IsReady image s c a index left →
    int_lt (pos 0) (signed (less left)) ≡ false → effect image Lend s ≡ Some
    (record (rested s) { memory = ended s.memory c left s.wptr })
unfolding effect load store machine_descheduled ended less
goes_on image s c a index left r no_more = rw (r.areg, r.breg, r.first, r.index_is, r.next, r.second, r.left_is, no_more, r.five)

module _ (image : ImageValue) (small : image.workspace ≤ 512) (around : ℕ → Bool) (next : ℕ) (t : State) (s : Machine)
    (l : ℕ) (row : LoopRow) (row_is : slice_get image.loops l ≡ Some row) (good : IsGood image.workspace row)
    (own : around l ≡ true) (f : FitsAmong image around next t s) where
  -- the loop's block
  pub block : IsLive t.cells s.memory l row
  block = f.loops.live l row own row_is

  index_in : InRange row.start (last_index row) block.index
  index_in =
      let inside = good.block in
      index_range image.loops l row block.index row_is (cell_word image.loops image.workspace t.cells s.memory
      row.control (cell.Index l) block.index f.words (omega arith) block.index_cell block.index_is)

  pub count_in : InRange (pos 1) (pos row.count) block.left
  count_in = count_range image.loops l row block.left row_is
      (cell_word image.loops image.workspace t.cells s.memory (row.control + 1) (cell.Count l) block.left f.words
      good.block block.count_cell block.left_is)

  -- the live count is the turns that the loop still has to make
  pub turns_are : turns_in s.memory row ≡ block.left
  turns_are = ap (λ o. unwrap_or o 0) block.left_is

  left_natural : signed block.left ≡ pos block.left
  left_natural =
      let low = count_in.above in
      signed_natural block.left count_in.word (omega (arith, ints))

  less_is : signed (less block.left) ≡ signed block.left -ℤ pos 1
  less_is = less_signed block.left row.count count_in.word good.turns_most count_in.above count_in.below

  ready : (a : ℕ) → s.areg ≡ Some a → s.breg ≡ Some (word_address row.control) → IsReady image s row.control a block.index block.left
  ready a areg breg =
      let inside = good.block in
      record {
        areg = areg;
        breg = breg;
        first = is_word_at image row.control (omega arith);
        index_is = block.index_is;
        next = words_on_is row.control (row.control + 1) (pos 1) (omega arith) (omega arith) refl;
        second = is_word_at image (row.control + 1) inside;
        left_is = block.left_is;
        five = five_below image t.wptr s.wptr f.place.roomy f.place.inside f.place.wptr;
      }

  -- ---- another turn

  module _ (again : nat_lt 1 block.left ≡ true) where
    again_is : pos 2 ≤ℤ signed block.left
    again_is =
        let two = two_left block.left again in
        let is = left_natural in
        omega (arith, ints)

    more_is : signed (more block.index) ≡ signed block.index +ℤ pos 1
    more_is = more_signed block.index block.left row.count row.start index_in.word again_is block.sum good.ends

    abbrev after_turn : Memory
    after_turn = turned s.memory row.control block.index block.left

    turned_first : word_at after_turn (word_address row.control) ≡ Some (more block.index)
    unfolding turned
    turned_first = written_word _ row.control (more block.index) (more_lt block.index)

    turned_second : word_at after_turn (word_address (row.control + 1)) ≡ Some (less block.left)
    unfolding turned
    turned_second = unwritten_word _ row.control (row.control + 1) (more block.index) (λ e. omega arith) ∙ written_word s.memory (row.control + 1) (less block.left) (less_lt block.left)

    turned_others : (i : ℕ) → IsElse i row.control → word_at after_turn (word_address i) ≡ word_at s.memory (word_address i)
    unfolding turned
    turned_others i n = unwritten_word _ row.control i (more block.index) n.first ∙ unwritten_word s.memory (row.control + 1) i (less block.left) n.second

    turned_small : AreSmall after_turn
    unfolding turned
    turned_small = word_small _ (word_address row.control) (more block.index) (word_small s.memory (word_address (row.control + 1)) (less block.left) f.bytes.memory)

    turned_fits : FitsAmong image around next t (record s { memory = after_turn })
    turned_fits =
        let low = count_in.above in
        let high = count_in.below in
        let two = again_is in
        let index_low = index_in.above in
        let sum = block.sum in
        let m_is = more_is in
        let l_is = less_is in
        let index_above : row.start ≤ℤ signed (more block.index) = omega (arith, ints) in
        let index_below : signed (more block.index) ≤ℤ last_index row = omega (arith, ints) in
        let left_above : pos 1 ≤ℤ signed (less block.left) = omega (arith, ints) in
        let left_below : signed (less block.left) ≤ℤ pos row.count = omega (arith, ints) in
        let kept : (signed (more block.index) +ℤ signed (less block.left)) ≡ (row.start +ℤ pos row.count) = omega (arith, ints) in
        let index_fits : CellFits image.loops (cell.Index l) (Some (more block.index)) = (
          row,
          row_is,
          more block.index,
          refl,
          record {
            word = more_lt block.index;
            above = index_above;
            below = index_below;
          },
        ) in
        let left_fits : CellFits image.loops (cell.Count l) (Some (less block.left)) = (
          row,
          row_is,
          less block.left,
          refl,
          record {
            word = less_lt block.left;
            above = left_above;
            below = left_below;
          },
        ) in
        record {
          place = record { running = f.place.running; iptr = f.place.iptr; oreg = f.place.oreg; wptr = f.place.wptr; roomy = f.place.roomy; inside = f.place.inside };
          phase = f.phase;
          registers = record { a = f.registers.a; b = f.registers.b; c = f.registers.c };
          words = words_block image.loops image.workspace t.cells t.cells s.memory after_turn row.control refl
              (λ i n. refl) turned_others (rw (block.index_cell, turned_first) index_fits)
              (rw (block.count_cell, turned_second) left_fits) f.words;
          bytes = record { memory = turned_small; packet = f.bytes.packet };
          packet = f.packet;
          loops = loops_turned image.loops around t.cells s.memory after_turn l row row_is own turned_others f.loops (more block.index) (less block.left) turned_first turned_second kept;
        }

    -- the loop has one turn less to make, and the others as many as before
    turned_turns : KeepsTurns image.loops around (Some l) s.memory after_turn
    turned_turns k other is its = by_number (cases_eq k l)
      where
        by_number : (k ≡ l) ⊎ (k ≡ l → ⊥) → turns_in after_turn other ≡ (if k == l then turns_in s.memory other - 1 else turns_in s.memory other)
        by_number (inl same) =
            let test : (k == l) ≡ true = (Decides-eqb k l).1 same in
            let row_same : row ≡ other = same_Some _ _ (sym row_is ∙ ap (slice_get image.loops) (sym same) ∙ its) in
            let now : turns_in after_turn row ≡ less block.left = ap (λ o. unwrap_or o 0) turned_second in
            let fewer = less_natural block.left row.count count_in.word good.turns_most count_in.above count_in.below in
            rw (test, ← row_same) (now ∙ fewer ∙ ap (λ n. n - 1) (sym turns_are))
        by_number (inr differ) =
            let test : (k == l) ≡ false = false_from_ne_true (k == l) (λ e. differ ((Decides-eqb k l).0 e)) in
            rw test (other_turns image.loops around t.cells s.memory after_turn l row row_is own turned_others f.loops k other is its differ)

    -- control goes back to the head
    pub lend_back : (t' : State) → LendRuled next row edge.Back t t' → Makes image around (Some l) row.head Lend t' s
    lend_back t' ruled =
        exactly_is image (pos next -ℤ pos row.head) t.a s.areg ruled.distance f.registers.a λ a a_is word a_signed.
        points_is image row.control t.b s.breg ruled.pointer f.registers.b λ b_is.
        let two = again_is in
        let fewer = less_is in
        let here = f.place.iptr in
        let another : int_lt (pos 0) (signed (less block.left)) ≡ true = is_positive (signed (less block.left)) (omega (arith, ints)) in
        rest image around next t (record s { memory = after_turn }) turned_fits ruled.rest ruled.rests λ free fits turns same. record {
          end = go (pos 0 -ℤ signed a) (rested (record s { memory = after_turn }));
          made = goes_back image s row.control a block.index block.left (ready a a_is b_is) another;
          fits = subst (λ u. FitsAmong image around row.head u (go (pos 0 -ℤ signed a) (rested (record s { memory = after_turn })))) ruled.is
              (fits_at image around next row.head ruled.rest (rested (record s { memory = after_turn })) (s.iptr +ℤ (pos 0 -ℤ signed a)) (omega (arith, ints)) fits);
          turns = λ k other is its. turns k other is its ∙ turned_turns k other is its;
        }

  -- ---- the last turn

  module _ (last : nat_lt 1 block.left ≡ false) where
    abbrev after_end : Memory
    after_end = ended s.memory row.control block.left s.wptr

    ended_others : (i : ℕ) → IsElse i row.control → word_at after_end (word_address i) ≡ word_at (rested s).memory (word_address i)
    unfolding ended
    ended_others i n =
        kept_word _ row.control 2 i (by_place (cases_lt i row.control)) ∙ word_unmarked s.memory (row.control + 1) (less block.left) (s.wptr - 20) 20 i n.second
      where
        by_place : (i < row.control) ⊎ (row.control ≤ i) → (i < row.control) ⊎ (row.control + 2 ≤ i)
        by_place (inl below) = inl below
        by_place (inr above) = inr (two_past i row.control above n.first n.second)

    ended_small : AreSmall after_end
    unfolding ended
    ended_small = undefined_small _ (word_address row.control) 8 (undefined_small _ (s.wptr - 20) 20 (word_small s.memory (word_address (row.control + 1)) (less block.left) f.bytes.memory))

    -- control goes on, and the block is undefined
    pub lend_out : (t' : State) → LendRuled next row edge.Out t t' → Makes image (without (Some l) around) None next Lend t' s
    lend_out t' ruled =
        exactly_is image (pos next -ℤ pos row.head) t.a s.areg ruled.distance f.registers.a λ a a_is word a_signed.
        points_is image row.control t.b s.breg ruled.pointer f.registers.b λ b_is.
        let inside = good.block in
        let few = one_left block.left last in
        let is = left_natural in
        let fewer = less_is in
        let no_more : int_lt (pos 0) (signed (less block.left)) ≡ false = is_zero (signed (less block.left)) (omega (arith, ints)) in
        rest image around next t s f ruled.rest ruled.rests λ free r turns same.
        let room : row.control + 1 < length ruled.rest.cells = omega (arith, r.words.sized) in
        record {
          end = record (rested s) { memory = after_end };
          made = goes_on image s row.control a block.index block.left (ready a a_is b_is) no_more;
          fits = subst (λ u. FitsAmong image (without (Some l) around) next u (record (rested s) { memory = after_end })) ruled.is record {
            place = record { running = r.place.running; iptr = r.place.iptr; oreg = r.place.oreg; wptr = r.place.wptr; roomy = r.place.roomy; inside = r.place.inside };
            phase = r.phase;
            registers = record { a = r.registers.a; b = r.registers.b; c = r.registers.c };
            words = words_block image.loops image.workspace ruled.rest.cells (with_two ruled.rest.cells row.control cell.Undef cell.Undef) (rested s).memory after_end row.control
                (length-set (slice_set ruled.rest.cells row.control cell.Undef) (row.control + 1) cell.Undef ∙ length-set ruled.rest.cells row.control cell.Undef)
                (others_set ruled.rest.cells row.control cell.Undef cell.Undef room)
                ended_others
                (rw (first_set ruled.rest.cells row.control cell.Undef cell.Undef room) tt)
                (rw (second_set ruled.rest.cells row.control cell.Undef cell.Undef room) tt)
                r.words;
            bytes = record { memory = ended_small; packet = r.bytes.packet };
            packet = r.packet;
            loops = loops_left image.loops around ruled.rest.cells (rested s).memory after_end l row row_is own ended_others r.loops room;
          };
          turns = λ k other is its.
              let was = kept_other around l k is in
              other_turns image.loops around ruled.rest.cells (rested s).memory after_end l row row_is own ended_others r.loops k other was.0 its was.1 ∙ turns k other was.0 its;
        }
