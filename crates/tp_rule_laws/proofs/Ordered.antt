-- States that are below others: what a rule asks of both on the way.
use Rattle.std.proofs.Common.{◌≡◌, ◌⊎◌, inl, inr, ℕ, ◌<◌, ◌≤◌, Bool, true, ◌&&◌, IsTrue, ℤ, pos, ◌+ℤ◌, ◌-ℤ◌, ◌≤ℤ◌, List, length, slice_get, Some, Result, Ok, refl, sym, ap, ◌∙◌, subst, arith}
use Rattle.std.specs.Prelude.{All}
use Rattle.std.proofs.lemmas.Option.{slice_get_within, get_or_from_slice_get}
use Rattle.tp_flow.specs.NestKept.{IsGood}
use Rattle.std.specs.Ordering.{int_eq}
use Rattle.std.proofs.lemmas.Int.{ints}
use Rattle.std.proofs.lemmas.Bool.{and_parts, cases_lt}
use Rattle.std.proofs.lemmas.List.{get_or_past}
use Rattle.std.proofs.lemmas.Bool.Decides.{Decides-int_eq}
use Rattle.tp_decode.specs.declared.instr.Instr.{Instr}
use Rattle.tp_image.specs.declared.image.LoopRow.{LoopRow}
use Rattle.tp_image.specs.Image.{ImageValue, IsRow}
use Rattle.tp_flow.specs.declared.edge.Edge.{Edge}
use Rattle.tp_words.specs.Numbers.{least_integer, greatest_integer}
use Rattle.tp_state.specs.declared.kind.Kind.{Kind}
use Rattle.tp_state.specs.declared.cell.Cell.{Cell}
use Rattle.tp_state.specs.declared.state.State.{State}
use Rattle.tp_state.specs.declared.fault.StateCode.{StateCode}
use Rattle.tp_state.specs.declared.fault.StateCode.TheVariants.{S4, S5}
use Rattle.tp_state.specs.Answer.{◌>>=◌, ◌>>◌, unless}
use Rattle.tp_state.specs.Kinds.{is_exactly, known, number, pointer, one_word, byte_pointer, word_in}
use Rattle.tp_state.specs.CellRules.{cell_at, is_free, are_free, is_defined, are_defined, read}
use Rattle.tp_state.specs.Order.{kind_below, cell_below, IsBelow}
use Rattle.tp_state.specs.Rules.{rule, one_number, two_numbers, local, words_on, between, message_in}
use Rattle.tp_state.proofs.CellOrder.{BelowWays, below_ways}
use Rattle.tp_state.proofs.OrderLemmas.{kind_below-self}
use Rattle.tp_state.specs.Sound.{IsRange, IsSoundCell, IsSound}
use Rattle.tp_state.specs.declared.kind.Kind.TheVariants as kind
use Rattle.tp_state.specs.declared.cell.Cell.TheVariants as cell
use Rattle.tp_rule_laws.proofs.Follows.{Follows, Both, same, same_as, both, bind, also, tested}
use Rattle.tp_rule_laws.proofs.Ranges.{IsWithin, fits_full}
use Rattle.tp_rule_laws.proofs.Asked.{IsNarrower, AreWithin, IsPart, known_follows, number_follows, pointer_follows, byte_pointer_follows, one_word_follows, exactly_below, words_on_follow}
use Rattle.tp_rule_laws.proofs.Cells.{free_goes, defined_goes}
use Rattle.tp_rule_laws.proofs.States.{part_all}

-- ---- reading

pub read_follows : (rows : List LoopRow) (c d : Cell) → IsTrue (cell_below c d) → IsSoundCell rows c → Follows (λ (k l : Kind). IsTrue (kind_below k l)) (read rows c) (read rows d)
unfolding read
read_follows rows c d h n = by_ways (below_ways c d h)
  where
    by_ways : BelowWays c d → Follows (λ (k l : Kind). IsTrue (kind_below k l)) (read rows c) (read rows d)
    by_ways (inl same_cell) = rw same_cell (same (λ (k l : Kind). IsTrue (kind_below k l)) (read rows d) kind_below-self)
    by_ways (inr (inl (undef, free))) = rw undef tt
    by_ways (inr (inr (any, (m, known_m)))) =
        let r = subst (IsSoundCell rows) known_m n in
        rw (any, known_m) (fits_full m m r.least r.greatest)

-- rows whose numbers are words
module _ (workspace : ℕ) (rows : List LoopRow) (are : All IsRow rows) (good : All (IsGood workspace) rows) where
  at_row : {X : Type 0} (l : ℕ) (row : LoopRow) → slice_get rows l ≡ Some row → (IsRow row → IsGood workspace row → X) → X
  at_row l row is go =
      let within = slice_get_within rows l row is in
      let same = get_or_from_slice_get rows l row row is in
      go (rw same at (are l row within)) (rw same at (good l row within))

  -- a word that is defined is read, as a number of a word's
  pub read_word : {P : Type 0} (c : Cell) → IsSoundCell rows c → is_defined c ≡ true → ((low high : ℤ) → read rows c ≡ Ok (kind.Int low high) → IsRange low high → P) → P
  unfolding read
  read_word cell.Undef n e go = cc
  read_word cell.Any n e go = go least_integer greatest_integer refl (record { least = omega (arith, ints); ordered = omega (arith, ints); greatest = omega (arith, ints) })
  read_word (cell.Known m) n e go = go m m refl n
  read_word (cell.Index l) (row, is) e go = at_row l row is λ r g.
      let start = r.start in let some = g.turns_least in let last = g.ends in
      go row.start (row.start +ℤ pos row.count -ℤ pos 1) (rw is refl) (record { least = grind (arith, ints); ordered = omega (arith, ints); greatest = omega (arith, ints) })
  read_word (cell.Count l) (row, is) e go = at_row l row is λ r g.
      let some = g.turns_least in let few = g.turns_most in
      go (pos 1) (pos row.count) (rw is refl) (record { least = omega (arith, ints); ordered = omega (arith, ints); greatest = omega (arith, ints) })

pub number_at : (rows : List LoopRow) (cells : List Cell) → All (IsSoundCell rows) cells → (x : ℕ) → IsSoundCell rows (cell_at cells x)
number_at rows cells words x = by_place (cases_lt x (length cells))
  where
    by_place : (x < length cells) ⊎ (length cells ≤ x) → IsSoundCell rows (cell_at cells x)
    by_place (inl inside) = words x cell.Undef inside
    by_place (inr past_end) = rw (get_or_past cells x cell.Undef past_end) tt

abbrev pub KindsBelow : Kind → Kind → Type 0
KindsBelow k l = IsTrue (kind_below k l)

abbrev pub Same : {A : Type 0} → A → A → Type 0
Same x y = x ≡ y

pub one_is : (a b : ℤ × ℤ) → IsWithin a b → b.0 ≡ b.1 → a ≡ b
one_is (a0, a1) (b0, b1) w e =
    let l = w.low in let o = w.ordered in let h = w.high in
    let x : a0 ≡ b0 = omega (arith, ints) in
    let y : a1 ≡ b1 = omega (arith, ints) in
    rw (x, y) refl

pub equal_ends : (b : ℤ × ℤ) (p : Bool) → (int_eq b.0 b.1 && p) ≡ true → b.0 ≡ b.1
equal_ends b p e = (Decides-int_eq b.0 b.1).0 ((and_parts (int_eq b.0 b.1) p e).0)

-- ---- a state below another

abbrev pub Goes : Result State StateCode → Result State StateCode → Type 0
Goes p q = Follows IsBelow p q

-- a sound state of an image's worker, below another
pub record AreOrdered (image : ImageValue) (s t : State) : Type 0 where
  pub rows : All IsRow image.loops
  pub good : All (IsGood image.workspace) image.loops
  pub below : IsBelow s t
  pub sound : IsSound image s

-- an instruction's rule keeps the order
abbrev pub KeepsOrder : ImageValue → State → State → (at next : ℕ) → Edge → Instr → Type 0
KeepsOrder image s t at next edge instr = Goes (rule image at next instr edge s) (rule image at next instr edge t)

-- two ranges within two others
abbrev pub AreBoth : (ℤ × ℤ) × (ℤ × ℤ) → (ℤ × ℤ) × (ℤ × ℤ) → Type 0
AreBoth p q = IsWithin p.0 q.0 × IsWithin p.1 q.1

module _ {image : ImageValue} {s t : State} (pair : AreOrdered image s t) where
  -- what is asked on the way
  pub known_a : Follows IsNarrower (known s.a) (known t.a)
  known_a = known_follows s.a t.a pair.below.a pair.sound.a

  pub known_b : Follows IsNarrower (known s.b) (known t.b)
  known_b = known_follows s.b t.b pair.below.b pair.sound.b

  pub number_a : Follows IsWithin (number s.a) (number t.a)
  number_a = number_follows s.a t.a pair.below.a pair.sound.a

  pub number_b : Follows IsWithin (number s.b) (number t.b)
  number_b = number_follows s.b t.b pair.below.b pair.sound.b

  pub also_known_a : (p q : Result State StateCode) → Goes p q → Goes (known s.a >> p) (known t.a >> q)
  also_known_a p q go = also IsBelow (known s.a) (known t.a) p q (both IsNarrower _ _ known_a) go

  pub also_known_b : (p q : Result State StateCode) → Goes p q → Goes (known s.b >> p) (known t.b >> q)
  also_known_b p q go = also IsBelow (known s.b) (known t.b) p q (both IsNarrower _ _ known_b) go

  pub also_known_c : (p q : Result State StateCode) → Goes p q → Goes (known s.c >> p) (known t.c >> q)
  also_known_c p q go = also IsBelow (known s.c) (known t.c) p q (both IsNarrower _ _ (known_follows s.c t.c pair.below.c pair.sound.c)) go

  pub also_number_a : (p q : Result State StateCode) → Goes p q → Goes (number s.a >> p) (number t.a >> q)
  also_number_a p q go = also IsBelow (number s.a) (number t.a) p q (both IsWithin _ _ number_a) go

  pub also_number_b : (p q : Result State StateCode) → Goes p q → Goes (number s.b >> p) (number t.b >> q)
  also_number_b p q go = also IsBelow (number s.b) (number t.b) p q (both IsWithin _ _ number_b) go

  pub known_a_then : (f f' : Kind → Result State StateCode) → ((k l : Kind) → IsNarrower k l → Goes (f k) (f' l)) → Goes (known s.a >>= f) (known t.a >>= f')
  known_a_then f f' go = bind IsBelow IsNarrower (known s.a) (known t.a) f f' known_a go

  pub known_b_then : (f f' : Kind → Result State StateCode) → ((k l : Kind) → IsNarrower k l → Goes (f k) (f' l)) → Goes (known s.b >>= f) (known t.b >>= f')
  known_b_then f f' go = bind IsBelow IsNarrower (known s.b) (known t.b) f f' known_b go

  pub number_a_then : (f f' : ℤ × ℤ → Result State StateCode) → ((a b : ℤ × ℤ) → IsWithin a b → Goes (f a) (f' b)) → Goes (number s.a >>= f) (number t.a >>= f')
  number_a_then f f' go = bind IsBelow IsWithin (number s.a) (number t.a) f f' number_a go

  pub number_b_then : (f f' : ℤ × ℤ → Result State StateCode) → ((a b : ℤ × ℤ) → IsWithin a b → Goes (f a) (f' b)) → Goes (number s.b >>= f) (number t.b >>= f')
  number_b_then f f' go = bind IsBelow IsWithin (number s.b) (number t.b) f f' number_b go

  pub pointer_a_then : (f f' : ℕ × ℕ → Result State StateCode) → ((p q : ℕ × ℕ) → IsPart p q → Goes (f p) (f' q)) → Goes (pointer s.a >>= f) (pointer t.a >>= f')
  pointer_a_then f f' go = bind IsBelow IsPart (pointer s.a) (pointer t.a) f f' (pointer_follows s.a t.a pair.below.a pair.sound.a) go

  pub byte_pointer_a_then : (f f' : ℕ × ℕ → Result State StateCode) → ((p q : ℕ × ℕ) → IsPart p q → Goes (f p) (f' q)) → Goes (byte_pointer s.a >>= f) (byte_pointer t.a >>= f')
  byte_pointer_a_then f f' go = bind IsBelow IsPart (byte_pointer s.a) (byte_pointer t.a) f f' (byte_pointer_follows s.a t.a pair.below.a pair.sound.a) go

  pub one_word_b_then : (f f' : ℕ → Result State StateCode) → ((x : ℕ) → Goes (f x) (f' x)) → Goes (one_word s.b >>= f) (one_word t.b >>= f')
  one_word_b_then f f' go = bind IsBelow (λ (x y : ℕ). x ≡ y) (one_word s.b) (one_word t.b) f f' (one_word_follows s.b t.b pair.below.b pair.sound.b) λ x y e. rw e (go y)

  pub one_word_c_then : (f f' : ℕ → Result State StateCode) → ((x : ℕ) → Goes (f x) (f' x)) → Goes (one_word s.c >>= f) (one_word t.c >>= f')
  one_word_c_then f f' go = bind IsBelow (λ (x y : ℕ). x ≡ y) (one_word s.c) (one_word t.c) f f' (one_word_follows s.c t.c pair.below.c pair.sound.c) λ x y e. rw e (go y)

  pub one_number_follows : Follows IsWithin (one_number s) (one_number t)
  unfolding one_number
  one_number_follows = also IsWithin (known s.a) (known t.a) (number s.a) (number t.a) (both IsNarrower _ _ known_a) number_a

  pub two_numbers_follow : Follows AreBoth (two_numbers s) (two_numbers t)
  unfolding two_numbers
  two_numbers_follow =
      also AreBoth (known s.a) (known t.a) _ _ (both IsNarrower _ _ known_a)
      (also AreBoth (known s.b) (known t.b) _ _ (both IsNarrower _ _ known_b)
      (bind AreBoth IsWithin (number s.a) (number t.a) _ _ number_a λ a a' in_a.
      bind AreBoth IsWithin (number s.b) (number t.b) _ _ number_b λ b b' in_b. (in_a, in_b)))

  pub local_then : (n : ℤ) (f f' : ℕ → Result State StateCode) → ((x : ℕ) → Goes (f x) (f' x)) → Goes (local image s n >>= f) (local image t n >>= f')
  unfolding local
  local_then n f f' go = bind IsBelow (λ (x y : ℕ). x ≡ y) _ _ f f'
      (same_as (word_in image (pos s.wptr +ℤ n)) (word_in image (pos t.wptr +ℤ n))
      (ap (λ w. word_in image (pos w +ℤ n)) pair.below.wptr)) λ x y e. rw e (go y)

  pub words_then : (p q : ℕ × ℕ) (n m : ℤ × ℤ) (f f' : ℕ × ℕ → Result State StateCode) → IsPart p q → m.0 ≤ℤ n.0 →
      n.0 ≤ℤ n.1 → n.1 ≤ℤ m.1 → ((w v : ℕ × ℕ) → AreWithin image.workspace w v → Goes (f w) (f' v)) →
      Goes (words_on image p n >>= f) (words_on image q m >>= f')
  words_then p q n m f f' part low ordered high go = bind IsBelow (AreWithin image.workspace) (words_on image p n) (words_on image q m) f f' (words_on_follow image p q n m part low ordered high) go

  pub words_at : (p q : ℕ × ℕ) (n : ℤ) (f f' : ℕ × ℕ → Result State StateCode) → IsPart p q →
      ((w v : ℕ × ℕ) → AreWithin image.workspace w v → Goes (f w) (f' v)) →
      Goes (words_on image p (n, n) >>= f) (words_on image q (n, n) >>= f')
  words_at p q n f f' part go = words_then p q (n, n) (n, n) f f' part (omega (arith, ints)) (omega (arith, ints)) (omega (arith, ints)) go

  pub read_at : (x : ℕ) → Follows KindsBelow (read image.loops (cell_at s.cells x)) (read image.loops (cell_at t.cells x))
  read_at x = read_follows image.loops (cell_at s.cells x) (cell_at t.cells x) (pair.below.cells x) (number_at image.loops s.cells pair.sound.words x)

  pub long_t : length t.cells ≡ image.workspace
  long_t = sym pair.below.sized ∙ pair.sound.placed.sized

  pub part_of : (bound : ℕ) (w v : ℕ × ℕ) → AreWithin bound w v → IsPart w v
  part_of bound w v is = record { low = is.low; ordered = is.ordered; high = is.high }

  pub unless_defined : (w v : ℕ × ℕ) (p q : Result State StateCode) → IsPart w v →
      (are_defined (between t.cells v) ≡ true → Goes p q) →
      Goes (unless S4 (are_defined (between s.cells w)) >> p) (unless S4 (are_defined (between t.cells v)) >> q)
  unless_defined w v p q is go = tested IsBelow S4 _ _ p q (part_all is_defined defined_goes s t pair.below w v is) go

  pub unless_free : (w v : ℕ × ℕ) (p q : Result State StateCode) → IsPart w v →
      (are_free (between t.cells v) ≡ true → Goes p q) → Goes (unless S5 (are_free (between s.cells w)) >> p)
      (unless S5 (are_free (between t.cells v)) >> q)
  unless_free w v p q is go = tested IsBelow S5 _ _ p q (part_all is_free free_goes s t pair.below w v is) go

  pub unless_free_at : (x : ℕ) (p q : Result State StateCode) → Goes p q → Goes (unless S5 (is_free (cell_at s.cells x)) >> p) (unless S5 (is_free (cell_at t.cells x)) >> q)
  unless_free_at x p q go = tested IsBelow S5 _ _ p q (free_goes (cell_at s.cells x) (cell_at t.cells x) (pair.below.cells x)) (λ _. go)

  pub also_numbers : (p q : Result State StateCode) → Goes p q → Goes (two_numbers s >> p) (two_numbers t >> q)
  also_numbers p q go = also IsBelow (two_numbers s) (two_numbers t) p q (both AreBoth _ _ two_numbers_follow) go

  pub also_number : (p q : Result State StateCode) → Goes p q → Goes (one_number s >> p) (one_number t >> q)
  also_number p q go = also IsBelow (one_number s) (one_number t) p q (both IsWithin _ _ one_number_follows) go

  pub message_then : (x n : ℕ) (p q : Result State StateCode) → Goes p q → Goes (message_in image x n >> p) (message_in image x n >> q)
  message_then x n p q go = also IsBelow (message_in image x n) (message_in image x n) p q (same Both (message_in image x n) (λ x. tt)) go

  pub same_then : {A : Type 0} (r : Result A StateCode) (f f' : A → Result State StateCode) → ((x : A) → Goes (f x) (f' x)) → Goes (r >>= f) (r >>= f')
  same_then r f f' go = bind IsBelow Same r r f f' (same Same r (λ x. refl)) λ x y e. rw e (go y)

  pub exactly_b : (n : ℤ) → is_exactly n t.b ≡ true → is_exactly n s.b ≡ true
  exactly_b n e = exactly_below n s.b t.b pair.below.b pair.sound.b e

  pub exactly_a : (n : ℤ) → is_exactly n t.a ≡ true → is_exactly n s.a ≡ true
  exactly_a n e = exactly_below n s.a t.a pair.below.a pair.sound.a e
