-- What fits kinds and cells, and what the rules ask of registers.
use Rattle.std.proofs.Common.{◌≡◌, ℕ, ◌+◌, ◌*◌, ◌^◌, ◌<◌, ◌≤◌, Bool, true, false, nat_lt, ◌==◌, if◌then◌else◌, ℤ, pos, negsuc, ◌≤ℤ◌, List, Option, Some, Ok, Err, refl, sym, ap, ◌∙◌, subst, arith}
use Rattle.std.proofs.lemmas.Int.{ints}
use Rattle.std.proofs.lemmas.Bool.{and_parts}
use Rattle.std.proofs.lemmas.Bool.Decides.{nat_tests, Decides-int_eq, Decides-eqb}
use Rattle.std.specs.Ordering.{int_eq}
use Rattle.std.specs.Int.{int_min, int_max}
use Rattle.tp_words.specs.Words.{signed, low_word}
use Rattle.tp_image.specs.declared.image.LoopRow.{LoopRow}
use Rattle.tp_image.specs.Image.{ImageValue}
use Rattle.tp_words.specs.Numbers.{overflows}
use Rattle.tp_step.specs.State.{mem_start}
use Rattle.tp_state.specs.declared.kind.Kind.{Kind}
use Rattle.tp_state.specs.declared.kind.Kind.TheVariants as kind
use Rattle.tp_state.specs.declared.cell.Cell.{Cell}
use Rattle.tp_state.specs.declared.cell.Cell.TheVariants as cell
use Rattle.tp_state.specs.declared.state.State.{State}
use Rattle.tp_state.specs.declared.fault.StateCode.TheVariants.{S2, S3}
use Rattle.tp_state.specs.Kinds.{full, exactly, is_exactly, points_at, known, number, pointer, one_word, byte_pointer, below, word_in, byte_in, range, hull}
use Rattle.tp_state.specs.CellRules.{is_free, is_defined, read, written}
use Rattle.tp_state.specs.Rules.{one_number, two_numbers}
use Rattle.tp_state.specs.Fits.{InRange, KindFits, CellFits, word_address}
use Rattle.tp_state.proofs.Passing.{through, past, same_Ok}
use Rattle.tp_state.proofs.WordLemmas.{low_word_lt, signed_low_word, signed_above, signed_below}

-- ---- places

pub below_is : (bound : ℕ) (z : ℤ) (x : ℕ) → below bound z ≡ Ok x → (z ≡ pos x) × (x < bound)
unfolding below
below_is bound (pos y) x e = by_test (nat_lt y bound) refl e
  where
    by_test : (b : Bool) → nat_lt y bound ≡ b → (if b then Ok y else Err S3) ≡ Ok x → (pos y ≡ pos x) × (x < bound)
    by_test true lt e = let same : y ≡ x = same_Ok _ _ e in (ap pos same, grind (arith, nat_tests))
    by_test false lt e = cc
below_is bound (negsuc y) x e = cc

pub word_in_is : (image : ImageValue) (z : ℤ) (x : ℕ) → word_in image z ≡ Ok x → (z ≡ pos x) × (x < image.workspace)
unfolding word_in
word_in_is image z x e = below_is image.workspace z x e

pub byte_in_is : (image : ImageValue) (z : ℤ) (x : ℕ) → byte_in image z ≡ Ok x → (z ≡ pos x) × (x < 4 * image.workspace)
unfolding byte_in
byte_in_is image z x e = below_is (4 * image.workspace) z x e

-- ---- ranges of words

pub exactly_in : (n : ℤ) (v : ℕ) → v < 2 ^ 32 → signed v ≡ n → InRange n n v
exactly_in n v lt e = record { word = lt; above = omega (arith, ints); below = omega (arith, ints) }

module _ (image : ImageValue) where
  pub full_fits : (v : ℕ) → v < 2 ^ 32 → KindFits image full (Some v)
  full_fits v lt = (v, refl, record { word = lt; above = signed_above v lt; below = signed_below v lt })

  pub exactly_fits : (n : ℤ) (v : ℕ) → v < 2 ^ 32 → signed v ≡ n → KindFits image (exactly n) (Some v)
  exactly_fits n v lt e = (v, refl, exactly_in n v lt e)

  pub within_fits : (low high : ℤ) (v : ℕ) → v < 2 ^ 32 → low ≤ℤ signed v → signed v ≤ℤ high → KindFits image (kind.Int low high) (Some v)
  within_fits low high v lt above below = (v, refl, record { word = lt; above = above; below = below })

  -- the low word of a whole number of a range
  pub range_fits : (low high z : ℤ) → low ≤ℤ z → z ≤ℤ high → KindFits image (range low high) (Some (low_word z))
  unfolding range
  range_fits low high z above below = at (overflows low) refl (overflows high) refl
    where
      at : (p : Bool) → overflows low ≡ p → (q : Bool) → overflows high ≡ q → KindFits image (if p then full else if q then full else kind.Int low high) (Some (low_word z))
      at true e q g = full_fits (low_word z) (low_word_lt z)
      at false e true g = full_fits (low_word z) (low_word_lt z)
      at false e false g =
          let fits : overflows z ≡ false = grind (arith, ints, nat_tests) in
          let is = signed_low_word z fits in
          (low_word z, refl, record { word = low_word_lt z; above = rw is above; below = rw is below })

  pub hull_fits : (a b c d z : ℤ) → int_min (int_min a b) (int_min c d) ≤ℤ z → z ≤ℤ int_max (int_max a b) (int_max c d) → KindFits image (hull a b c d) (Some (low_word z))
  unfolding hull
  hull_fits a b c d z above below = range_fits _ _ z above below

  pub pointer_fits : (p q x : ℕ) → p ≤ x → x ≤ q → x < image.workspace → KindFits image (kind.Ptr p q) (Some (word_address x))
  pointer_fits p q x low high inside = (x, refl, low, high, inside)

  pub byte_pointer_fits : (p q x : ℕ) → p ≤ x → x ≤ q → x < 4 * image.workspace → KindFits image (kind.BytePtr p q) (Some (mem_start + x))
  byte_pointer_fits p q x low high inside = (x, refl, low, high, inside)

-- ---- what is asked of a register

module _ {P : Type 0} (image : ImageValue) where
  pub number_is : (k : Kind) (r : Option ℕ) (ab : ℤ × ℤ) → number k ≡ Ok ab → KindFits image k r → ((v : ℕ) → r ≡ Some v → InRange ab.0 ab.1 v → P) → P
  unfolding number
  number_is kind.Undef r ab e h go = cc
  number_is (kind.Int a b) r ab e (v, is, range) go = go v is (subst (λ u. InRange u.0 u.1 v) (same_Ok (a, b) ab e) range)
  number_is (kind.Ptr p q) r ab e h go = cc
  number_is (kind.BytePtr p q) r ab e h go = cc

  pub pointer_is : (k : Kind) (r : Option ℕ) (p : ℕ × ℕ) → pointer k ≡ Ok p → KindFits image k r → ((x : ℕ) → r ≡ Some (word_address x) → p.0 ≤ x → x ≤ p.1 → x < image.workspace → P) → P
  unfolding pointer
  pointer_is kind.Undef r p e h go = cc
  pointer_is (kind.Int a b) r p e h go = cc
  pointer_is (kind.Ptr a b) r p e (x, is, low, high, inside) go =
      let same = same_Ok (a, b) p e in
      go x is (subst (λ u. u.0 ≤ x) same low) (subst (λ u. x ≤ u.1) same high) inside
  pointer_is (kind.BytePtr a b) r p e h go = cc

  pub byte_pointer_is : (k : Kind) (r : Option ℕ) (p : ℕ × ℕ) → byte_pointer k ≡ Ok p → KindFits image k r → ((x : ℕ) → r ≡ Some (mem_start + x) → p.0 ≤ x → x ≤ p.1 → x < 4 * image.workspace → P) → P
  unfolding byte_pointer
  byte_pointer_is kind.Undef r p e h go = cc
  byte_pointer_is (kind.Int a b) r p e h go = cc
  byte_pointer_is (kind.Ptr a b) r p e (x, is, low, high, inside) go =
      let same = same_Ok (4 * a, 4 * b) p e in
      let low' : 4 * a ≤ 4 * x = omega arith in
      let high' : 4 * x ≤ 4 * b = omega arith in
      go (4 * x) is (subst (λ u. u.0 ≤ 4 * x) same low') (subst (λ u. 4 * x ≤ u.1) same high') (omega arith)
  byte_pointer_is (kind.BytePtr a b) r p e (x, is, low, high, inside) go =
      let same = same_Ok (a, b) p e in
      go x is (subst (λ u. u.0 ≤ x) same low) (subst (λ u. x ≤ u.1) same high) inside

  pub one_word_is : (k : Kind) (r : Option ℕ) (x : ℕ) → one_word k ≡ Ok x → KindFits image k r → (r ≡ Some (word_address x) → x < image.workspace → P) → P
  unfolding one_word
  one_word_is kind.Undef r x e h go = cc
  one_word_is (kind.Int a b) r x e h go = cc
  one_word_is (kind.Ptr p q) r x e (y, is, low, high, inside) go = by_test (p == q) refl e
    where
      by_test : (b : Bool) → (p == q) ≡ b → (if b then Ok p else Err S2) ≡ Ok x → P
      by_test true same e =
          let p_is : p ≡ x = same_Ok _ _ e in
          let q_is : p ≡ q = (Decides-eqb p q).0 same in
          let y_is : y ≡ x = omega arith in
          go (is ∙ ap (λ z. Some (word_address z)) y_is) (omega arith)
      by_test false same e = cc
  one_word_is (kind.BytePtr a b) r x e h go = cc

  pub exactly_is : (n : ℤ) (k : Kind) (r : Option ℕ) → is_exactly n k ≡ true → KindFits image k r → ((v : ℕ) → r ≡ Some v → v < 2 ^ 32 → signed v ≡ n → P) → P
  exactly_is n kind.Undef r e h go = cc
  exactly_is n (kind.Int a b) r e (v, is, range) go =
      let parts = and_parts (int_eq a n) (int_eq b n) e in
      let a_is : a ≡ n = (Decides-int_eq a n).0 parts.0 in
      let b_is : b ≡ n = (Decides-int_eq b n).0 parts.1 in
      let above = range.above in
      let below = range.below in
      go v is range.word (omega (arith, ints))
  exactly_is n (kind.Ptr p q) r e h go = cc
  exactly_is n (kind.BytePtr p q) r e h go = cc

  pub points_is : (x : ℕ) (k : Kind) (r : Option ℕ) → points_at x k ≡ true → KindFits image k r → (r ≡ Some (word_address x) → P) → P
  points_is x kind.Undef r e h go = cc
  points_is x (kind.Int a b) r e h go = cc
  points_is x (kind.Ptr p q) r e (y, is, low, high, inside) go =
      let parts = and_parts (p == x) (q == x) e in
      let p_is : p ≡ x = (Decides-eqb p x).0 parts.0 in
      let q_is : q ≡ x = (Decides-eqb q x).0 parts.1 in
      let same : y ≡ x = omega arith in
      go (is ∙ ap (λ z. Some (word_address z)) same)
  points_is x (kind.BytePtr p q) r e h go = cc

  pub one_number_is : (t : State) (ab : ℤ × ℤ) → one_number t ≡ Ok ab → (number t.a ≡ Ok ab → P) → P
  unfolding one_number
  one_number_is t ab ok go = past (known t.a) _ ab ok λ ok. go ok

  pub two_numbers_are : (t : State) (p : (ℤ × ℤ) × (ℤ × ℤ)) → two_numbers t ≡ Ok p → (number t.a ≡ Ok p.0 → number t.b ≡ Ok p.1 → P) → P
  unfolding two_numbers
  two_numbers_are t p ok go =
      past (known t.a) _ p ok λ ok.
      past (known t.b) _ p ok λ ok.
      through (number t.a) _ p ok λ a a_is ok.
      through (number t.b) _ p ok λ b b_is ok.
      let same = same_Ok (a, b) p ok in
      go (a_is ∙ ap (λ (q : (ℤ × ℤ) × (ℤ × ℤ)). Ok q.0) same) (b_is ∙ ap (λ (q : (ℤ × ℤ) × (ℤ × ℤ)). Ok q.1) same)

-- ---- cells and registers

module _ {P : Type 0} (image : ImageValue) where
  -- what is read
  pub read_fits : (c : Cell) (k : Kind) (r : Option ℕ) → read image.loops c ≡ Ok k → CellFits image.loops c r → ((v : ℕ) → r ≡ Some v → KindFits image k (Some v) → P) → P
  unfolding read
  read_fits cell.Undef k r e h go = cc
  read_fits cell.Any k r e (v, is, lt) go = go v is (subst (λ u. KindFits image u (Some v)) (same_Ok _ _ e) (full_fits image v lt))
  read_fits (cell.Known n) k r e (v, is, range) go = go v is (subst (λ u. KindFits image u (Some v)) (same_Ok _ _ e) (v, refl, range))
  read_fits (cell.Index l) k r e (row, row_is, v, is, range) go =
      let e' = rw row_is at e in go v is (subst (λ u. KindFits image u (Some v)) (same_Ok _ _ e') (v, refl, range))
  read_fits (cell.Count l) k r e (row, row_is, v, is, range) go =
      let e' = rw row_is at e in go v is (subst (λ u. KindFits image u (Some v)) (same_Ok _ _ e') (v, refl, range))

  -- what is something is a word
  pub known_is : (k k' : Kind) (r : Option ℕ) → image.workspace ≤ 512 → known k ≡ Ok k' → KindFits image k r → ((v : ℕ) → r ≡ Some v → v < 2 ^ 32 → k ≡ k' → P) → P
  unfolding known
  known_is kind.Undef k' r small e h go = cc
  known_is (kind.Int a b) k' r small e (v, is, range) go = go v is range.word (same_Ok _ _ e)
  known_is (kind.Ptr p q) k' r small e (x, is, low, high, inside) go = go (word_address x) is (omega arith) (same_Ok _ _ e)
  known_is (kind.BytePtr p q) k' r small e (x, is, low, high, inside) go = go (0x80000048 + x) is (omega arith) (same_Ok _ _ e)

range_written : (rows : List LoopRow) (a b : ℤ) (v : ℕ) → InRange a b v → (test : Bool) → int_eq a b ≡ test → CellFits rows (if test then cell.Known a else cell.Any) (Some v)
range_written rows a b v r true is =
    let same : a ≡ b = (Decides-int_eq a b).0 is in
    let above = r.above in
    let below = r.below in
    (v, refl, exactly_in a v r.word (omega (arith, ints)))
range_written rows a b v r false is = (v, refl, r.word)

-- what a register makes of the cell of a word that takes it
pub written_fits : (image : ImageValue) (k : Kind) (v : ℕ) → v < 2 ^ 32 → KindFits image k (Some v) → CellFits image.loops (written k) (Some v)
written_fits image kind.Undef v lt h = tt
written_fits image (kind.Int a b) v lt (u, is, range) =
    subst (λ o. CellFits image.loops (written (kind.Int a b)) o) (sym is) (range_written image.loops a b u range (int_eq a b) refl)
written_fits image (kind.Ptr p q) v lt h = (v, refl, lt)
written_fits image (kind.BytePtr p q) v lt h = (v, refl, lt)

pub written_free : (k : Kind) → is_free (written k) ≡ true
written_free kind.Undef = refl
written_free (kind.Int a b) = by_test (int_eq a b)
  where
    by_test : (test : Bool) → is_free (if test then cell.Known a else cell.Any) ≡ true
    by_test true = refl
    by_test false = refl
written_free (kind.Ptr p q) = refl
written_free (kind.BytePtr p q) = refl

-- a defined cell is that of a word
pub defined_word : (rows : List LoopRow) (c : Cell) (r : Option ℕ) → is_defined c ≡ true → CellFits rows c r → CellFits rows cell.Any r
defined_word rows cell.Undef r e h = cc
defined_word rows cell.Any r e h = h
defined_word rows (cell.Known n) r e (v, is, range) = (v, is, range.word)
defined_word rows (cell.Index l) r e (row, row_is, v, is, range) = (v, is, range.word)
defined_word rows (cell.Count l) r e (row, row_is, v, is, range) = (v, is, range.word)
