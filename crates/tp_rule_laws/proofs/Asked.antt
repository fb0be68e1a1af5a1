-- What the rules ask of registers that are below others.
use Rattle.std.proofs.Common.{◌≡◌, ℕ, ◌*◌, ◌<◌, ◌≤◌, Bool, true, false, ◌&&◌, ◌==◌, nat_le, nat_lt, if◌then◌else◌, IsTrue, ℤ, pos, negsuc, ◌≤ℤ◌, Result, Ok, Err, refl, sym, ◌∙◌, rules, arith}
use Rattle.std.specs.Ordering.{int_eq}
use Rattle.std.proofs.lemmas.Int.{ints}
use Rattle.std.proofs.lemmas.Bool.{and_parts}
use Rattle.std.proofs.lemmas.Bool.Decides.{nat_tests, Decides-int_eq, Decides-eqb}
use Rattle.tp_image.specs.Image.{ImageValue}
use Rattle.tp_state.specs.declared.kind.Kind.{Kind}
use Rattle.tp_state.specs.declared.kind.Kind.TheVariants as kind
use Rattle.tp_state.specs.declared.cell.Cell.TheVariants as cell
use Rattle.tp_state.specs.declared.fault.StateCode.{StateCode}
use Rattle.tp_state.specs.declared.fault.StateCode.TheVariants.{S2}
use Rattle.tp_state.specs.Answer.{◌>>=◌}
use Rattle.tp_state.specs.Kinds.{is_exactly, points_at, known, number, pointer, one_word, byte_pointer, below, word_in, byte_in}
use Rattle.tp_state.specs.CellRules.{is_defined, written}
use Rattle.tp_state.specs.Order.{kind_below}
use Rattle.tp_state.specs.Rules.{words_on, bytes_on, words_further}
use Rattle.tp_state.proofs.KindLemmas.{below_is}
use Rattle.tp_state.proofs.OrderLemmas.{int_low, int_high, nat_low, nat_high}
use Rattle.tp_state.specs.Sound.{IsSoundKind}
use Rattle.tp_rule_laws.proofs.Follows.{Follows, bind}
use Rattle.tp_rule_laws.proofs.Ranges.{IsWithin, range_below}

-- the first kind says as much as the second or more, and something
pub record IsNarrower (k l : Kind) : Type 0 where
  pub below : IsTrue (kind_below k l)
  pub range : IsSoundKind k
  pub there : is_defined (written k) ≡ true
  pub also : is_defined (written l) ≡ true

-- places from the first to the last, within others
pub record AreWithin (bound : ℕ) (p q : ℕ × ℕ) : Type 0 where
  pub low : q.0 ≤ p.0
  pub ordered : p.0 ≤ p.1
  pub high : p.1 ≤ q.1
  pub inside : q.1 < bound

pub record IsPart (p q : ℕ × ℕ) : Type 0 where
  pub low : q.0 ≤ p.0
  pub ordered : p.0 ≤ p.1
  pub high : p.1 ≤ q.1

int_there : (a b : ℤ) → is_defined (written (kind.Int a b)) ≡ true
int_there a b = by_test (int_eq a b)
  where
    by_test : (p : Bool) → is_defined (if p then cell.Known a else cell.Any) ≡ true
    by_test true = refl
    by_test false = refl

pub known_follows : (k l : Kind) → IsTrue (kind_below k l) → IsSoundKind k → Follows IsNarrower (known k) (known l)
unfolding known
known_follows k kind.Undef h r = tt
known_follows (kind.Int a b) (kind.Int c d) h r = record { below = h; range = r; there = int_there a b; also = int_there c d }
known_follows (kind.Ptr a b) (kind.Ptr c d) h r = record { below = h; range = r; there = refl; also = refl }
known_follows (kind.BytePtr a b) (kind.BytePtr c d) h r = record { below = h; range = r; there = refl; also = refl }
known_follows kind.Undef (kind.Int c d) h r = absurd (search rules)
known_follows (kind.Ptr a b) (kind.Int c d) h r = absurd (search rules)
known_follows (kind.BytePtr a b) (kind.Int c d) h r = absurd (search rules)
known_follows kind.Undef (kind.Ptr c d) h r = absurd (search rules)
known_follows (kind.Int a b) (kind.Ptr c d) h r = absurd (search rules)
known_follows (kind.BytePtr a b) (kind.Ptr c d) h r = absurd (search rules)
known_follows kind.Undef (kind.BytePtr c d) h r = absurd (search rules)
known_follows (kind.Int a b) (kind.BytePtr c d) h r = absurd (search rules)
known_follows (kind.Ptr a b) (kind.BytePtr c d) h r = absurd (search rules)

pub number_follows : (k l : Kind) → IsTrue (kind_below k l) → IsSoundKind k → Follows IsWithin (number k) (number l)
unfolding number
number_follows k kind.Undef h r = tt
number_follows k (kind.Ptr c d) h r = tt
number_follows k (kind.BytePtr c d) h r = tt
number_follows (kind.Int a b) (kind.Int c d) h r = record { least = r.least; low = int_low a b c d h; ordered = r.ordered; high = int_high a b c d h; greatest = r.greatest }
number_follows kind.Undef (kind.Int c d) h r = absurd (search rules)
number_follows (kind.Ptr a b) (kind.Int c d) h r = absurd (search rules)
number_follows (kind.BytePtr a b) (kind.Int c d) h r = absurd (search rules)

pub pointer_follows : (k l : Kind) → IsTrue (kind_below k l) → IsSoundKind k → Follows IsPart (pointer k) (pointer l)
unfolding pointer
pointer_follows k kind.Undef h r = tt
pointer_follows k (kind.Int c d) h r = tt
pointer_follows k (kind.BytePtr c d) h r = tt
pointer_follows (kind.Ptr a b) (kind.Ptr c d) h r = record { low = nat_low a b c d h; ordered = r.ordered; high = nat_high a b c d h }
pointer_follows kind.Undef (kind.Ptr c d) h r = absurd (search rules)
pointer_follows (kind.Int a b) (kind.Ptr c d) h r = absurd (search rules)
pointer_follows (kind.BytePtr a b) (kind.Ptr c d) h r = absurd (search rules)

pub byte_pointer_follows : (k l : Kind) → IsTrue (kind_below k l) → IsSoundKind k → Follows IsPart (byte_pointer k) (byte_pointer l)
unfolding byte_pointer
byte_pointer_follows k kind.Undef h r = tt
byte_pointer_follows k (kind.Int c d) h r = tt
byte_pointer_follows (kind.Ptr a b) (kind.Ptr c d) h r = let o = r.ordered in let low = nat_low a b c d h in let high =
    nat_high a b c d h in record { low = omega arith; ordered = omega arith; high = omega arith }
byte_pointer_follows (kind.BytePtr a b) (kind.BytePtr c d) h r = record { low = nat_low a b c d h; ordered = r.ordered; high = nat_high a b c d h }
byte_pointer_follows kind.Undef (kind.Ptr c d) h r = absurd (search rules)
byte_pointer_follows (kind.Int a b) (kind.Ptr c d) h r = absurd (search rules)
byte_pointer_follows (kind.BytePtr a b) (kind.Ptr c d) h r = absurd (search rules)
byte_pointer_follows kind.Undef (kind.BytePtr c d) h r = absurd (search rules)
byte_pointer_follows (kind.Int a b) (kind.BytePtr c d) h r = absurd (search rules)
byte_pointer_follows (kind.Ptr a b) (kind.BytePtr c d) h r = absurd (search rules)

-- one word within a range of one is that one
one_of : (a b c d : ℕ) → IsTrue (nat_le c a && nat_le b d) → a ≤ b → (c == d) ≡ true → ((a == b) ≡ true) × (a ≡ c)
one_of a b c d h r e =
    let low = nat_low a b c d h in let high = nat_high a b c d h in
    let same : c ≡ d = (Decides-eqb c d).0 e in
    (grind (arith, nat_tests), omega arith)

pub one_word_follows : (k l : Kind) → IsTrue (kind_below k l) → IsSoundKind k → Follows (λ (x y : ℕ). x ≡ y) (one_word k) (one_word l)
unfolding one_word
one_word_follows k kind.Undef h r = tt
one_word_follows k (kind.Int c d) h r = tt
one_word_follows k (kind.BytePtr c d) h r = tt
one_word_follows (kind.Ptr a b) (kind.Ptr c d) h r = by_test (c == d) refl
  where
    by_test : (p : Bool) → (c == d) ≡ p → Follows (λ (x y : ℕ). x ≡ y) (if a == b then Ok a else Err S2) (if p then Ok c else Err S2)
    by_test false e = tt
    by_test true e = let is = one_of a b c d h r.ordered e in rw is.0 is.1
one_word_follows kind.Undef (kind.Ptr c d) h r = absurd (search rules)
one_word_follows (kind.Int a b) (kind.Ptr c d) h r = absurd (search rules)
one_word_follows (kind.BytePtr a b) (kind.Ptr c d) h r = absurd (search rules)

-- ---- tests of kinds

pub exactly_below : (n : ℤ) (k l : Kind) → IsTrue (kind_below k l) → IsSoundKind k → is_exactly n l ≡ true → is_exactly n k ≡ true
exactly_below n k kind.Undef h r e = cc
exactly_below n k (kind.Ptr c d) h r e = cc
exactly_below n k (kind.BytePtr c d) h r e = cc
exactly_below n (kind.Int a b) (kind.Int c d) h r e =
    let parts = and_parts (int_eq c n) (int_eq d n) e in
    let low = int_low a b c d h in let high = int_high a b c d h in let ordered = r.ordered in
    let c_is = (Decides-int_eq c n).0 parts.0 in
    let d_is = (Decides-int_eq d n).0 parts.1 in
    let a_is : a ≡ n = omega (arith, ints) in
    let b_is : b ≡ n = omega (arith, ints) in
    grind (arith, ints, nat_tests)
exactly_below n kind.Undef (kind.Int c d) h r e = absurd (search rules)
exactly_below n (kind.Ptr a b) (kind.Int c d) h r e = absurd (search rules)
exactly_below n (kind.BytePtr a b) (kind.Int c d) h r e = absurd (search rules)

pub points_below : (x : ℕ) (k l : Kind) → IsTrue (kind_below k l) → IsSoundKind k → points_at x l ≡ true → points_at x k ≡ true
points_below x k kind.Undef h r e = cc
points_below x k (kind.Int c d) h r e = cc
points_below x k (kind.BytePtr c d) h r e = cc
points_below x (kind.Ptr a b) (kind.Ptr c d) h r e =
    let o = r.ordered in
    let parts = and_parts (c == x) (d == x) e in
    let low = nat_low a b c d h in let high = nat_high a b c d h in
    let c_is = (Decides-eqb c x).0 parts.0 in
    let d_is = (Decides-eqb d x).0 parts.1 in
    let a_is : a ≡ x = omega arith in
    let b_is : b ≡ x = omega arith in
    grind (arith, nat_tests)
points_below x kind.Undef (kind.Ptr c d) h r e = absurd (search rules)
points_below x (kind.Int a b) (kind.Ptr c d) h r e = absurd (search rules)
points_below x (kind.BytePtr a b) (kind.Ptr c d) h r e = absurd (search rules)

-- ---- places

inside_is : (bound x : ℕ) → x < bound → below bound (pos x) ≡ Ok x
unfolding below
inside_is bound x lt = let yes : nat_lt x bound ≡ true = grind (arith, nat_tests) in rw yes refl

-- a place between two others
between_is : {P : Type 0} (bound : ℕ) (z : ℤ) (x y : ℕ) → pos x ≤ℤ z → z ≤ℤ pos y → y < bound → ((v : ℕ) → below bound z ≡ Ok v → x ≤ v → v ≤ y → z ≡ pos v → P) → P
between_is bound (pos v) x y low high lt go = go v (inside_is bound v (omega (arith, ints))) (omega (arith, ints)) (omega (arith, ints)) refl
between_is bound (negsuc v) x y low high lt go = absurd (omega (arith, ints))

-- the places at the ends of a range within another
places_follow : (bound : ℕ) (a b c d : ℤ) → c ≤ℤ a → a ≤ℤ b → b ≤ℤ d
    → Follows (AreWithin bound) (below bound a >>= λ first. below bound b >>= λ last. Ok (first, last)) (below bound c >>= λ first. below bound d >>= λ last. Ok (first, last))
places_follow bound a b c d low ordered high = by_answers (below bound c) refl (below bound d) refl
  where
    by_answers : (p : Result ℕ StateCode) → below bound c ≡ p → (q : Result ℕ StateCode) → below bound d ≡ q
        → Follows (AreWithin bound) (below bound a >>= λ first. below bound b >>= λ last. Ok (first, last)) (p >>= λ first. q >>= λ last. Ok (first, last))
    by_answers (Err e) f q g = tt
    by_answers (Ok x) f (Err e) g = tt
    by_answers (Ok x) f (Ok y) g =
        let c_is = below_is bound c x f in
        let d_is = below_is bound d y g in
        let c_at = c_is.0 in let d_at = d_is.0 in let lt = d_is.1 in
        between_is bound a x y (omega (arith, ints)) (omega (arith, ints)) lt λ v v_ok xv vy v_at.
        between_is bound b x y (omega (arith, ints)) (omega (arith, ints)) lt λ u u_ok xu uy u_at.
        rw (v_ok, u_ok) (record { low = xv; ordered = omega (arith, ints); high = uy; inside = lt })

module _ (image : ImageValue) where
  pub words_on_follow : (p q : ℕ × ℕ) (n m : ℤ × ℤ) → IsPart p q → m.0 ≤ℤ n.0 → n.0 ≤ℤ n.1 → n.1 ≤ℤ m.1 → Follows (AreWithin image.workspace) (words_on image p n) (words_on image q m)
  unfolding words_on word_in
  words_on_follow p q n m part low ordered high =
      let l = part.low in let o = part.ordered in let h = part.high in
      places_follow image.workspace _ _ _ _ (omega (arith, ints)) (omega (arith, ints)) (omega (arith, ints))

  pub bytes_on_follow : (p q : ℕ × ℕ) (n m : ℤ × ℤ) → IsPart p q → m.0 ≤ℤ n.0 → n.0 ≤ℤ n.1 → n.1 ≤ℤ m.1 → Follows (AreWithin (4 * image.workspace)) (bytes_on image p n) (bytes_on image q m)
  unfolding bytes_on byte_in
  bytes_on_follow p q n m part low ordered high =
      let l = part.low in let o = part.ordered in let h = part.high in
      places_follow (4 * image.workspace) _ _ _ _ (omega (arith, ints)) (omega (arith, ints)) (omega (arith, ints))

  pub words_further_follow : (n : ℤ) (k l : Kind) → IsTrue (kind_below k l) → IsSoundKind k → Follows (λ (x y : Kind). IsTrue (kind_below x y)) (words_further image n k) (words_further image n l)
  unfolding words_further
  words_further_follow n k kind.Undef h r = tt
  words_further_follow n k (kind.BytePtr c d) h r = tt
  words_further_follow n (kind.Int a b) (kind.Int c d) h r =
      let low = int_low a b c d h in let high = int_high a b c d h in let ordered = r.ordered in
      range_below _ _ _ _ (omega (arith, ints)) (omega (arith, ints)) (omega (arith, ints))
  words_further_follow n (kind.Ptr a b) (kind.Ptr c d) h r =
      bind (λ (x y : Kind). IsTrue (kind_below x y)) (AreWithin image.workspace) (words_on image (a, b) (n, n)) (words_on image (c, d) (n, n)) _ _
      (words_on_follow (a, b) (c, d) (n, n) (n, n) (record
      { low = nat_low a b c d h; ordered = r.ordered; high = nat_high a b c d h }) (omega (arith, ints))
      (omega (arith, ints)) (omega (arith, ints)))
      λ w v is. ptr_below w v is
    where
      ptr_below : (w v : ℕ × ℕ) → AreWithin image.workspace w v → IsTrue (kind_below (kind.Ptr w.0 w.1) (kind.Ptr v.0 v.1))
      ptr_below w v is = let l = is.low in let h = is.high in grind (arith, nat_tests)
  words_further_follow n kind.Undef (kind.Int c d) h r = absurd (search rules)
  words_further_follow n (kind.Ptr a b) (kind.Int c d) h r = absurd (search rules)
  words_further_follow n (kind.BytePtr a b) (kind.Int c d) h r = absurd (search rules)
  words_further_follow n kind.Undef (kind.Ptr c d) h r = absurd (search rules)
  words_further_follow n (kind.Int a b) (kind.Ptr c d) h r = absurd (search rules)
  words_further_follow n (kind.BytePtr a b) (kind.Ptr c d) h r = absurd (search rules)

-- no kind is two numbers
pub exactly_one : (n m : ℤ) (k : Kind) → is_exactly n k ≡ true → is_exactly m k ≡ true → n ≡ m
exactly_one n m kind.Undef e f = cc
exactly_one n m (kind.Ptr p q) e f = cc
exactly_one n m (kind.BytePtr p q) e f = cc
exactly_one n m (kind.Int a b) e f = sym ((Decides-int_eq a n).0 ((and_parts (int_eq a n) (int_eq b n) e).0)) ∙ (Decides-int_eq a m).0 ((and_parts (int_eq a m) (int_eq b m) f).0)
