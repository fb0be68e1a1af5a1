-- The rules keep states whose ranges have numbers.
use Rattle.std.proofs.Common.{◌≡◌, ℕ, ◌^◌, Bool, true, false, ◌&&◌, not, if◌then◌else◌, IsTrue, ℤ, pos, ◌-ℤ◌, ◌*ℤ◌, ◌≤ℤ◌, int_le, refl, subst, rules, arith, pow_pos}
use Rattle.std.specs.Prelude.{int_lt, int_div}
use Rattle.std.specs.Ordering.{int_eq}
use Rattle.std.specs.Int.{int_min, int_max}
use Rattle.std.proofs.lemmas.Int.{ints, clamps}
use Rattle.std.proofs.lemmas.Bool.{and_parts}
use Rattle.std.proofs.lemmas.Bool.Decides.{nat_tests}
use Rattle.tp_words.specs.Numbers.{least_integer, greatest_integer, overflows}
use Rattle.tp_state.specs.declared.kind.Kind.{Kind}
use Rattle.tp_state.specs.declared.kind.Kind.TheVariants as kind
use Rattle.tp_state.specs.Kinds.{full, range, hull, at_ends}
use Rattle.tp_state.specs.Rules.{is_positive, quotients, remainders, conjunctions, shifted_up, shifted_down, power, count_of, is_shift_count, are_shift_counts}
use Rattle.tp_state.specs.Order.{kind_below}
use Rattle.tp_state.proofs.OrderLemmas.{int_low, int_high}
use Rattle.tp_state.specs.Sound.{IsRange, IsSoundKind}
use Rattle.tp_rule_laws.proofs.Ranges.{IsWithin}
use Rattle.tp_rule_laws.proofs.ArithmeticOrder.{at_least_zero, above_zero, quotients_below, remainders_below, conjunctions_below, shifted_up_below, shifted_down_below}

-- a range within itself
pub itself : (a : ℤ × ℤ) → IsRange a.0 a.1 → IsWithin a a
itself a r = let o = r.ordered in record { least = r.least; low = omega (arith, ints); ordered = o; high = omega (arith, ints); greatest = r.greatest }

-- its least number
pub lowest : (a : ℤ × ℤ) → IsRange a.0 a.1 → IsWithin (a.0, a.0) a
lowest a r = let o = r.ordered in let g = r.greatest in record { least = r.least; low = omega (arith, ints); ordered = omega (arith, ints); high = o; greatest = omega (arith, ints) }

-- every number
pub all_numbers : (a : ℤ × ℤ) → IsRange a.0 a.1 → IsWithin a (least_integer, greatest_integer)
all_numbers a r = record { least = r.least; low = r.least; ordered = r.ordered; high = r.greatest; greatest = r.greatest }

-- a kind within the full range that has a range within it has numbers
pub has_range : (k l : Kind) → IsTrue (kind_below k full) → IsTrue (kind_below l k) → IsSoundKind l → IsTrue (kind_below l full) → IsSoundKind k
has_range kind.Undef l h g r f = tt
has_range (kind.Int a b) (kind.Int c d) h g r f =
    let o = r.ordered in let low = int_low c d a b g in let high = int_high c d a b g in
    record { least = int_low a b least_integer greatest_integer h; ordered = omega (arith, ints); greatest = int_high a b least_integer greatest_integer h }
has_range (kind.Ptr a b) l h g r f = absurd (search rules)
has_range (kind.BytePtr a b) l h g r f = absurd (search rules)
has_range (kind.Int a b) kind.Undef h g r f = absurd (search rules)
has_range (kind.Int a b) (kind.Ptr c d) h g r f = absurd (search rules)
has_range (kind.Int a b) (kind.BytePtr c d) h g r f = absurd (search rules)

pub full_range : IsSoundKind full
full_range = record { least = omega (arith, ints); ordered = omega (arith, ints); greatest = omega (arith, ints) }

pub range_has : (a b : ℤ) → a ≤ℤ b → IsSoundKind (range a b)
unfolding range
range_has a b le = by_test (overflows a) refl (overflows b) refl
  where
    by_test : (p : Bool) → overflows a ≡ p → (q : Bool) → overflows b ≡ q → IsSoundKind (if p then full else if q then full else kind.Int a b)
    by_test true e q f = full_range
    by_test false e true f = full_range
    by_test false e false f = record { least = grind (arith, ints, nat_tests); ordered = le; greatest = grind (arith, ints, nat_tests) }

pub at_ends_has : (f : ℤ → ℤ → ℤ) (b a : ℤ × ℤ) → IsSoundKind (at_ends f b a)
unfolding hull
at_ends_has f b a = range_has _ _ (least_greatest (f b.0 a.0) (f b.0 a.1) (f b.1 a.0) (f b.1 a.1))
  where
    least_greatest : (w x y z : ℤ) → int_min (int_min w x) (int_min y z) ≤ℤ int_max (int_max w x) (int_max y z)
    least_greatest w x y z = omega (arith, ints, clamps)

-- a range of numbers
abbrev pub IsOne : ℤ × ℤ → Type 0
IsOne a = IsRange a.0 a.1

every : ℤ × ℤ
every = (least_integer, greatest_integer)

-- an operation that keeps the order has numbers, where what it makes of single numbers has
module _ (f : ℤ × ℤ → ℤ × ℤ → Kind) (keeps : (b a d c : ℤ × ℤ) → IsWithin b d → IsWithin a c → IsTrue (kind_below (f b a) (f d c)))
    (top : f (least_integer, greatest_integer) (least_integer, greatest_integer) ≡ full)
    (single : (y x : ℤ) → IsRange y y → IsRange x x → IsSoundKind (f (y, y) (x, x))) where
  in_full : (b a : ℤ × ℤ) → IsOne b → IsOne a → IsTrue (kind_below (f b a) full)
  in_full b a in_b in_a = subst (λ k. IsTrue (kind_below (f b a) k)) top (keeps b a (least_integer, greatest_integer) (least_integer, greatest_integer) (all_numbers b in_b) (all_numbers a in_a))

  pub result_has : (b a : ℤ × ℤ) → IsOne b → IsOne a → IsSoundKind (f b a)
  result_has b a in_b in_a =
      let y = first b in_b in let x = first a in_a in
      has_range (f b a) (f (b.0, b.0) (a.0, a.0)) (in_full b a in_b in_a) (keeps (b.0, b.0) (a.0, a.0) b a (lowest b in_b) (lowest a in_a)) (single b.0 a.0 y x) (in_full (b.0, b.0) (a.0, a.0) y x)
    where
      first : (a : ℤ × ℤ) → IsOne a → IsRange a.0 a.0
      first a r = let o = r.ordered in let g = r.greatest in record { least = r.least; ordered = omega (arith, ints); greatest = omega (arith, ints) }

-- with single numbers, only the order of the ends is left to show, since the whole lies in the full range
ordered_in_full : (k : Kind) → IsTrue (kind_below k full) → ((a b : ℤ) → k ≡ kind.Int a b → a ≤ℤ b) → IsSoundKind k
ordered_in_full kind.Undef h go = tt
ordered_in_full (kind.Int a b) h go = record { least = int_low a b least_integer greatest_integer h; ordered = go a b refl; greatest = int_high a b least_integer greatest_integer h }
ordered_in_full (kind.Ptr a b) h go = absurd (search rules)
ordered_in_full (kind.BytePtr a b) h go = absurd (search rules)

quotients_single : (y x : ℤ) → IsRange y y → IsRange x x → IsSoundKind (quotients (y, y) (x, x))
quotients_single y x in_y in_x =
    ordered_in_full (quotients (y, y) (x, x)) (quotients_below (y, y) (x, x) (least_integer, greatest_integer)
    (least_integer, greatest_integer) (all_numbers (y, y) in_y) (all_numbers (x, x) in_x))
    (by_test (is_positive (x, x)))
  where
    by_test : (p : Bool) (a b : ℤ) → (if p then kind.Int (int_div y x) (int_div y x) else full) ≡ kind.Int a b → a ≤ℤ b
    by_test true a b e = let same : int_div y x ≡ a = cc in let also : int_div y x ≡ b = cc in omega (arith, ints)
    by_test false a b e = let same : least_integer ≡ a = cc in let also : greatest_integer ≡ b = cc in omega (arith, ints)

pub quotients_has : (b a : ℤ × ℤ) → IsOne b → IsOne a → IsSoundKind (quotients b a)
quotients_has = result_has quotients quotients_below refl quotients_single

remainders_single : (y x : ℤ) → IsRange y y → IsRange x x → IsSoundKind (remainders (y, y) (x, x))
remainders_single y x in_y in_x =
    ordered_in_full (remainders (y, y) (x, x)) (remainders_below (y, y) (x, x) (least_integer, greatest_integer)
    (least_integer, greatest_integer) (all_numbers (y, y) in_y) (all_numbers (x, x) in_x))
    (by_test (is_positive (x, x)) refl (int_le (pos 0) y))
  where
    some : is_positive (x, x) ≡ true → pos 1 ≤ℤ x
    some e = above_zero x ((and_parts (int_eq x x) (int_lt (pos 0) x) e).1)

    by_test : (p : Bool) → is_positive (x, x) ≡ p → (q : Bool) (a b : ℤ) →
        (if not p then full else if q then kind.Int (pos 0) (x -ℤ pos 1) else kind.Int (pos 1 -ℤ x) (x -ℤ pos 1)) ≡
        kind.Int a b → a ≤ℤ b
    by_test true f true a b e = let more = some f in let same : pos 0 ≡ a = cc in let also : x -ℤ pos 1 ≡ b = cc in omega (arith, ints)
    by_test true f false a b e = let more = some f in let same : pos 1 -ℤ x ≡ a = cc in let also : x -ℤ pos 1 ≡ b = cc in omega (arith, ints)
    by_test false f q a b e = let same : least_integer ≡ a = cc in let also : greatest_integer ≡ b = cc in omega (arith, ints)

pub remainders_has : (b a : ℤ × ℤ) → IsOne b → IsOne a → IsSoundKind (remainders b a)
remainders_has = result_has remainders remainders_below refl remainders_single

conjunctions_single : (y x : ℤ) → IsRange y y → IsRange x x → IsSoundKind (conjunctions (y, y) (x, x))
conjunctions_single y x in_y in_x =
    ordered_in_full (conjunctions (y, y) (x, x)) (conjunctions_below (y, y) (x, x) (least_integer, greatest_integer)
    (least_integer, greatest_integer) (all_numbers (y, y) in_y) (all_numbers (x, x) in_x))
    (by_test (int_le (pos 0) x) refl (int_le (pos 0) y) refl (int_lt y x))
  where
    by_test : (p : Bool) → int_le (pos 0) x ≡ p → (q : Bool) → int_le (pos 0) y ≡ q → (r : Bool) (a b : ℤ) →
        (if p then kind.Int (pos 0) (if q && r then y else x) else if q then kind.Int (pos 0) y else full) ≡ kind.Int a b
        → a ≤ℤ b
    by_test true f true g true a b e = let more = at_least_zero y g in let same : pos 0 ≡ a = cc in let also : y ≡ b = cc in omega (arith, ints)
    by_test true f true g false a b e = let more = at_least_zero x f in let same : pos 0 ≡ a = cc in let also : x ≡ b = cc in omega (arith, ints)
    by_test true f false g r a b e = let more = at_least_zero x f in let same : pos 0 ≡ a = cc in let also : x ≡ b = cc in omega (arith, ints)
    by_test false f true g r a b e = let more = at_least_zero y g in let same : pos 0 ≡ a = cc in let also : y ≡ b = cc in omega (arith, ints)
    by_test false f false g r a b e = let same : least_integer ≡ a = cc in let also : greatest_integer ≡ b = cc in omega (arith, ints)

pub conjunctions_has : (b a : ℤ × ℤ) → IsOne b → IsOne a → IsSoundKind (conjunctions b a)
conjunctions_has = result_has conjunctions conjunctions_below refl conjunctions_single

shifted_up_single : (y x : ℤ) → IsRange y y → IsRange x x → IsSoundKind (shifted_up (y, y) (x, x))
shifted_up_single y x in_y in_x = by_test (int_eq x x && int_le (pos 0) y)
  where
    by_test : (p : Bool) → IsSoundKind (if p then range (y *ℤ power x) (y *ℤ power x) else full)
    by_test true = range_has (y *ℤ power x) (y *ℤ power x) (omega (arith, ints))
    by_test false = full_range

pub shifted_up_has : (b a : ℤ × ℤ) → IsOne b → IsOne a → IsSoundKind (shifted_up b a)
shifted_up_has = result_has shifted_up shifted_up_below refl shifted_up_single

counts_within : (a : ℤ × ℤ) → are_shift_counts a ≡ true → IsOne a → IsWithin a (pos 0, pos 31)
counts_within a e r =
    let o = r.ordered in
    let parts = and_parts (is_shift_count a.0) (is_shift_count a.1) e in
    record {
      least = r.least;
      low = at_least_zero a.0 ((and_parts (int_le (pos 0) a.0) (int_le a.0 (pos 31))
          parts.0).0);
      ordered = o;
      high = up_to (a.1) ((and_parts (int_le (pos 0) a.1) (int_le a.1 (pos 31)) parts.1).1);
      greatest = r.greatest;
    }
  where
    up_to : (z : ℤ) → int_le z (pos 31) ≡ true → z ≤ℤ pos 31
    up_to z e = grind (arith, ints, nat_tests)

down_in_full : (b a : ℤ × ℤ) → are_shift_counts a ≡ true → IsOne b → IsOne a → IsTrue (kind_below (shifted_down b a) full)
down_in_full b a e in_b in_a = shifted_down_below b a (least_integer, greatest_integer) (pos 0, pos 31) refl (all_numbers b in_b) (counts_within a e in_a)

rest_some : (n : ℕ) → pos 0 ≤ℤ (pos (2 ^ n) -ℤ pos 1)
rest_some n = let more = pow_pos n in omega (arith, ints)

down_single : (y x : ℤ) → are_shift_counts (x, x) ≡ true → IsRange y y → IsRange x x → IsSoundKind (shifted_down (y, y) (x, x))
down_single y x counts in_y in_x =
    ordered_in_full (shifted_down (y, y) (x, x)) (down_in_full (y, y) (x, x) counts in_y in_x) (by_test (int_le (pos 0) y) (int_le (pos 1) x))
  where
    by_test : (p q : Bool) (a b : ℤ) → (if p then kind.Int (int_div y (power x)) (int_div y (power x)) else if q then kind.Int (pos 0) (power (pos 32 -ℤ x) -ℤ pos 1) else full) ≡ kind.Int a b → a ≤ℤ b
    by_test true q a b e = let same : int_div y (power x) ≡ a = cc in let also : int_div y (power x) ≡ b = cc in omega (arith, ints)
    by_test false true a b e = let same : pos 0 ≡ a = cc in let also : power (pos 32 -ℤ x) -ℤ pos 1 ≡ b = cc in
        let more = rest_some (count_of (pos 32 -ℤ x)) in subst (λ u. a ≤ℤ u) also
        (subst (λ u. u ≤ℤ (power (pos 32 -ℤ x) -ℤ pos 1)) same more)
    by_test false false a b e = let same : least_integer ≡ a = cc in let also : greatest_integer ≡ b = cc in omega (arith, ints)

pub shifted_down_has : (b a : ℤ × ℤ) → are_shift_counts a ≡ true → IsOne b → IsOne a → IsSoundKind (shifted_down b a)
shifted_down_has b a counts in_b in_a =
    let count = (and_parts (is_shift_count a.0) (is_shift_count a.1) counts).0 in
    let single_counts : are_shift_counts (a.0, a.0) ≡ true = rw count refl in
    let y = first b in_b in let x = first a in_a in
    has_range (shifted_down b a) (shifted_down (b.0, b.0) (a.0, a.0)) (down_in_full b a counts in_b in_a)
    (shifted_down_below (b.0, b.0) (a.0, a.0) b a counts (lowest b in_b) (lowest a in_a))
    (down_single b.0 a.0 single_counts y x) (down_in_full (b.0, b.0) (a.0, a.0) single_counts y x)
  where
    first : (a : ℤ × ℤ) → IsOne a → IsRange a.0 a.0
    first a r = let o = r.ordered in let g = r.greatest in record { least = r.least; ordered = omega (arith, ints); greatest = omega (arith, ints) }
