-- The order of what is known is a partial order, and a join is the least of what is above both.
use Rattle.std.proofs.Common.{◌≡◌, ℕ, ◌≤◌, nat_le, min, max, ◌&&◌, IsTrue, ℤ, int_le, ◌≤ℤ◌, refl, arith, rules}
use Rattle.std.proofs.lemmas.Bool.Decides.{nat_tests}
use Rattle.std.proofs.lemmas.Int.{ints, clamps}
use Rattle.std.specs.Int.{int_min, int_max}
use Rattle.tp_state.specs.declared.kind.Kind.{Kind}
use Rattle.tp_state.specs.declared.kind.Kind.TheVariants as kind
use Rattle.tp_state.specs.Order.{kind_below, join_kinds}

-- ---- ranges

int_within-self : (a b : ℤ) → IsTrue (int_le a a && int_le b b)
int_within-self a b = grind (arith, ints)

nat_within-self : (a b : ℕ) → IsTrue (nat_le a a && nat_le b b)
nat_within-self a b = grind (arith, nat_tests)

pub int_low : (a b c d : ℤ) → IsTrue (int_le c a && int_le b d) → c ≤ℤ a
int_low a b c d h = grind (arith, ints)

pub int_high : (a b c d : ℤ) → IsTrue (int_le c a && int_le b d) → b ≤ℤ d
int_high a b c d h = grind (arith, ints)

int_within : (a b c d : ℤ) → c ≤ℤ a → b ≤ℤ d → IsTrue (int_le c a && int_le b d)
int_within a b c d h g = grind (arith, ints)

pub nat_low : (a b c d : ℕ) → IsTrue (nat_le c a && nat_le b d) → c ≤ a
nat_low a b c d h = grind (arith, nat_tests)

pub nat_high : (a b c d : ℕ) → IsTrue (nat_le c a && nat_le b d) → b ≤ d
nat_high a b c d h = grind (arith, nat_tests)

nat_within : (a b c d : ℕ) → c ≤ a → b ≤ d → IsTrue (nat_le c a && nat_le b d)
nat_within a b c d h g = grind (arith, nat_tests)

int_same : (a c : ℤ) → c ≤ℤ a → a ≤ℤ c → a ≡ c
int_same a c h g = omega (arith, ints)

nat_same : (a c : ℕ) → c ≤ a → a ≤ c → a ≡ c
nat_same a c h g = omega arith

int_ends : (f : ℤ → ℤ → Kind) (a b c d : ℤ) → IsTrue (int_le c a && int_le b d) → IsTrue (int_le a c && int_le d b) → f a b ≡ f c d
int_ends f a b c d h g =
    let low = int_same a c (int_low a b c d h) (int_low c d a b g) in
    let high = int_same b d (int_high c d a b g) (int_high a b c d h) in
    rw (low, high) refl

nat_ends : (f : ℕ → ℕ → Kind) (a b c d : ℕ) → IsTrue (nat_le c a && nat_le b d) → IsTrue (nat_le a c && nat_le d b) → f a b ≡ f c d
nat_ends f a b c d h g =
    let low = nat_same a c (nat_low a b c d h) (nat_low c d a b g) in
    let high = nat_same b d (nat_high c d a b g) (nat_high a b c d h) in
    rw (low, high) refl

int_trans : (a b c d e f : ℤ) → IsTrue (int_le c a && int_le b d) → IsTrue (int_le e c && int_le d f) → IsTrue (int_le e a && int_le b f)
int_trans a b c d e f h g =
    let l1 = int_low a b c d h in let l2 = int_low c d e f g in
    let h1 = int_high a b c d h in let h2 = int_high c d e f g in
    int_within a b e f (omega (arith, ints)) (omega (arith, ints))

nat_trans : (a b c d e f : ℕ) → IsTrue (nat_le c a && nat_le b d) → IsTrue (nat_le e c && nat_le d f) → IsTrue (nat_le e a && nat_le b f)
nat_trans a b c d e f h g =
    let l1 = nat_low a b c d h in let l2 = nat_low c d e f g in
    let h1 = nat_high a b c d h in let h2 = nat_high c d e f g in
    nat_within a b e f (omega arith) (omega arith)

-- ---- kinds

pub kind_below-self : (k : Kind) → IsTrue (kind_below k k)
kind_below-self kind.Undef = search rules
kind_below-self (kind.Int a b) = int_within-self a b
kind_below-self (kind.Ptr p q) = nat_within-self p q
kind_below-self (kind.BytePtr p q) = nat_within-self p q

pub kind_below-antisym : (k l : Kind) → IsTrue (kind_below k l) → IsTrue (kind_below l k) → k ≡ l
kind_below-antisym kind.Undef kind.Undef h g = refl
kind_below-antisym (kind.Int a b) (kind.Int c d) h g = int_ends kind.Int a b c d h g
kind_below-antisym (kind.Ptr p q) (kind.Ptr r s) h g = nat_ends kind.Ptr p q r s h g
kind_below-antisym (kind.BytePtr p q) (kind.BytePtr r s) h g = nat_ends kind.BytePtr p q r s h g
kind_below-antisym kind.Undef (kind.Int c d) h g = absurd (search rules)
kind_below-antisym kind.Undef (kind.Ptr c d) h g = absurd (search rules)
kind_below-antisym kind.Undef (kind.BytePtr c d) h g = absurd (search rules)
kind_below-antisym (kind.Int a b) kind.Undef h g = absurd (search rules)
kind_below-antisym (kind.Int a b) (kind.Ptr c d) h g = absurd (search rules)
kind_below-antisym (kind.Int a b) (kind.BytePtr c d) h g = absurd (search rules)
kind_below-antisym (kind.Ptr a b) kind.Undef h g = absurd (search rules)
kind_below-antisym (kind.Ptr a b) (kind.Int c d) h g = absurd (search rules)
kind_below-antisym (kind.Ptr a b) (kind.BytePtr c d) h g = absurd (search rules)
kind_below-antisym (kind.BytePtr a b) kind.Undef h g = absurd (search rules)
kind_below-antisym (kind.BytePtr a b) (kind.Int c d) h g = absurd (search rules)
kind_below-antisym (kind.BytePtr a b) (kind.Ptr c d) h g = absurd (search rules)

pub kind_below-trans : (k l m : Kind) → IsTrue (kind_below k l) → IsTrue (kind_below l m) → IsTrue (kind_below k m)
kind_below-trans k l kind.Undef h g = search rules
kind_below-trans (kind.Int a b) (kind.Int c d) (kind.Int e f) h g = int_trans a b c d e f h g
kind_below-trans (kind.Ptr a b) (kind.Ptr c d) (kind.Ptr e f) h g = nat_trans a b c d e f h g
kind_below-trans (kind.BytePtr a b) (kind.BytePtr c d) (kind.BytePtr e f) h g = nat_trans a b c d e f h g
kind_below-trans k kind.Undef (kind.Int e f) h g = absurd (search rules)
kind_below-trans k (kind.Ptr c d) (kind.Int e f) h g = absurd (search rules)
kind_below-trans k (kind.BytePtr c d) (kind.Int e f) h g = absurd (search rules)
kind_below-trans kind.Undef (kind.Int c d) (kind.Int e f) h g = absurd (search rules)
kind_below-trans (kind.Ptr a b) (kind.Int c d) (kind.Int e f) h g = absurd (search rules)
kind_below-trans (kind.BytePtr a b) (kind.Int c d) (kind.Int e f) h g = absurd (search rules)
kind_below-trans k kind.Undef (kind.Ptr e f) h g = absurd (search rules)
kind_below-trans k (kind.Int c d) (kind.Ptr e f) h g = absurd (search rules)
kind_below-trans k (kind.BytePtr c d) (kind.Ptr e f) h g = absurd (search rules)
kind_below-trans kind.Undef (kind.Ptr c d) (kind.Ptr e f) h g = absurd (search rules)
kind_below-trans (kind.Int a b) (kind.Ptr c d) (kind.Ptr e f) h g = absurd (search rules)
kind_below-trans (kind.BytePtr a b) (kind.Ptr c d) (kind.Ptr e f) h g = absurd (search rules)
kind_below-trans k kind.Undef (kind.BytePtr e f) h g = absurd (search rules)
kind_below-trans k (kind.Int c d) (kind.BytePtr e f) h g = absurd (search rules)
kind_below-trans k (kind.Ptr c d) (kind.BytePtr e f) h g = absurd (search rules)
kind_below-trans kind.Undef (kind.BytePtr c d) (kind.BytePtr e f) h g = absurd (search rules)
kind_below-trans (kind.Int a b) (kind.BytePtr c d) (kind.BytePtr e f) h g = absurd (search rules)
kind_below-trans (kind.Ptr a b) (kind.BytePtr c d) (kind.BytePtr e f) h g = absurd (search rules)

-- the hull of two ranges is above both, and below what is above both
int_left : (a b c d : ℤ) → IsTrue (int_le (int_min a c) a && int_le b (int_max b d))
int_left a b c d = int_within a b (int_min a c) (int_max b d) (omega (arith, ints, clamps)) (omega (arith, ints, clamps))

int_right : (a b c d : ℤ) → IsTrue (int_le (int_min a c) c && int_le d (int_max b d))
int_right a b c d = int_within c d (int_min a c) (int_max b d) (omega (arith, ints, clamps)) (omega (arith, ints, clamps))

nat_left : (a b c d : ℕ) → IsTrue (nat_le (min a c) a && nat_le b (max b d))
nat_left a b c d = nat_within a b (min a c) (max b d) (omega arith) (omega arith)

nat_right : (a b c d : ℕ) → IsTrue (nat_le (min a c) c && nat_le d (max b d))
nat_right a b c d = nat_within c d (min a c) (max b d) (omega arith) (omega arith)

int_least : (a b c d e f : ℤ) → IsTrue (int_le e a && int_le b f) → IsTrue (int_le e c && int_le d f) → IsTrue (int_le e (int_min a c) && int_le (int_max b d) f)
int_least a b c d e f h g =
    let l1 = int_low a b e f h in let l2 = int_low c d e f g in
    let h1 = int_high a b e f h in let h2 = int_high c d e f g in
    int_within (int_min a c) (int_max b d) e f (omega (arith, ints, clamps)) (omega (arith, ints, clamps))

nat_least : (a b c d e f : ℕ) → IsTrue (nat_le e a && nat_le b f) → IsTrue (nat_le e c && nat_le d f) → IsTrue (nat_le e (min a c) && nat_le (max b d) f)
nat_least a b c d e f h g =
    let l1 = nat_low a b e f h in let l2 = nat_low c d e f g in
    let h1 = nat_high a b e f h in let h2 = nat_high c d e f g in
    nat_within (min a c) (max b d) e f (omega arith) (omega arith)

int_min_same : (a : ℤ) → int_min a a ≡ a
int_min_same a = omega (arith, ints, clamps)

int_max_same : (a : ℤ) → int_max a a ≡ a
int_max_same a = omega (arith, ints, clamps)

min_same : (a : ℕ) → min a a ≡ a
min_same a = omega arith

max_same : (a : ℕ) → max a a ≡ a
max_same a = omega arith

pub join_kinds_same : (k : Kind) → join_kinds k k ≡ k
join_kinds_same kind.Undef = refl
join_kinds_same (kind.Int a b) = rw (int_min_same a, int_max_same b) refl
join_kinds_same (kind.Ptr p q) = rw (min_same p, max_same q) refl
join_kinds_same (kind.BytePtr p q) = rw (min_same p, max_same q) refl

pub kind_below-join_left : (k l : Kind) → IsTrue (kind_below k (join_kinds k l))
kind_below-join_left (kind.Int a b) (kind.Int c d) = int_left a b c d
kind_below-join_left (kind.Ptr a b) (kind.Ptr c d) = nat_left a b c d
kind_below-join_left (kind.BytePtr a b) (kind.BytePtr c d) = nat_left a b c d
kind_below-join_left k l = search rules

pub kind_below-join_right : (k l : Kind) → IsTrue (kind_below l (join_kinds k l))
kind_below-join_right (kind.Int a b) (kind.Int c d) = int_right a b c d
kind_below-join_right (kind.Ptr a b) (kind.Ptr c d) = nat_right a b c d
kind_below-join_right (kind.BytePtr a b) (kind.BytePtr c d) = nat_right a b c d
kind_below-join_right k l = search rules

pub kind_below-least : (k l m : Kind) → IsTrue (kind_below k m) → IsTrue (kind_below l m) → IsTrue (kind_below (join_kinds k l) m)
kind_below-least k l kind.Undef h g = search rules
kind_below-least (kind.Int a b) (kind.Int c d) (kind.Int e f) h g = int_least a b c d e f h g
kind_below-least (kind.Ptr a b) (kind.Ptr c d) (kind.Ptr e f) h g = nat_least a b c d e f h g
kind_below-least (kind.BytePtr a b) (kind.BytePtr c d) (kind.BytePtr e f) h g = nat_least a b c d e f h g
kind_below-least kind.Undef l (kind.Int e f) h g = absurd (search rules)
kind_below-least (kind.Ptr a b) l (kind.Int e f) h g = absurd (search rules)
kind_below-least (kind.BytePtr a b) l (kind.Int e f) h g = absurd (search rules)
kind_below-least (kind.Int a b) kind.Undef (kind.Int e f) h g = absurd (search rules)
kind_below-least (kind.Int a b) (kind.Ptr c d) (kind.Int e f) h g = absurd (search rules)
kind_below-least (kind.Int a b) (kind.BytePtr c d) (kind.Int e f) h g = absurd (search rules)
kind_below-least kind.Undef l (kind.Ptr e f) h g = absurd (search rules)
kind_below-least (kind.Int a b) l (kind.Ptr e f) h g = absurd (search rules)
kind_below-least (kind.BytePtr a b) l (kind.Ptr e f) h g = absurd (search rules)
kind_below-least (kind.Ptr a b) kind.Undef (kind.Ptr e f) h g = absurd (search rules)
kind_below-least (kind.Ptr a b) (kind.Int c d) (kind.Ptr e f) h g = absurd (search rules)
kind_below-least (kind.Ptr a b) (kind.BytePtr c d) (kind.Ptr e f) h g = absurd (search rules)
kind_below-least kind.Undef l (kind.BytePtr e f) h g = absurd (search rules)
kind_below-least (kind.Int a b) l (kind.BytePtr e f) h g = absurd (search rules)
kind_below-least (kind.Ptr a b) l (kind.BytePtr e f) h g = absurd (search rules)
kind_below-least (kind.BytePtr a b) kind.Undef (kind.BytePtr e f) h g = absurd (search rules)
kind_below-least (kind.BytePtr a b) (kind.Int c d) (kind.BytePtr e f) h g = absurd (search rules)
kind_below-least (kind.BytePtr a b) (kind.Ptr c d) (kind.BytePtr e f) h g = absurd (search rules)
