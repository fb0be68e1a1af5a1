-- The order of cells, and of states.
use Rattle.std.proofs.Common.{◌≡◌, ◌⊎◌, inl, inr, ℕ, ◌==◌, IsTrue, ℤ, refl, sym, ap, ◌∙◌, arith, rules}
use Rattle.std.proofs.lemmas.Bool.Decides.{nat_tests}
use Rattle.std.proofs.lemmas.Int.{ints}
use Rattle.std.specs.Ordering.{int_eq}
use Rattle.tp_state.specs.declared.cell.Cell.{Cell}
use Rattle.tp_state.specs.declared.cell.Cell.TheVariants.{Undef, Any, Known, Index, Count}
use Rattle.tp_state.specs.CellRules.{is_free}
use Rattle.tp_state.specs.Order.{cell_below}

pub same_int : (n m : ℤ) → IsTrue (int_eq n m) → n ≡ m
same_int n m h = grind (arith, ints)

pub same_nat : (l k : ℕ) → IsTrue (l == k) → l ≡ k
same_nat l k h = grind (arith, nat_tests)

-- the ways in which a cell is below another
abbrev pub BelowWays : Cell → Cell → Type 0
BelowWays c d = (c ≡ d) ⊎ (((d ≡ Undef) × IsTrue (is_free c)) ⊎ ((d ≡ Any) × ((n : ℤ) × (c ≡ Known n))))

pub below_ways : (c d : Cell) → IsTrue (cell_below c d) → BelowWays c d
below_ways c Undef h = inr (inl (refl, h))
below_ways Any Any h = inl refl
below_ways (Known n) Any h = inr (inr (refl, (n, refl)))
below_ways (Known n) (Known m) h = inl (ap Known (same_int n m h))
below_ways (Index l) (Index k) h = inl (ap Index (same_nat l k h))
below_ways (Count l) (Count k) h = inl (ap Count (same_nat l k h))
below_ways Undef Any h = absurd (search rules)
below_ways (Index l) Any h = absurd (search rules)
below_ways (Count l) Any h = absurd (search rules)
below_ways Undef (Known m) h = absurd (search rules)
below_ways Any (Known m) h = absurd (search rules)
below_ways (Index l) (Known m) h = absurd (search rules)
below_ways (Count l) (Known m) h = absurd (search rules)
below_ways Undef (Index k) h = absurd (search rules)
below_ways Any (Index k) h = absurd (search rules)
below_ways (Known n) (Index k) h = absurd (search rules)
below_ways (Count l) (Index k) h = absurd (search rules)
below_ways Undef (Count k) h = absurd (search rules)
below_ways Any (Count k) h = absurd (search rules)
below_ways (Known n) (Count k) h = absurd (search rules)
below_ways (Index l) (Count k) h = absurd (search rules)

pub int_self : (n : ℤ) → IsTrue (int_eq n n)
int_self n = grind (arith, ints)

pub nat_self : (n : ℕ) → IsTrue (n == n)
nat_self n = grind (arith, nat_tests)

pub cell_below-self : (c : Cell) → IsTrue (cell_below c c)
cell_below-self Undef = search rules
cell_below-self Any = search rules
cell_below-self (Known n) = int_self n
cell_below-self (Index l) = nat_self l
cell_below-self (Count l) = nat_self l

-- what is below a free cell is free
pub free_below : (c d : Cell) → IsTrue (cell_below c d) → IsTrue (is_free d) → IsTrue (is_free c)
free_below c d h free = by_ways (below_ways c d h)
  where
    by_ways : BelowWays c d → IsTrue (is_free c)
    by_ways (inl same) = rw same free
    by_ways (inr (inl (undef, is))) = is
    by_ways (inr (inr (any, (n, known)))) = rw known (search rules)

pub cell_below-trans : (c d e : Cell) → IsTrue (cell_below c d) → IsTrue (cell_below d e) → IsTrue (cell_below c e)
cell_below-trans c d e h g = by_ways (below_ways d e g)
  where
    known_any : BelowWays c d → (n : ℤ) → d ≡ Known n → IsTrue (cell_below c Any)
    known_any (inl same) n known = rw (same, known) (search rules)
    known_any (inr (inl (undef, is))) n known = absurd (cc)
    known_any (inr (inr (any, more))) n known = absurd (cc)

    by_ways : BelowWays d e → IsTrue (cell_below c e)
    by_ways (inl same) = rw (← same) h
    by_ways (inr (inl (undef, free))) = rw undef (free_below c d h free)
    by_ways (inr (inr (any, (n, known)))) = rw any (known_any (below_ways c d h) n known)

pub cell_below-antisym : (c d : Cell) → IsTrue (cell_below c d) → IsTrue (cell_below d c) → c ≡ d
cell_below-antisym c d h g = by_ways (below_ways c d h) (below_ways d c g)
  where
    by_ways : BelowWays c d → BelowWays d c → c ≡ d
    by_ways (inl same) _ = same
    by_ways _ (inl same) = sym same
    by_ways (inr (inl (undef, is))) (inr (inl (undef', is'))) = undef' ∙ sym undef
    by_ways (inr (inl (undef, is))) (inr (inr (any, (n, known)))) = absurd (cc)
    by_ways (inr (inr (any, (n, known)))) (inr (inl (undef, is))) = absurd (cc)
    by_ways (inr (inr (any, (n, known)))) (inr (inr (any', (m, known')))) = absurd (cc)
