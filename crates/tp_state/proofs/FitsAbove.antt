-- What fits, and what fits above it.
use Rattle.std.proofs.Common.{◌≡◌, inl, inr, ℕ, ◌+◌, Bool, false, ◌&&◌, IsTrue, ℤ, int_le, List, Option, sym, ap, ◌∙◌, subst, arith, rules}
use Rattle.std.proofs.lemmas.Int.{ints}
use Rattle.tp_image.specs.declared.image.LoopRow.{LoopRow}
use Rattle.tp_image.specs.Image.{ImageValue}
use Rattle.tp_step.specs.Memory.{Memory, word_at}
use Rattle.tp_step.specs.State.{State as Machine}
use Rattle.tp_state.specs.declared.kind.Kind.{Kind}
use Rattle.tp_state.specs.declared.kind.Kind.TheVariants as kind
use Rattle.tp_state.specs.declared.cell.Cell.{Cell}
use Rattle.tp_state.specs.declared.state.State.{State}
use Rattle.tp_state.specs.CellRules.{cell_at, is_free}
use Rattle.tp_state.specs.Order.{kind_below, cell_below, IsBelow}
use Rattle.tp_state.specs.Fits.{InRange, KindFits, CellFits, LoopsFit, IsAtAddress, FitsAmong, word_address}
use Rattle.tp_state.proofs.OrderLemmas.{int_low, int_high, nat_low, nat_high}
use Rattle.tp_state.proofs.CellOrder.{BelowWays, below_ways}

in_wider : (a b c d : ℤ) (v : ℕ) → IsTrue (int_le c a && int_le b d) → InRange a b v → InRange c d v
in_wider a b c d v h f =
    let low = int_low a b c d h in
    let high = int_high a b c d h in
    let above = f.above in
    let below = f.below in
    record { word = f.word; above = omega (arith, ints); below = omega (arith, ints) }

pub kind_fits_above : (image : ImageValue) (k l : Kind) (r : Option ℕ) → IsTrue (kind_below k l) → KindFits image k r → KindFits image l r
kind_fits_above image k kind.Undef r h f = tt
kind_fits_above image (kind.Int a b) (kind.Int c d) r h (v, is, range) = (v, is, in_wider a b c d v h range)
kind_fits_above image (kind.Ptr a b) (kind.Ptr c d) r h (x, is, low, high, inside) =
    let l = nat_low a b c d h in
    let u = nat_high a b c d h in
    (x, is, omega arith, omega arith, inside)
kind_fits_above image (kind.BytePtr a b) (kind.BytePtr c d) r h (x, is, low, high, inside) =
    let l = nat_low a b c d h in
    let u = nat_high a b c d h in
    (x, is, omega arith, omega arith, inside)
kind_fits_above image kind.Undef (kind.Int c d) r h f = absurd (search rules)
kind_fits_above image (kind.Ptr a b) (kind.Int c d) r h f = absurd (search rules)
kind_fits_above image (kind.BytePtr a b) (kind.Int c d) r h f = absurd (search rules)
kind_fits_above image kind.Undef (kind.Ptr c d) r h f = absurd (search rules)
kind_fits_above image (kind.Int a b) (kind.Ptr c d) r h f = absurd (search rules)
kind_fits_above image (kind.BytePtr a b) (kind.Ptr c d) r h f = absurd (search rules)
kind_fits_above image kind.Undef (kind.BytePtr c d) r h f = absurd (search rules)
kind_fits_above image (kind.Int a b) (kind.BytePtr c d) r h f = absurd (search rules)
kind_fits_above image (kind.Ptr a b) (kind.BytePtr c d) r h f = absurd (search rules)

pub cell_fits_above : (rows : List LoopRow) (c d : Cell) (r : Option ℕ) → IsTrue (cell_below c d) → CellFits rows c r → CellFits rows d r
cell_fits_above rows c d r h f = by_ways (below_ways c d h)
  where
    by_ways : BelowWays c d → CellFits rows d r
    by_ways (inl same) = subst (λ x. CellFits rows x r) same f
    by_ways (inr (inl (undef, free))) = subst (λ x. CellFits rows x r) (sym undef) tt
    by_ways (inr (inr (any, (n, known)))) =
        let at_n = subst (λ x. CellFits rows x r) known f in
        subst (λ x. CellFits rows x r) (sym any) (at_n.0, at_n.1, at_n.2.word)

-- a live control word stays itself, and a free word stays free
live_above : (c d : Cell) → IsTrue (cell_below c d) → is_free c ≡ false → d ≡ c
live_above c d h live = by_ways (below_ways c d h)
  where
    by_ways : BelowWays c d → d ≡ c
    by_ways (inl same) = sym same
    by_ways (inr (inl (undef, free))) = absurd (cc)
    by_ways (inr (inr (any, (n, known)))) = absurd (cc)

free_above : (c d : Cell) → IsTrue (cell_below c d) → is_free d ≡ false → is_free c ≡ false
free_above c d h live = by_ways (below_ways c d h)
  where
    by_ways : BelowWays c d → is_free c ≡ false
    by_ways (inl same) = ap is_free same ∙ live
    by_ways (inr (inl (undef, free))) = absurd (cc)
    by_ways (inr (inr (any, known))) = absurd (cc)

loops_fit_above : (rows : List LoopRow) (around : ℕ → Bool) (cells cells' : List Cell) (m : Memory) →
    ((i : ℕ) → IsTrue (cell_below (cell_at cells i) (cell_at cells' i))) → LoopsFit rows around cells m →
    LoopsFit rows around cells' m
loops_fit_above rows around cells cells' m below f = record {
  live = λ l row is row_is.
      let b = f.live l row is row_is in
      record {
        index_cell = kept row.control (ap is_free b.index_cell) ∙ b.index_cell;
        count_cell = kept (row.control + 1) (ap is_free b.count_cell) ∙ b.count_cell;
        index = b.index;
        left = b.left;
        index_is = b.index_is;
        left_is = b.left_is;
        sum = b.sum;
      };
  only = λ x live. f.only x (free_above (cell_at cells x) (cell_at cells' x) (below x) live);
}
  where
    kept : (x : ℕ) → is_free (cell_at cells x) ≡ false → cell_at cells' x ≡ cell_at cells x
    kept x live = live_above (cell_at cells x) (cell_at cells' x) (below x) live

-- what fits a state fits every state above it
pub fits_above : (image : ImageValue) (around : ℕ → Bool) (at : ℕ) (t u : State) (s : Machine) → IsBelow t u → FitsAmong image around at t s → FitsAmong image around at u s
fits_above image around at t u s h f = record {
  place = subst (λ x. IsAtAddress image at x s) h.wptr f.place;
  phase = f.phase ∙ h.phase;
  registers = record {
    a = kind_fits_above image t.a u.a s.areg h.a f.registers.a;
    b = kind_fits_above image t.b u.b s.breg h.b f.registers.b;
    c = kind_fits_above image t.c u.c s.creg h.c f.registers.c;
  };
  words = record {
    sized = sym h.sized ∙ f.words.sized;
    word = λ x lt. cell_fits_above image.loops (cell_at t.cells x) (cell_at u.cells x) (word_at s.memory (word_address x)) (h.cells x) (f.words.word x lt);
  };
  bytes = f.bytes;
  packet = f.packet;
  loops = loops_fit_above image.loops around t.cells u.cells s.memory h.cells f.loops;
}
