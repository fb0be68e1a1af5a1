use Rattle.std.proofs.Common.{◌≡◌, ℕ, ◌+◌, ◌-◌, List, length, sum}
use Rattle.tpw_asm.specs.Layout.{IsLayout, AreAtMost}
use Rattle.tpw_asm.proofs.LayoutLemmas.{needed}
use Rattle.tpw_asm.proofs.layout.least_layout.Given as goal

-- no line is longer than in any layout, and none shorter than these lengths ask for
abbrev pub invariant-loop-lengths : goal.invariant-loop-lengths
invariant-loop-lengths l = record {
  count : length l.lengths.items ≡ length l.lines;
  least : (others : List ℕ) → IsLayout l.lines others → AreAtMost l.lengths.items others;
  growing : AreAtMost l.lengths.items (needed l.lines l.lengths.items);
}

abbrev pub decreases-loop-lengths : goal.decreases-loop-lengths
decreases-loop-lengths l = l.most + 1 - sum l.lengths.items
