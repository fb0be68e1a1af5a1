use Rattle.std.proofs.Common.{◌≡◌, ◌<◌, ℕ, ◌+◌, ◌*◌, w32}
use Rattle.std.specs.Prelude.{slice_index}
use Rattle.std.specs.Int.{to_le_bytes}
use Rattle.tpw_occam_symbolic.specs.Blocks.{bytes_at}
use Rattle.tpw_occam_symbolic.specs.Placing.{first_blocks}
use Rattle.tpw_occam_symbolic.proofs.initial.holds.Given as goal

-- the words so far are the item's
abbrev pub invariant-loop-i : goal.invariant-loop-i
invariant-loop-i l =
    (j : ℕ) → j < l.i
    → to_le_bytes w32 (slice_index l.words (5 + l.place.local + j)) ≡ bytes_at (first_blocks l.worker) l.place.item (4 * j) 4
