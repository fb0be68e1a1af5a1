use Rattle.std.proofs.Common.{◌≡◌, ◌<◌, ◌≤◌, ◌*◌, ◌^◌, false, map, slice_index, ℕ}
use Rattle.std.specs.List.{list_any}
use Rattle.tpw_occam_core.specs.Sound.{bytes_of, globals, is_array}
use Rattle.tpw_occam_symbolic.specs.Leading.{word_bytes}
use Rattle.tpw_occam_symbolic.proofs.uses.zeros.Given as goal

-- the words are enough for the arrays so far that are not declared for the whole worker
abbrev pub invariant-loop-a : goal.invariant-loop-a
invariant-loop-a l =
    (a : ℕ) → a < l.a → list_any (is_array a) (globals l.worker) ≡ false → slice_index (map bytes_of l.worker.arrays.items) a < 2 ^ 32
    → word_bytes (slice_index (map bytes_of l.worker.arrays.items) a) ≤ 4 * l.words
