use Rattle.std.proofs.Common.{◌≡◌, ◌≢◌, ◌<◌, ◌+◌, ◌⊎◌, inl, inr, ℕ, List, length, slice_set, get_or-set_same, get_or-set_other, length-set, ◌∙◌, arith}
use Rattle.std.proofs.lemmas.Bool.{cases_eq}
use Rattle.std.proofs.lemmas.List.{ext_get_or}
use Rattle.tp_state.specs.declared.cell.Cell.{Cell}
use Rattle.tp_state.specs.declared.cell.Cell.TheVariants.{Undef}
use Rattle.tp_state.specs.CellRules.{cell_at}
use Rattle.tp_state.proofs.SeenLemmas.{length_seen}
use Rattle.tp_state.proofs.cells.Cells.from_slice.Goals as goal

written_on : (new cells : List Cell) (x : ℕ) → length new ≡ length cells → x < length cells → ((k : ℕ) → k < x → cell_at new k ≡ cell_at cells k)
    → (k : ℕ) → k < x + 1 → cell_at (slice_set new x (cell_at cells x)) k ≡ cell_at cells k
written_on new cells x sized inside before k lt = by_place (cases_eq k x)
  where
    by_place : (k ≡ x) ⊎ (k ≢ x) → cell_at (slice_set new x (cell_at cells x)) k ≡ cell_at cells k
    by_place (inl here) = rw here (get_or-set_same new x (cell_at cells x) Undef (omega (arith, sized, inside)))
    by_place (inr other) = get_or-set_other new x k (cell_at cells x) Undef other ∙ before k (omega (arith, lt, other))

pub loop-x-init : goal.loop-x-init
loop-x-init c = record {
  sized = length_seen c.in_ok-values.values.items c.whole_planes-planes.result.items ∙ c.in_ok-values.ensures.long;
  written = λ k lt. absurd (omega (arith, lt));
}

pub set-requires : goal.set-requires
set-requires c = let sized = c.loop-x.invariant.sized in let inside = c.loop-x-test.true in omega (arith, sized, inside)

pub loop-x-preserved : goal.loop-x-preserved
loop-x-preserved c = rw c.set.ensures record {
  sized = length-set c.loop-x.new c.loop-x.x (cell_at c.args.cells.now c.loop-x.x) ∙ c.loop-x.invariant.sized;
  written = written_on c.loop-x.new c.args.cells.now c.loop-x.x c.loop-x.invariant.sized c.loop-x-test.true c.loop-x.invariant.written;
}

pub returns : goal.returns
returns c =
    let all = c.loop-x-test.false in
    let sized = c.loop-x.invariant.sized in
    ext_get_or Undef c.loop-x.new c.args.cells.now sized λ k lt. c.loop-x.invariant.written k (omega (arith, all, sized, lt))
