use Rattle.std.proofs.Common.{◌≤◌, length, subst, ◌∙◌, arith, length-set}
use Rattle.tp_check.proofs.Counting.{begun_next, begun_all}
use Rattle.tp_check.proofs.predecessors.Predecessors.beginning.Goals as goal

pub loop-row-preserved : goal.loop-row-preserved
loop-row-preserved c = record {
  rows = c.loop-row.invariant.rows;
  sized = length-set c.loop-row.predecessors.items _ _ ∙ c.loop-row.invariant.sized;
  begun = begun_next c.args.image.now c.args.listing.now c.deref-row-items.result.now c.loop-row.invariant.rows
      c.loop-row.row-index _ c.loop-row-test.true c.loop-row.predecessors.items c.args.places c.loop-row.invariant.sized
      c.requires.kept.loops c.requires.places c.loop-row.invariant.begun;
}

pub returns-clause-reports : goal.returns-clause-reports
returns-clause-reports c =
    begun_all c.args.image.now c.args.listing.now c.loop-row.row-index
    (subst (λ rows. length rows ≤ c.loop-row.row-index) c.loop-row.invariant.rows
    (let e = c.loop-row-test.false in omega (arith, e))) c.loop-row.predecessors.items c.loop-row.invariant.begun
