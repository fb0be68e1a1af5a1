use Rattle.tp_state.proofs.PlaneValues.{differ_more, alike_more}
use Rattle.tp_state.proofs.values.differing_few.Goals as goal
use Rattle.tp_state.proofs.values.differing_few.Goals.{then-values-j, else-values-j}

pub loop-j-preserved : goal.loop-j-preserved
loop-j-preserved c =
    elim c.if-values-j.branch [
      | then-values-j w ↦ rw (w.bits-is, w.one-bits.ensures) (differ_more c.args.values.now c.args.others.now c.loop-j.bits c.loop-j.j c.loop-j.invariant w.if-values-j.true)
      | else-values-j w ↦ rw w.bits-is (alike_more c.args.values.now c.args.others.now c.loop-j.bits c.loop-j.j c.loop-j.invariant w.if-values-j.false)
    ]
