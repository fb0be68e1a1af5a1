use Rattle.std.proofs.Common.{◌<◌, length, get_or, inr, arith}
use Rattle.tp_state.specs.Planes.{no_bits}
use Rattle.tp_state.proofs.AgreeLemmas.{tells_agreeing}
use Rattle.tp_state.proofs.PlaneJoins.{TellsDiffer, tells_joining, joins_more}
use Rattle.tp_state.proofs.planes.join_planes.Goals as goal
use Rattle.tp_state.proofs.planes.join_planes.Goals.{then-agree, else-agree}

pub loop-w-preserved : goal.loop-w-preserved
loop-w-preserved c =
    joins_more c.args.values.now c.args.other_values.now c.args.planes.now c.args.others.now c.loop-w.planes c.loop-w.w
    c.if-agree.differ c.join_bits-moved.new.bits c.loop-w.moved c.join_bits-moved.result
    (λ i. (c.type_inv.values i).fits) (λ i. (c.type_inv.other_values i).fits) reports room c.loop-w.invariant
    c.join_bits-moved.ensures.value c.join_bits-moved.ensures.stays c.join_bits-moved.ensures.moves
  where
    room : c.loop-w.w < length c.loop-w.planes
    room = omega arith

    in_old : c.loop-w.w < length c.args.planes.now
    in_old = omega arith

    reports : TellsDiffer c.args.values.now c.args.other_values.now c.loop-w.w c.if-agree.differ (get_or c.loop-w.planes c.loop-w.w no_bits) (get_or c.args.others.now c.loop-w.w no_bits)
    reports =
        elim c.if-agree.branch [
          | then-agree w ↦ rw w.differ-is (tells_agreeing c.args.values.now c.args.other_values.now c.args.planes.now
              c.args.others.now c.loop-w.planes c.loop-w.w (c.requires.agree w.if-agree.true) in_old
              (λ p here. c.loop-w.invariant.joined.outside p (inr (omega (arith, here)))))
          | else-agree w ↦ rw w.differ-is (tells_joining c.args.values.now c.args.other_values.now c.args.planes.now
              c.args.others.now c.loop-w.planes c.loop-w.w w.closed.result w.differing-differ.result
              c.requires.whole.padded room c.loop-w.invariant.joined w.differing-differ.ensures w.closed.ensures)
        ]
