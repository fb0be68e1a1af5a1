use Rattle.std.proofs.Common.{◌∙◌, sym}
use Rattle.tp_state.proofs.PlaneJoins.{none_moved, some_moved, is_zero, is_positive}
use Rattle.tp_state.proofs.planes.join_bits.Goals as goal

pub returns-clause-stays : goal.returns-clause-stays
returns-clause-stays c e = none_moved c.joined-joined.result c.args.bits.now (is_zero _ (sym c.changes-moved.ensures ∙ e))

pub returns-clause-moves : goal.returns-clause-moves
returns-clause-moves c h = some_moved c.joined-joined.result c.args.bits.now (is_positive _ (rw c.changes-moved.ensures at h)) (rw c.changes-moved.ensures at c.changes-moved.type_inv)
