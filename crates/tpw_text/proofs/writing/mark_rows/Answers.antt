use Rattle.std.proofs.Common.{arith}
use Rattle.tpw_text.specs.Written.{names_from_row}
use Rattle.tpw_text.proofs.Written.{marked_all, marked_more, marked_nothing}
use Rattle.tpw_text.proofs.writing.mark_rows.Goals as goal

pub loop-row-init : goal.loop-row-init
loop-row-init c = marked_nothing c.args.marks.now

pub loop-row-preserved : goal.loop-row-preserved
loop-row-preserved c =
    marked_more names_from_row c.args.rows.now c.loop-row.row-index _ c.args.marks.now c.loop-row.marks _ (omega arith) (omega arith) c.loop-row.invariant c.mark_row.ensures

pub returns : goal.returns
returns c = marked_all names_from_row c.args.rows.now c.loop-row.row-index c.args.marks.now c.loop-row.marks c.loop-row-test.false c.loop-row.invariant
