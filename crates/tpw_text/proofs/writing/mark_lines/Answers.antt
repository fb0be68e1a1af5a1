use Rattle.std.proofs.Common.{arith}
use Rattle.tpw_text.specs.Written.{names_from_line}
use Rattle.tpw_text.proofs.Written.{marked_all, marked_more, marked_nothing}
use Rattle.tpw_text.proofs.writing.mark_lines.Goals as goal

pub loop-line-init : goal.loop-line-init
loop-line-init c = marked_nothing c.args.marks.now

pub loop-line-preserved : goal.loop-line-preserved
loop-line-preserved c =
    marked_more names_from_line c.args.lines.now c.loop-line.line-index _ c.args.marks.now c.loop-line.marks _ (omega arith) (omega arith) c.loop-line.invariant c.mark_line.ensures

pub returns : goal.returns
returns c = marked_all names_from_line c.args.lines.now c.loop-line.line-index c.args.marks.now c.loop-line.marks c.loop-line-test.false c.loop-line.invariant
