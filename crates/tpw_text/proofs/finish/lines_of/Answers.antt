use Rattle.std.proofs.Common.{Ok, ap, sym, ◌∙◌, arith}
use Rattle.std.proofs.lemmas.Result.{err_from_is_err_and}
use Rattle.tpw_text.specs.Programs.{line_placed}
use Rattle.tpw_text.proofs.Programs.{each_more, each_fault}
use Rattle.tpw_text.proofs.finish.lines_of.Goals as goal

pub returns-in_err-line_of-clause-refused : goal.returns-in_err-line_of-clause-refused
returns-in_err-line_of-clause-refused c =
    let p = err_from_is_err_and c.from_residual.result c.from_residual.ensures.1 in
    rw (p.1, p.2) (each_fault (line_placed c.args.labels.now) c.args.lines.now c.loop-line.line-index _
    c.in_err-line_of.field-0.0 c.loop-line.placed.items (omega arith) c.in_err-line_of.ensures c.loop-line.invariant)

pub loop-line-preserved : goal.loop-line-preserved
loop-line-preserved c =
    each_more (line_placed c.args.labels.now) c.args.lines.now c.loop-line.line-index _ c.in_ok-line_of.field-0 c.loop-line.placed.items (omega arith) c.in_ok-line_of.ensures c.loop-line.invariant
    ∙ ap Ok (sym c.in_ok-push.ensures.items)
