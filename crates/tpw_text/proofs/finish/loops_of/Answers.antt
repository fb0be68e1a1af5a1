use Rattle.std.proofs.Common.{Ok, ap, sym, ◌∙◌, arith}
use Rattle.std.proofs.lemmas.Result.{err_from_is_err_and}
use Rattle.tpw_text.specs.Programs.{loop_placed}
use Rattle.tpw_text.proofs.Programs.{each_more, each_fault}
use Rattle.tpw_text.proofs.finish.loops_of.Goals as goal

pub returns-in_err-loop_of-clause-refused : goal.returns-in_err-loop_of-clause-refused
returns-in_err-loop_of-clause-refused c =
    let p = err_from_is_err_and c.from_residual.result c.from_residual.ensures.1 in
    rw (p.1, p.2) (each_fault (loop_placed c.args.labels.now) c.args.rows.now c.loop-row.row-index _
    c.in_err-loop_of.field-0.0 c.loop-row.loops.items (omega arith) c.in_err-loop_of.ensures c.loop-row.invariant)

pub loop-row-preserved : goal.loop-row-preserved
loop-row-preserved c =
    each_more (loop_placed c.args.labels.now) c.args.rows.now c.loop-row.row-index _
    c.in_ok-loop_of.field-0 c.loop-row.loops.items (omega arith) c.in_ok-loop_of.ensures c.loop-row.invariant
    ∙ ap Ok (sym c.in_ok-push.ensures.items)
