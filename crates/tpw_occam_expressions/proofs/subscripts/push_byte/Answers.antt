use Rattle.tpw_occam_expressions.proofs.Elements.{does_push_variable}
use Rattle.tpw_occam_expressions.proofs.subscripts.push_byte.Goals as goal

pub returns-clause-makes : goal.returns-clause-makes
returns-clause-makes c arrays word h =
    does_push_variable arrays c.args.code.now c.emit.new.self c.instr.new.self c.args.line c.args.x word c.in_ok-emit.ensures c.in_ok-instr.ensures h
