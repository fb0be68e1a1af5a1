use Rattle.std.proofs.Common.{subst}
use Rattle.tpw_occam_symbolic.specs.Flowing.{AreFewAround}
use Rattle.tpw_occam_symbolic.proofs.KeepingRules.{built_keeps}
use Rattle.tpw_occam_symbolic.proofs.program.program_of.Goals as goal

pub returns-clause-rules : goal.returns-clause-rules
returns-clause-rules c base ends =
    built_keeps c.args.worker.now _ c.in_ok-arranged.arranged.placed.items c.in_ok-program.program c.in_ok-program.ensures base ends
    (subst AreFewAround c.loops.ensures c.in_ok-check_loops.ensures)
