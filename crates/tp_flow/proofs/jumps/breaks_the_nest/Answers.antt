use Rattle.std.proofs.Common.{sym}
use Rattle.tp_flow.proofs.Alike.{alike_keeps}
use Rattle.tp_flow.proofs.jumps.breaks_the_nest.Goals as goal

pub returns-then-has_both : goal.returns-then-has_both
returns-then-has_both c =
    let both = c.has_both.ensures c.if-has_both.true in
    sym (alike_keeps c.args.nest.now c.args.stretch.first c.args.stretch.last c.args.at c.args.to c.requires both.0 both.1 both.2)
