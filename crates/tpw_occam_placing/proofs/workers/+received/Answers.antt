use Rattle.std.proofs.Common.{sym, ◌∙◌}
use Rattle.tpw_occam_placing.proofs.Working.{array_received}
use Rattle.tpw_occam_placing.proofs.workers.+received.Goals as goal

pub returns-in-Some : goal.returns-in-Some
returns-in-Some t c =
    array_received c.args.tables.now c.args.scope.now c.args.p.now c.in-ReceiveArray.a c.in-Some.n c.in-ReceiveArray.is
    (sym c.array.ensures ∙ c.in-Some.is)
