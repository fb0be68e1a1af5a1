use Rattle.std.proofs.Common.{arith}
use Rattle.tpw_occam_resolving.proofs.Making.{checked_made}
use Rattle.tpw_occam_resolving.proofs.values.checked.Goals as goal

pub returns-in_ok-checked-in-Ok : goal.returns-in_ok-checked-in-Ok
returns-in_ok-checked-in-Ok c =
    checked_made c.in-Ok.size c.args.size c.in-Varying.i c.in_ok-checked-in-Ok.field-0 c.args.i (omega arith)
    c.in-Varying.is c.in_ok-checked-in-Ok.ensures
