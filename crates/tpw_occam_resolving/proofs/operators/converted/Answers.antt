use Rattle.tpw_occam_resolving.proofs.Making.{narrowed}
use Rattle.tpw_occam_resolving.proofs.operators.converted.Goals as goal

pub returns-in_ok-byte-in-Varying : goal.returns-in_ok-byte-in-Varying
returns-in_ok-byte-in-Varying c =
    narrowed c.args.from c.args.to c.args.a c.in-Varying.e c.in_ok-byte-in-Varying.field-0 c.in-Int-Byte.is-0
    c.in-Int-Byte.is-1 c.in-Varying.is c.in_ok-byte-in-Varying.ensures
