use Rattle.std.proofs.Common.{arith}
use Rattle.std.proofs.lemmas.Bool.Decides.{nat_tests}
use Rattle.tpw_occam_core.proofs.Tables.{all_bytes}
use Rattle.tpw_occam_core.proofs.sound.is_sized_table.Goals as goal

pub returns-then-not-is_empty : goal.returns-then-not-is_empty
returns-then-not-is_empty c = rw (all_bytes c.args.bytes.now (λ i. omega (arith, c.type_inv.bytes i))) (grind (arith, nat_tests, c.is_empty.ensures, c.if-not-is_empty.true))
