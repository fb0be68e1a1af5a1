use Rattle.tp_machine.proofs.Operating.{leads_sum}
use Rattle.tp_machine.proofs.registers.Registers.sum.Goals as goal

pub returns : goal.returns
returns c bytes = rw (c.replace_pair.ensures, c.sum.ensures) (leads_sum c.args.self.now bytes)
