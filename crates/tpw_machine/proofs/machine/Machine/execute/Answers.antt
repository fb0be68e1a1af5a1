use Rattle.tpw_machine.proofs.machine.Machine.execute.Goals as goal

pub returns-in-Stopp : goal.returns-in-Stopp
returns-in-Stopp g c = rw c.in-Stopp.is c.stopp.ensures
