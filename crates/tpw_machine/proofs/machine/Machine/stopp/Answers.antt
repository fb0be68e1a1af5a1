use Rattle.tpw_machine.proofs.TurnLemmas.{stopp_made, last_phase}
use Rattle.tpw_machine.proofs.machine.Machine.stopp.Goals as goal

pub returns-in-AfterResult : goal.returns-in-AfterResult
returns-in-AfterResult g c = λ before p h. stopp_made c.args.image.now c.args.self.now before _ c.args.phase.now p (last_phase c.args.phase.now c.in-AfterResult.is) h
