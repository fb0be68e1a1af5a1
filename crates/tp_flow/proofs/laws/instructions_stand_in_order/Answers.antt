use Rattle.tp_flow.proofs.FlowSpelled.{cut_at_its_start}
use Rattle.tp_flow.proofs.laws.instructions_stand_in_order.Goals as goal

pub returns-clause-each : goal.returns-clause-each
returns-clause-each c = λ rows workspace cuts kept i at is. cut_at_its_start cuts i at kept.spelled is
