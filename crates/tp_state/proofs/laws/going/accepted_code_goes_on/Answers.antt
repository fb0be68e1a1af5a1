use Rattle.tp_flow.proofs.FlowKept.{nest_kept}
use Rattle.tp_state.proofs.GoingOn.{accepted_goes_on}
use Rattle.tp_state.proofs.laws.going.accepted_code_goes_on.Goals as goal

pub returns : goal.returns
returns c = λ image cuts range cutting flows. accepted_goes_on image cuts range cutting (nest_kept image cuts cutting flows)
