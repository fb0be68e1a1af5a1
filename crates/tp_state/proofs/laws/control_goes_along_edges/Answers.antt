use Rattle.tp_state.proofs.EdgeLemmas.{goes_along}
use Rattle.tp_state.proofs.laws.control_goes_along_edges.Goals as goal

pub returns : goal.returns
returns c = λ image at next instr s t kept here knows is on. goes_along image at next s t here instr kept knows is on
