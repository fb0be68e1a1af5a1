use Rattle.tp_accept.proofs.Exact.{no_table}
use Rattle.tp_accept.proofs.laws.exact.refused_states_have_no_table.Goals as goal

pub returns : goal.returns
returns c = λ text image state place spelled is cuts cut. no_table text image spelled state place cuts cut is
