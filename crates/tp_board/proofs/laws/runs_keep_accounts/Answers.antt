use Rattle.tp_board.proofs.Runs.{run_law}
use Rattle.tp_board.proofs.laws.runs_keep_accounts.Goals as goal

pub returns : goal.returns
returns c = run_law
