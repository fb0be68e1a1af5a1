use Rattle.tp_board.proofs.Events.{accounts_law}
use Rattle.tp_board.proofs.laws.rule_keeps_accounts.Goals as goal

pub returns : goal.returns
returns c = accounts_law
