use Rattle.tp_rule_laws.proofs.Rules.{keeps_order}
use Rattle.tp_rule_laws.proofs.laws.order.what_follows_keeps_the_order.Goals as goal

pub returns : goal.returns
returns c = keeps_order
