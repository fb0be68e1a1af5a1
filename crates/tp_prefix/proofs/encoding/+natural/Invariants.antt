use Rattle.tp_prefix.proofs.encoding.+natural.Given as goal

abbrev pub decreases-natural : goal.decreases-natural
decreases-natural l = l.operand
