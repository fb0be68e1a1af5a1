use Rattle.tp_state.proofs.LiveLoops.{same_agree, live_joined}
use Rattle.tp_state.proofs.laws.live.words_of_the_same_loops_agree.Goals as goal

pub returns-clause-agree : goal.returns-clause-agree
returns-clause-agree c = same_agree

pub returns-clause-join : goal.returns-clause-join
returns-clause-join c rows around cells others long f g = live_joined rows around cells others f g long
