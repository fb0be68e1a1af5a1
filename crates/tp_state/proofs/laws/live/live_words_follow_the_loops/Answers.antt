use Rattle.tp_state.proofs.LiveWords.{live_after}
use Rattle.tp_state.proofs.laws.live.live_words_follow_the_loops.Goals as goal

pub returns : goal.returns
returns c = live_after
