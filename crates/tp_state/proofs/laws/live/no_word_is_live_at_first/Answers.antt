use Rattle.tp_state.proofs.LiveWords.{none_live}
use Rattle.tp_state.proofs.laws.live.no_word_is_live_at_first.Goals as goal

pub returns : goal.returns
returns c = none_live
