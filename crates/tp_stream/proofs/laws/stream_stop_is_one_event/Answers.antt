use Rattle.tp_stream.proofs.StreamWords.{stop_word}
use Rattle.tp_stream.proofs.laws.stream_stop_is_one_event.Goals as goal

pub returns : goal.returns
returns c = stop_word
