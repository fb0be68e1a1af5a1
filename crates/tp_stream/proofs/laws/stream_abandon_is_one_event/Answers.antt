use Rattle.tp_stream.proofs.StreamWords.{abandon_word}
use Rattle.tp_stream.proofs.laws.stream_abandon_is_one_event.Goals as goal

pub returns : goal.returns
returns c = abandon_word
