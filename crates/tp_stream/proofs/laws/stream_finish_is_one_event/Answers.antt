use Rattle.tp_stream.proofs.StreamWords.{finish_word}
use Rattle.tp_stream.proofs.laws.stream_finish_is_one_event.Goals as goal

pub returns : goal.returns
returns c = finish_word
