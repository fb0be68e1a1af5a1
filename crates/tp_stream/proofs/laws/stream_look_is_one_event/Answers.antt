use Rattle.tp_stream.proofs.StreamWords.{look_word}
use Rattle.tp_stream.proofs.laws.stream_look_is_one_event.Goals as goal

pub returns : goal.returns
returns c = look_word
