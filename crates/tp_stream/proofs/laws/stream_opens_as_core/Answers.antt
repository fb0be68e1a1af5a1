use Rattle.tp_stream.proofs.StreamRuns.{stream_opening_law}
use Rattle.tp_stream.proofs.laws.stream_opens_as_core.Goals as goal

pub returns : goal.returns
returns c = stream_opening_law
