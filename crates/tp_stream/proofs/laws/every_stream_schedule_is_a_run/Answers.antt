use Rattle.tp_stream.proofs.StreamRuns.{stream_schedule_law}
use Rattle.tp_stream.proofs.laws.every_stream_schedule_is_a_run.Goals as goal

pub returns : goal.returns
returns c = stream_schedule_law
