-- What a batch's own thread does at its stream.
use Rattle.std.specs.Prelude.{◌≡◌, ◌⊎◌, []}
use Rattle.tp_stream.specs.Streams.{FeederView, IsAllPushed}

-- it has put nothing down, and has not stopped the stream
pub record HasOnlyFed (f : FeederView) : Type 0 where
  pub none_finished : f.place.finished ≡ []
  pub none_abandoned : f.place.abandoned ≡ []
  pub not_stopped : f.place.stop_callers ≡ 0

-- it has pushed all packets and an end mark for each member, or it has seen the stop mark
abbrev pub HasEnded : FeederView → Type 0
HasEnded f = IsAllPushed f.turn ⊎ (f.place.seen.stop ≡ 1)
