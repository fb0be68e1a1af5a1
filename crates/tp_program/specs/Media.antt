-- The media of a member's devices.
use Rattle.std.specs.Prelude.{◌≤◌}
use Rattle.tp_link.specs.declared.media.Media.{Media}
use Rattle.tp_collect.specs.DoneValue.{most_trace}

-- each has room for the longest trace; no packet and no result is longer
pub record HaveRoom (media : Media) : Type 0 where
  pub source : most_trace ≤ media.source.room
  pub sink : most_trace ≤ media.sink.room
  pub trace : most_trace ≤ media.trace.room
