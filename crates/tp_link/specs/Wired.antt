-- A member's media, and what its wires lead to.
use Rattle.std.specs.Prelude.{ℕ}
use Rattle.std.specs.Global.{Box}
use Rattle.tp_link.specs.Medium.{empty_medium, wired}
use Rattle.tp_link.specs.Wire.{medium_of}
use Rattle.tp_link.specs.declared.links.Links.{Links}
use Rattle.tp_link.specs.declared.wire.Wire.{Wire}
use Rattle.tp_link.specs.declared.media.Media.{Media}

-- media of these rooms, for source, sink and trace, to which no device has led yet
abbrev pub empty_media : ℕ → ℕ → ℕ → Media
empty_media source sink trace = record {
  source = empty_medium source;
  sink = empty_medium sink;
  trace = empty_medium trace;
}

-- media to each of which a new device leads
abbrev pub wired_media : Media → Media
wired_media media = record {
  source = wired media.source;
  sink = wired media.sink;
  trace = wired media.trace;
}

-- the media that a member's wires lead to
abbrev pub seen : Links Wire → Media
seen links = record {
  source = medium_of links.source;
  sink = medium_of links.sink;
  trace = medium_of links.trace;
}

-- the same of wires in boxes
abbrev pub seen_in_boxes : Links (Box Wire) → Media
seen_in_boxes links = record {
  source = medium_of links.source.value;
  sink = medium_of links.sink.value;
  trace = medium_of links.trace.value;
}
