-- What is printed of a link.
use Rattle.std.specs.Prelude.{ℕ, List, codes}
use Rattle.tp_link.specs.declared.links.Link.{Link}
use Rattle.tp_link.specs.declared.links.Link.TheVariants.{Source, Sink, Trace}

abbrev pub link_text : Link → List ℕ
link_text Source = codes "source"
link_text Sink = codes "sink"
link_text Trace = codes "trace"
