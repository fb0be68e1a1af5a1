use Rattle.std.proofs.Common.{ap, ◌∙◌}
use Rattle.std.specs.Option.{is_some}
use Rattle.tp_flow.proofs.Alike.{number_starts}
use Rattle.tp_flow.proofs.jumps.is_start.Goals as goal

pub returns : goal.returns
returns c = c.is_some.ensures ∙ ap is_some c.index_of.ensures ∙ number_starts 0 c.args.listing.now c.args.at
