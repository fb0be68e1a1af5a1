use Rattle.std.proofs.Common.{sym}
use Rattle.tp_flow.proofs.FlowFirst.{no_fault}
use Rattle.tp_flow.proofs.FlowKept.{nest_kept}
use Rattle.tp_flow.proofs.flow.check_flow.Goals as goal

pub returns-in-None-clause-kept : goal.returns-in-None-clause-kept
returns-in-None-clause-kept c =
    nest_kept c.args.image.now c.args.listing.now c.requires (no_fault c.args.image.now c.args.listing.now (sym c.in_default.ensures) (sym c.in-None.ensures))
