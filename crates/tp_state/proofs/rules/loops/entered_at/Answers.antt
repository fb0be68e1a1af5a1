use Rattle.std.proofs.Common.{◌≡◌, None, slice_get, sym, ◌∙◌, subst}
use Rattle.tp_flow.specs.NestRanges.{ranges}
use Rattle.tp_flow.specs.Edges.{target}
use Rattle.tp_state.proofs.NoLoops.{none_entered}
use Rattle.tp_state.proofs.rules.loops.entered_at.Goals as goal

pub returns-in-None : goal.returns-in-None
returns-in-None c image is =
    sym (none_entered (ranges image.loops) c.args.at (target (ranges image.loops) c.args.at c.args.next c.args.instr
    c.args.edge) (subst (λ nest. slice_get nest 0 ≡ None) is (sym c.range.ensures ∙ c.in-None.is)))
