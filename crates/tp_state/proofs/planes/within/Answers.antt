use Rattle.std.proofs.Common.{ap, ◌∙◌, min}
use Rattle.tp_state.proofs.PlaneBits.{set_within}
use Rattle.tp_state.proofs.planes.within.Goals as goal

pub returns : goal.returns
returns c j lt =
    let to = c.min-through.ensures ∙ ap (λ n. min n 64) c.saturating_sub-2.ensures in
    let from = c.min-below.ensures ∙ ap (λ n. min n 64) c.saturating_sub.ensures in
    rw (c.low.ensures, c.low-2.ensures) (set_within c.args.x c.args.end c.args.w j c.min-through.result c.min-below.result to from c.requires.order lt)
