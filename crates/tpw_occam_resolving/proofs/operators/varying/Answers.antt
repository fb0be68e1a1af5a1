use Rattle.std.proofs.Common.{ap, ◌∙◌}
use Rattle.tpw_occam_meaning.specs.Values.{Varying, combined}
use Rattle.tpw_occam_resolving.proofs.operators.varying.Goals as goal

pub returns : goal.returns
returns c =
    ap Varying c.in_ok-dyadic_expression.ensures
    ∙ (λ i. Varying (λ s. combined c.args.operator (c.in_ok-left.ensures i s) (c.in_ok-right.ensures i s)))
